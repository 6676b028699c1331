-- Steps of calls that repeat: each adds nodes at the end alone, and made again later it answers the same and adds none.
use Rattle.std.proofs.Common.{◌≡◌, ℕ, suc, ◌*◌, ◌/◌, length, List, [], ◌∷◌, ◌++◌, Bool, true, false, cond, Option, Some, None, refl, sym, ap, subst, ◌∙◌}
use Rattle.std.specs.Prelude.{nat_eq, nat_lt}
use Rattle.std.proofs.lemmas.List.{append_assoc, append-nil}
use Rattle.lola_alg.specs.Steps.{Step, into, pairs_step, both_step, either_step, differ_step}
use Rattle.lola_bits.proofs.Options.{some_same}
use Rattle.lola_net.specs.declared.node.Node.{Node}
use Rattle.lola_gate.specs.Repeated.{Later, Repeated}
use Rattle.lola_gate.proofs.Again.{gates_repeat, there}
use Rattle.lola_net.specs.declared.node.Node.TheVariants.{Gate}
use Rattle.lola_gate.specs.Gates.{gates, found, shared_or, shared, both_of, flipped, gates_calls}

pub later_same : (d : List Node) → Later d d
later_same d = record { more = []; is = sym (append-nil d) }

pub later_on : (a b c : List Node) → Later a b → Later b c → Later a c
later_on a b c x y = record { more = x.more ++ y.more; is = y.is ∙ ap (λ d. d ++ y.more) x.is ∙ append_assoc a x.more y.more }

-- one step and then another that takes what the first made
pub then_repeated : {X Y : Type 0} (s : Step (List Node) X) (next : X → Step (List Node) Y) → Repeated s → ((x : X) → Repeated (next x)) → Repeated (λ d. into (s d) next)
then_repeated {X = X} {Y = Y} s next rs rn = record {
  grows = λ d made e. by_grows d made (s d) refl e;
  again = λ d e made is later. by_again d e made (s d) refl is later;
}
  where
    by_grows : (d : List Node) (made : List Node × Y) (r : Option (List Node × X)) → s d ≡ r → into r next ≡ Some made → Later d made.0
    by_grows d made None q e = absurd (let f : None ≡ Some made = e in cc)
    by_grows d made (Some first) q e = later_on d first.0 made.0 (rs.grows d first q) ((rn first.1).grows first.0 made e)

    by_again : (d e : List Node) (made : List Node × Y) (r : Option (List Node × X)) → s d ≡ r → into r next ≡ Some made → Later made.0 e → into (s e) next ≡ Some (e, made.1)
    by_again d e made None q is later = absurd (let f : None ≡ Some made = is in cc)
    by_again d e made (Some first) q is later =
        ap (λ r. into r next) (rs.again d e first q (later_on first.0 made.0 e ((rn first.1).grows first.0 made is) later)) ∙ (rn first.1).again first.0 e made is later

-- a step for each two of two vectors
pub made_repeated : {X : Type 0} (x : X) → Repeated {X = X} (λ d. Some (d, x))
made_repeated {X = X} x = record {
  grows = λ d made e. subst (λ r. Later d r.0) (some_same (d, x) made e) (later_same d);
  again = λ d e made is later. ap (λ r. Some (e, r.1)) (some_same (d, x) made is);
}

pub pairs_repeated : {A B : Type 0} (f : A → A → Step (List Node) B) → ((x y : A) → Repeated (f x y)) → (xs ys : List A) → Repeated (pairs_step f xs ys)
pairs_repeated f r [] ys = made_repeated []
pairs_repeated f r (x ∷ xs) [] = made_repeated []
pairs_repeated f r (x ∷ xs) (y ∷ ys) = then_repeated (f x y) (λ z e. into (pairs_step f xs ys e) (λ zs g. Some (g, z ∷ zs))) (r x y)
    (λ z. then_repeated (pairs_step f xs ys) (λ zs g. Some (g, z ∷ zs)) (pairs_repeated f r xs ys) (λ zs. made_repeated (z ∷ zs)))

-- `and` adds nodes at the end alone
there_grows : (d : List Node) (l : ℕ) (made : List Node × ℕ) → there d l ≡ Some made → Later d made.0
there_grows d l made e = subst (λ r. Later d r.0) (some_same (d, l) made e) (later_same d)

module _ (a b : ℕ) where
  shared_grows : (d : List Node) (made : List Node × ℕ) → shared a b d ≡ Some made → Later d made.0
  shared_grows d made is = by (found a b d) is
    where
      new : (t : Bool) → cond t (there (d ++ Gate a b ∷ []) (2 * suc (length d))) None ≡ Some made → Later d made.0
      new true is = subst (λ r. Later d r.0) (some_same (d ++ Gate a b ∷ [], 2 * suc (length d)) made is) (record { more = Gate a b ∷ []; is = refl })
      new false is = absurd (let f : None ≡ Some made = is in cc)

      by : (r : Option ℕ) → shared_or a b d r ≡ Some made → Later d made.0
      by (Some n) is = there_grows d (2 * n) made is
      by None is = new (nat_lt (length (gates d)) 1048576) is

  both_grows : (d : List Node) (made : List Node × ℕ) → both_of a b d ≡ Some made → Later d made.0
  both_grows d made is = by (nat_eq a 0) (nat_eq a 1) (nat_eq a b) (nat_eq (a / 2) (b / 2)) is
    where
      by : (s t u w : Bool) → cond s (there d 0) (cond t (there d b) (cond u (there d a) (cond w (there d 0) (shared a b d)))) ≡ Some made → Later d made.0
      by true t u w is = there_grows d 0 made is
      by false true u w is = there_grows d b made is
      by false false true w is = there_grows d a made is
      by false false false true is = there_grows d 0 made is
      by false false false false is = shared_grows d made is

pub both_repeated : (a b : ℕ) → Repeated (both_step gates_calls a b)
both_repeated a b = record { grows = λ d made e. two d made (nat_lt b a) e; again = λ d e made is later. gates_repeat.both d e a b made is later }
  where
    two : (d : List Node) (made : List Node × ℕ) (t : Bool) → cond t (both_of b a d) (both_of a b d) ≡ Some made → Later d made.0
    two d made true e = both_grows b a d made e
    two d made false e = both_grows a b d made e

pub either_repeated : (a b : ℕ) → Repeated (either_step gates_calls a b)
either_repeated a b = then_repeated (both_step gates_calls (flipped a) (flipped b)) (λ z e. Some (e, flipped z)) (both_repeated (flipped a) (flipped b)) (λ z. made_repeated (flipped z))

pub differ_repeated : (a b : ℕ) → Repeated (differ_step gates_calls a b)
differ_repeated a b =
    then_repeated (both_step gates_calls a b) (λ two e. into (gates_calls.both e (flipped a) (flipped b)) (λ none f. gates_calls.both f (flipped two) (flipped none))) (both_repeated a b)
    (λ two. then_repeated (both_step gates_calls (flipped a) (flipped b)) (λ none f. gates_calls.both f (flipped two) (flipped none)) (both_repeated (flipped a) (flipped b))
    (λ none. both_repeated (flipped two) (flipped none)))

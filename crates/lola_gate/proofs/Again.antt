-- A call that was made once answers the same in all later data, and makes nothing.
use Rattle.std.proofs.Common.{◌≡◌, ℕ, suc, ◌+◌, ◌*◌, ◌/◌, Bool, true, false, cond, List, [], ◌∷◌, ◌++◌, length, Option, Some, None, refl, sym, ap, ◌∙◌, arith, inl, inr}
use Rattle.std.specs.Prelude.{nat_eq, nat_lt}
use Rattle.std.specs.Map.{lookup}
use Rattle.std.proofs.lemmas.Bool.{and_from, eq-eqb, cases_Bool}
use Rattle.std.proofs.lemmas.List.{append_assoc}
use Rattle.lola_bits.proofs.Options.{some_same}
use Rattle.lola_net.specs.declared.node.Node.{Node}
use Rattle.lola_net.specs.declared.node.Node.TheVariants.{Gate}
use Rattle.lola_gate.specs.Gates.{gate_here, gates_from, gates, is_pair, found, shared_or, shared, both_of, gates_calls}
use Rattle.lola_gate.specs.Repeated.{Later, Repeats}

lookup_front : (test : ℕ × ℕ → Bool) (es fs : List ((ℕ × ℕ) × ℕ)) (n : ℕ) → lookup test es ≡ Some n → lookup test (es ++ fs) ≡ Some n
lookup_front test [] fs n e = absurd (let f : None ≡ Some n = e in cc)
lookup_front test (x ∷ es) fs n e = by (test x.0) (λ g. lookup_front test es fs n g) e
  where
    by : (t : Bool) → (lookup test es ≡ Some n → lookup test (es ++ fs) ≡ Some n) → cond t (Some x.1) (lookup test es) ≡ Some n → cond t (Some x.1) (lookup test (es ++ fs)) ≡ Some n
    by true g e = e
    by false g e = g e

lookup_back : (test : ℕ × ℕ → Bool) (es fs : List ((ℕ × ℕ) × ℕ)) → lookup test es ≡ None → lookup test (es ++ fs) ≡ lookup test fs
lookup_back test [] fs e = refl
lookup_back test (x ∷ es) fs e = by (test x.0) (λ g. lookup_back test es fs g) e
  where
    by : (t : Bool) → (lookup test es ≡ None → lookup test (es ++ fs) ≡ lookup test fs) → cond t (Some x.1) (lookup test es) ≡ None → cond t (Some x.1) (lookup test (es ++ fs)) ≡ lookup test fs
    by true g e = absurd (let f : Some x.1 ≡ None = e in cc)
    by false g e = g e

gates_more : (n : ℕ) (xs ys : List Node) → gates_from n (xs ++ ys) ≡ gates_from n xs ++ gates_from (n + length xs) ys
gates_more n [] ys = ap (λ m. gates_from m ys) (let e : n ≡ n + 0 = omega arith in e)
gates_more n (x ∷ xs) ys =
    ap (λ es. gate_here n x ++ es) (gates_more (suc n) xs ys ∙ ap (λ m. gates_from (suc n) xs ++ gates_from m ys) (let e : suc n + length xs ≡ n + suc (length xs) = omega arith in e)) ∙
    sym (append_assoc (gate_here n x) (gates_from (suc n) xs) (gates_from (n + suc (length xs)) ys))

found_more : (a b n : ℕ) (d more : List Node) → found a b d ≡ Some n → found a b (d ++ more) ≡ Some n
found_more a b n d more e = ap (lookup (is_pair (a, b))) (gates_more 1 d more) ∙ lookup_front (is_pair (a, b)) (gates d) (gates_from (1 + length d) more) n e

found_new : (a b : ℕ) (d more : List Node) → found a b d ≡ None → found a b (d ++ Gate a b ∷ more) ≡ Some (suc (length d))
found_new a b d more e =
    ap (lookup (is_pair (a, b))) (gates_more 1 d (Gate a b ∷ more)) ∙ lookup_back (is_pair (a, b)) (gates d) (gates_from (1 + length d) (Gate a b ∷ more)) e ∙
    ap (λ t. cond t (Some (1 + length d)) (lookup (is_pair (a, b)) (gates_from (suc (1 + length d)) more))) (and_from (nat_eq a a) (nat_eq b b) (eq-eqb a a refl) (eq-eqb b b refl)) ∙
    ap Some (let h : 1 + length d ≡ suc (length d) = omega arith in h)

abbrev pub there : List Node → ℕ → Option (List Node × ℕ)
there d l = Some (d, l)

module _ (a b : ℕ) where
  again_shared : (d e : List Node) (made : List Node × ℕ) → shared a b d ≡ Some made → Later made.0 e → shared a b e ≡ Some (e, made.1)
  again_shared d e made is later = by (found a b d) refl is
    where
      by : (r : Option ℕ) → found a b d ≡ r → shared_or a b d r ≡ Some made → shared a b e ≡ Some (e, made.1)
      by (Some n) f is =
          let m = some_same (d, 2 * n) made is in
          let p : e ≡ d ++ later.more = later.is ∙ ap (λ r. r.0 ++ later.more) (sym m) in
          ap (shared_or a b e) (ap (found a b) p ∙ found_more a b n d later.more f) ∙ ap (λ r. Some (e, r.1)) m
      by None f is = elim (cases_Bool (nat_lt (length (gates d)) 1048576)) [
        | inl y ↦ (
            let m = some_same (d ++ Gate a b ∷ [], 2 * suc (length d)) made (sym (ap (λ t. cond t (Some (d ++ Gate a b ∷ [], 2 * suc (length d))) None) y) ∙ is) in
            let p : e ≡ d ++ Gate a b ∷ later.more = later.is ∙ ap (λ r. r.0 ++ later.more) (sym m) ∙ append_assoc d (Gate a b ∷ []) later.more in
            ap (shared_or a b e) (ap (found a b) p ∙ found_new a b d later.more f) ∙ ap (λ r. Some (e, r.1)) m)
        | inr z ↦ absurd (let g : None ≡ Some made = sym (ap (λ t. cond t (Some (d ++ Gate a b ∷ [], 2 * suc (length d))) None) z) ∙ is in cc)
      ]

  again_both : (d e : List Node) (made : List Node × ℕ) → both_of a b d ≡ Some made → Later made.0 e → both_of a b e ≡ Some (e, made.1)
  again_both d e made is later = by (nat_eq a 0) (nat_eq a 1) (nat_eq a b) (nat_eq (a / 2) (b / 2)) is
    where
      same : (l : ℕ) → there d l ≡ Some made → there e l ≡ there e made.1
      same l is = ap (λ r. Some (e, r.1)) (some_same (d, l) made is)

      by : (s t u w : Bool) → cond s (there d 0) (cond t (there d b) (cond u (there d a) (cond w (there d 0) (shared a b d)))) ≡ Some made →
          cond s (there e 0) (cond t (there e b) (cond u (there e a) (cond w (there e 0) (shared a b e)))) ≡ there e made.1
      by true t u w is = same 0 is
      by false true u w is = same b is
      by false false true w is = same a is
      by false false false true is = same 0 is
      by false false false false is = again_shared d e made is later

pub gates_repeat : Repeats gates_calls
gates_repeat = record {
  constant = λ d e b later. refl;
  negated = λ d e a later. refl;
  both = λ d e a b made is later. two d e a b made later (nat_lt b a) is;
}
  where
    two : (d e : List Node) (a b : ℕ) (made : List Node × ℕ) → Later made.0 e → (t : Bool) → cond t (both_of b a d) (both_of a b d) ≡ Some made → cond t (both_of b a e) (both_of a b e) ≡ Some (e, made.1)
    two d e a b made later true is = again_both b a d e made is later
    two d e a b made later false is = again_both a b d e made is later

-- Where there are no nodes, gates of constants make none. It is said by an algebra whose bits are the constants and, where there are no nodes, one literal more and its negation.
use Rattle.std.proofs.Common.{◌≡◌, ℕ, zero, suc, ◌<◌, Bool, true, false, cond, not, ◌&&◌, List, [], ◌∷◌, ◌++◌, length, map, Option, Some, None, refl, sym, ◌∙◌, ap, subst, arith}
use Rattle.std.specs.Prelude.{nat_eq, nat_lt}
use Rattle.lola_bits.proofs.Options.{some_same}
use Rattle.lola_alg.specs.Algebra.{Meaning, Stays, Answers, IsAlgebra}
use Rattle.lola_alg.proofs.BitMeans.{stays_same}
use Rattle.lola_net.specs.declared.node.Node.{Node}
use Rattle.lola_gate.specs.Gates.{gates_calls}

abbrev pub no_nodes : List Node → Bool
no_nodes [] = true
no_nodes (x ∷ more) = false

abbrev pub knows_constant : List Node → ℕ → Bool
knows_constant d zero = true
knows_constant d (suc zero) = true
knows_constant d (suc (suc zero)) = no_nodes d
knows_constant d (suc (suc (suc zero))) = no_nodes d
knows_constant d (suc (suc (suc (suc l)))) = false

abbrev pub constant_value : (ℕ → Bool) → ℕ → Bool
constant_value v zero = false
constant_value v (suc zero) = true
constant_value v (suc (suc zero)) = v 1
constant_value v (suc (suc (suc l))) = not (v 1)

abbrev pub constants : Meaning (List Node) ℕ
constants = record { knows = knows_constant; value = λ d v l. constant_value v l }

answer : (d : List Node) (l : ℕ) (made : List Node × ℕ) (f : (ℕ → Bool) → Bool) → knows_constant d l ≡ true → ((v : ℕ → Bool) → constant_value v l ≡ f v) → Some (d, l) ≡ Some made → Answers constants d made f
answer d l made f known means e = subst (λ m. Answers constants d m f) (some_same (d, l) made e) (record { stays = stays_same constants d; known = known; means = means })

none : (x : Bool) → false ≡ (x && not x)
none true = refl
none false = refl

none_back : (x : Bool) → false ≡ (not x && x)
none_back true = refl
none_back false = refl

twice : (x : Bool) → x ≡ (x && x)
twice true = refl
twice false = refl

off : (x : Bool) → false ≡ (x && false)
off true = refl
off false = refl

on : (x : Bool) → x ≡ (x && true)
on true = refl
on false = refl

double : (x : Bool) → x ≡ not (not x)
double true = refl
double false = refl

nothing_known : (d : List Node) (l : ℕ) → knows_constant d (suc (suc (suc (suc l)))) ≡ true → ⊥
nothing_known d l k = absurd (let h : false ≡ true = k in cc)

negates : (d : List Node) (a : ℕ) → knows_constant d a ≡ true → Answers constants d (gates_calls.negated d a) (λ v. not (constant_value v a))
negates d zero k = answer d 1 (d, 1) (λ v. true) refl (λ v. refl) refl
negates d (suc zero) k = answer d 0 (d, 0) (λ v. false) refl (λ v. refl) refl
negates d (suc (suc zero)) k = answer d 3 (d, 3) (λ v. not (v 1)) k (λ v. refl) refl
negates d (suc (suc (suc zero))) k = answer d 2 (d, 2) (λ v. not (not (v 1))) k (λ v. double (v 1)) refl
negates d (suc (suc (suc (suc a)))) k = absurd (nothing_known d a k)

both : (d : List Node) (a b : ℕ) (made : List Node × ℕ) → knows_constant d a ≡ true → knows_constant d b ≡ true → gates_calls.both d a b ≡ Some made → Answers constants d made (λ v. constant_value v a && constant_value v b)
both d zero zero made ka kb e = answer d 0 made (λ v. false) refl (λ v. refl) e
both d zero (suc zero) made ka kb e = answer d 0 made (λ v. false) refl (λ v. refl) e
both d zero (suc (suc zero)) made ka kb e = answer d 0 made (λ v. false) refl (λ v. refl) e
both d zero (suc (suc (suc zero))) made ka kb e = answer d 0 made (λ v. false) refl (λ v. refl) e
both d (suc zero) zero made ka kb e = answer d 0 made (λ v. false) refl (λ v. refl) e
both d (suc zero) (suc zero) made ka kb e = answer d 1 made (λ v. true) refl (λ v. refl) e
both d (suc zero) (suc (suc zero)) made ka kb e = answer d 2 made (λ v. v 1) kb (λ v. refl) e
both d (suc zero) (suc (suc (suc zero))) made ka kb e = answer d 3 made (λ v. not (v 1)) kb (λ v. refl) e
both d (suc (suc zero)) zero made ka kb e = answer d 0 made (λ v. v 1 && false) refl (λ v. off (v 1)) e
both d (suc (suc zero)) (suc zero) made ka kb e = answer d 2 made (λ v. v 1 && true) ka (λ v. on (v 1)) e
both d (suc (suc zero)) (suc (suc zero)) made ka kb e = answer d 2 made (λ v. v 1 && v 1) ka (λ v. twice (v 1)) e
both d (suc (suc zero)) (suc (suc (suc zero))) made ka kb e = answer d 0 made (λ v. v 1 && not (v 1)) refl (λ v. none (v 1)) e
both d (suc (suc (suc zero))) zero made ka kb e = answer d 0 made (λ v. not (v 1) && false) refl (λ v. off (not (v 1))) e
both d (suc (suc (suc zero))) (suc zero) made ka kb e = answer d 3 made (λ v. not (v 1) && true) ka (λ v. on (not (v 1))) e
both d (suc (suc (suc zero))) (suc (suc zero)) made ka kb e = answer d 0 made (λ v. not (v 1) && v 1) refl (λ v. none_back (v 1)) e
both d (suc (suc (suc zero))) (suc (suc (suc zero))) made ka kb e = answer d 3 made (λ v. not (v 1) && not (v 1)) ka (λ v. twice (not (v 1))) e
both d (suc (suc (suc (suc a)))) b made ka kb e = absurd (nothing_known d a ka)
both d a (suc (suc (suc (suc b)))) made ka kb e = absurd (nothing_known d b kb)

pub constants_law : IsAlgebra gates_calls constants
constants_law = record {
  constant = λ d b. constant_is d b;
  negated = λ d a k. negates d a k;
  both = λ d a b made ka kb e. both d a b made ka kb e;
}
  where
    constant_is : (d : List Node) (b : Bool) → Answers constants d (d, cond b 1 0) (λ v. b)
    constant_is d true = answer d 1 (d, 1) (λ v. true) refl (λ v. refl) refl
    constant_is d false = answer d 0 (d, 0) (λ v. false) refl (λ v. refl) refl

-- where that literal stays known there are still no nodes
pub still_none : (now : List Node) → Stays constants [] now → now ≡ []
still_none [] stays = refl
still_none (x ∷ now) stays = absurd (let h : false ≡ true = (stays 2 refl).0 in cc)

-- a constant is known
pub low_known : (d : List Node) (l : ℕ) → l < 2 → knows_constant d l ≡ true
low_known d zero low = refl
low_known d (suc zero) low = refl
low_known d (suc (suc l)) low = absurd (omega arith)

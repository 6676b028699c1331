-- The algebra over lists of nodes keeps the law.
use Rattle.std.proofs.Common.{◌≡◌, ◌⊎◌, ℕ, zero, suc, ◌+◌, ◌*◌, ◌-◌, ◌/◌, ◌%◌, ◌<◌, Bool, true, false, cond, not, ◌&&◌, List, [], ◌∷◌, ◌++◌, length, Option, Some, None, refl, sym, ap, ap₂, subst, ◌∙◌, arith, inl, inr}
use Rattle.std.specs.Prelude.{nat_eq, nat_lt}
use Rattle.std.proofs.lemmas.Bool.{cases_Bool, and_parts, and_from, ltb-true, lt-ltb, eqb-true, eqb-false, eq-eqb}
use Rattle.lola_alg.specs.Algebra.{Stays, Answers, IsAlgebra}
use Rattle.lola_bits.proofs.Places.{length_more}
use Rattle.lola_bits.proofs.Options.{some_same}
use Rattle.lola_net.specs.declared.node.Node.{Node}
use Rattle.lola_net.specs.declared.node.Node.TheVariants.{Gate}
use Rattle.lola_net.specs.Literals.{at_place, at_node, at_literal}
use Rattle.lola_net.specs.Equations.{is_ordered, uses_smaller}
use Rattle.lola_gate.specs.Gates.{gates, found, placed, shared_or, shared, both_of, flipped, gates_calls, values, knows_literal, gates_meaning}
use Rattle.lola_gate.specs.Values.{place_last, values_more, values_long, literal_keeps, found_and, ordered_end}

-- what it is that a literal is known
abbrev pub Known : List Node → ℕ → Type 0
Known d l = (l / 2 ≡ 0) ⊎ ((is_ordered d ≡ true) × (l / 2 < suc (length d)))

pub known_from : (d : List Node) (l : ℕ) → knows_literal d l ≡ true → Known d l
known_from d l k = elim (cases_Bool (nat_eq (l / 2) 0)) [
  | inl y ↦ inl (eqb-true (l / 2) 0 y)
  | inr z ↦ (
      let both = and_parts (is_ordered d) (nat_lt (l / 2) (suc (length d))) (sym (ap (λ t. cond t true (is_ordered d && nat_lt (l / 2) (suc (length d)))) z) ∙ k) in
      inr (both.0, ltb-true (l / 2) (suc (length d)) both.1))
]

pub known_within : (d : List Node) (l : ℕ) → knows_literal d l ≡ true → l / 2 < suc (length d)
known_within d l k = elim (known_from d l k) [ inl e ↦ omega arith | inr p ↦ p.1 ]

pub known_constant : (d : List Node) (l : ℕ) → l / 2 ≡ 0 → knows_literal d l ≡ true
known_constant d l e = ap (λ t. cond t true (is_ordered d && nat_lt (l / 2) (suc (length d)))) (eq-eqb (l / 2) 0 e)

pub known_node : (d : List Node) (l : ℕ) → is_ordered d ≡ true → l / 2 < suc (length d) → knows_literal d l ≡ true
known_node d l o w = by (nat_eq (l / 2) 0) (and_from (is_ordered d) (nat_lt (l / 2) (suc (length d))) o (lt-ltb (l / 2) (suc (length d)) w))
  where
    by : (t : Bool) → (is_ordered d && nat_lt (l / 2) (suc (length d))) ≡ true → cond t true (is_ordered d && nat_lt (l / 2) (suc (length d))) ≡ true
    by true e = refl
    by false e = e

pub known_both : (d : List Node) (l m : ℕ) → l / 2 ≡ m / 2 → knows_literal d l ≡ true → knows_literal d m ≡ true
known_both d l m e k = subst (λ n. cond (nat_eq n 0) true (is_ordered d && nat_lt n (suc (length d))) ≡ true) e k

-- literals
pub flipped_node : (a : ℕ) → a / 2 ≡ flipped a / 2
flipped_node a = elim (cases_Bool (nat_eq (a % 2) 0)) [
  | inl y ↦ (let e = eqb-true (a % 2) 0 y in let f : a / 2 ≡ (a + 1) / 2 = omega arith in f ∙ ap (λ t. cond t (a + 1) (a - 1) / 2) (sym y))
  | inr z ↦ (let e = odd z in let f : a / 2 ≡ (a - 1) / 2 = omega arith in f ∙ ap (λ t. cond t (a + 1) (a - 1) / 2) (sym z))
]
  where
    odd : nat_eq (a % 2) 0 ≡ false → a % 2 ≡ 1
    odd z = by (a % 2) (omega arith) (eqb-false (a % 2) 0 z)
      where
        by : (r : ℕ) → r < 2 → (r ≡ 0 → ⊥) → r ≡ 1
        by zero s n = absurd (n refl)
        by (suc zero) s n = refl
        by (suc (suc r)) s n = absurd (omega arith)

parity : (a b : ℕ) → a / 2 ≡ b / 2 → (a ≡ b → ⊥) → nat_eq (b % 2) 0 ≡ not (nat_eq (a % 2) 0)
parity a b e n = by (a % 2) (b % 2) (omega arith) (omega arith) (λ f. n (omega arith))
  where
    by : (r s : ℕ) → r < 2 → s < 2 → (r ≡ s → ⊥) → nat_eq s 0 ≡ not (nat_eq r 0)
    by zero zero p q n = absurd (n refl)
    by zero (suc zero) p q n = refl
    by (suc zero) zero p q n = refl
    by (suc zero) (suc zero) p q n = absurd (n refl)
    by (suc (suc r)) s p q n = absurd (omega arith)
    by r (suc (suc s)) p q n = absurd (omega arith)

other_value : (xs : List Bool) (a b : ℕ) → a / 2 ≡ b / 2 → (a ≡ b → ⊥) → at_literal xs b ≡ not (at_literal xs a)
other_value xs a b e n =
    ap (λ t. cond t (at_node xs (b / 2)) (not (at_node xs (b / 2)))) (parity a b e n) ∙
    ap (λ m. cond (not (nat_eq (a % 2) 0)) (at_node xs m) (not (at_node xs m))) (sym e) ∙ by (nat_eq (a % 2) 0) (at_node xs (a / 2))
  where
    by : (t x : Bool) → cond (not t) x (not x) ≡ not (cond t x (not x))
    by true x = refl
    by false true = refl
    by false false = refl

flipped_not : (a : ℕ) → a ≡ flipped a → ⊥
flipped_not a = by (nat_eq (a % 2) 0) (λ z. eqb-false (a % 2) 0 z)
  where
    by : (t : Bool) → (t ≡ false → a % 2 ≡ 0 → ⊥) → a ≡ cond t (a + 1) (a - 1) → ⊥
    by true n e = omega arith
    by false n e = n refl (omega arith)

even_value : (xs : List Bool) (n : ℕ) → at_literal xs (2 * n) ≡ at_node xs n
even_value xs n =
    let e : 2 * n % 2 ≡ 0 = omega arith in
    let f : 2 * n / 2 ≡ n = omega arith in
    ap₂ (λ r m. cond (nat_eq r 0) (at_node xs m) (not (at_node xs m))) e f

-- all stays, and where one node is put at the end
same_stays : (d : List Node) → Stays gates_meaning d d
same_stays d = λ b k. (k, λ v. refl)

pub one_stays : (d : List Node) (x : Node) → (is_ordered d ≡ true → uses_smaller (suc (length d)) x ≡ true) → Stays gates_meaning d (d ++ x ∷ [])
one_stays d x u = λ b k. (
  elim (known_from d b k) [
    | inl e ↦ known_constant (d ++ x ∷ []) b e
    | inr p ↦ (let l = length_more d x in known_node (d ++ x ∷ []) b (ordered_end d x p.0 (u p.0)) (omega arith))
  ],
  λ v. literal_keeps v d (x ∷ []) b (known_within d b k),
)

module _ (d : List Node) (a b : ℕ) (ka : knows_literal d a ≡ true) (kb : knows_literal d b ≡ true) where
  abbrev Made : Option (List Node × ℕ) → Type 0
  Made r = (made : List Node × ℕ) → r ≡ Some made → Answers gates_meaning d made (λ v. at_literal (values v d) a && at_literal (values v d) b)

  stands : (l : ℕ) → knows_literal d l ≡ true → ((v : ℕ → Bool) → at_literal (values v d) l ≡ (at_literal (values v d) a && at_literal (values v d) b)) → Made (Some (d, l))
  stands l k m made e = subst (λ r. Answers gates_meaning d r (λ v. at_literal (values v d) a && at_literal (values v d) b)) (some_same (d, l) made e)
      (record { stays = same_stays d; known = k; means = m })

  made_place : (a / 2 ≡ 0 → ⊥) → Made (placed a b d)
  made_place positive made e = elim (cases_Bool (nat_lt (length (gates d)) 1048576)) [
    | inl y ↦ subst (λ r. Answers gates_meaning d r (λ v. at_literal (values v d) a && at_literal (values v d) b))
        (some_same (d ++ Gate a b ∷ [], 2 * suc (length d)) made (sym (ap (λ t. cond t (Some (d ++ Gate a b ∷ [], 2 * suc (length d))) None) y) ∙ e)) new
    | inr z ↦ absurd (let f : None ≡ Some made = sym (ap (λ t. cond t (Some (d ++ Gate a b ∷ [], 2 * suc (length d))) None) z) ∙ e in cc)
  ]
    where
      ordered : is_ordered d ≡ true
      ordered = elim (known_from d a ka) [ inl e ↦ absurd (positive e) | inr p ↦ p.0 ]

      small : uses_smaller (suc (length d)) (Gate a b) ≡ true
      small = and_from (nat_lt (a / 2) (suc (length d))) (nat_lt (b / 2) (suc (length d))) (lt-ltb (a / 2) (suc (length d)) (known_within d a ka)) (lt-ltb (b / 2) (suc (length d)) (known_within d b kb))

      new : Answers gates_meaning d (d ++ Gate a b ∷ [], 2 * suc (length d)) (λ v. at_literal (values v d) a && at_literal (values v d) b)
      new = record {
        stays = one_stays d (Gate a b) (λ o. small);
        known = (let l = length_more d (Gate a b) in known_node (d ++ Gate a b ∷ []) (2 * suc (length d)) (ordered_end d (Gate a b) ordered small) (omega arith));
        means = λ v.
            let long : length (values v d) ≡ length d = (let h = values_long v [] d in omega arith) in
            even_value (values v (d ++ Gate a b ∷ [])) (suc (length d)) ∙ ap (λ xs. at_node xs (suc (length d))) (values_more v [] d (Gate a b ∷ [])) ∙
            subst (λ n. at_place (values v d ++ (at_literal (values v d) a && at_literal (values v d) b) ∷ []) n ≡ (at_literal (values v d) a && at_literal (values v d) b)) long
            (place_last (values v d) (at_literal (values v d) a && at_literal (values v d) b));
      }

  made_shared : (a / 2 ≡ 0 → ⊥) → Made (shared a b d)
  made_shared positive = by (found a b d) refl
    where
      ordered : is_ordered d ≡ true
      ordered = elim (known_from d a ka) [ inl e ↦ absurd (positive e) | inr p ↦ p.0 ]

      by : (r : Option ℕ) → found a b d ≡ r → Made (shared_or a b d r)
      by None e = made_place positive
      by (Some n) e = stands (2 * n)
          (let h = found_and (λ i. false) a b n [] 0 refl d e ordered in known_node d (2 * n) ordered (omega arith))
          (λ v. even_value (values v d) n ∙ (found_and v a b n [] 0 refl d e ordered).1)

  positive_of : (a ≡ 0 → ⊥) → (a ≡ 1 → ⊥) → a / 2 ≡ 0 → ⊥
  positive_of p q e = by a p q e
    where
      by : (a : ℕ) → (a ≡ 0 → ⊥) → (a ≡ 1 → ⊥) → a / 2 ≡ 0 → ⊥
      by zero p q e = p refl
      by (suc zero) p q e = q refl
      by (suc (suc a)) p q e = omega arith

  made_both : Made (both_of a b d)
  made_both = first (nat_eq a 0) (eqb-true a 0) (eqb-false a 0)
    where
      fourth : (t : Bool) → (t ≡ true → a / 2 ≡ b / 2) → (a / 2 ≡ 0 → ⊥) → (a ≡ b → ⊥) → Made (cond t (Some (d, 0)) (shared a b d))
      fourth true e p n = stands 0 (known_constant d 0 refl) (λ v. sym (ap (λ x. at_literal (values v d) a && x) (other_value (values v d) a b (e refl) n) ∙ none (at_literal (values v d) a)))
        where
          none : (x : Bool) → (x && not x) ≡ false
          none true = refl
          none false = refl
      fourth false e p n = made_shared p

      third : (t : Bool) → (t ≡ true → a ≡ b) → (t ≡ false → a ≡ b → ⊥) → (a / 2 ≡ 0 → ⊥) → Made (cond t (Some (d, a)) (cond (nat_eq (a / 2) (b / 2)) (Some (d, 0)) (shared a b d)))
      third true e n p = stands a ka (λ v. sym (ap (λ x. at_literal (values v d) a && at_literal (values v d) x) (sym (e refl)) ∙ twice (at_literal (values v d) a)))
        where
          twice : (x : Bool) → (x && x) ≡ x
          twice true = refl
          twice false = refl
      third false e n p = fourth (nat_eq (a / 2) (b / 2)) (eqb-true (a / 2) (b / 2)) p (n refl)

      second : (t : Bool) → (t ≡ true → a ≡ 1) → (t ≡ false → a ≡ 1 → ⊥) → (a ≡ 0 → ⊥) →
          Made (cond t (Some (d, b)) (cond (nat_eq a b) (Some (d, a)) (cond (nat_eq (a / 2) (b / 2)) (Some (d, 0)) (shared a b d))))
      second true e n p = stands b kb (λ v. sym (ap (λ x. at_literal (values v d) x && at_literal (values v d) b) (e refl)))
      second false e n p = third (nat_eq a b) (eqb-true a b) (eqb-false a b) (positive_of p (n refl))

      first : (t : Bool) → (t ≡ true → a ≡ 0) → (t ≡ false → a ≡ 0 → ⊥) →
          Made (cond t (Some (d, 0)) (cond (nat_eq a 1) (Some (d, b)) (cond (nat_eq a b) (Some (d, a)) (cond (nat_eq (a / 2) (b / 2)) (Some (d, 0)) (shared a b d)))))
      first true e n = stands 0 (known_constant d 0 refl) (λ v. sym (ap (λ x. at_literal (values v d) x && at_literal (values v d) b) (e refl)))
      first false e n = second (nat_eq a 1) (eqb-true a 1) (eqb-false a 1) (n refl)

constant_value : (xs : List Bool) (b : Bool) → at_literal xs (cond b 1 0) ≡ b
constant_value xs true = refl
constant_value xs false = refl

constant_low : (b : Bool) → cond b 1 0 / 2 ≡ 0
constant_low true = refl
constant_low false = refl

swap : (x y : Bool) → (x && y) ≡ (y && x)
swap true true = refl
swap true false = refl
swap false true = refl
swap false false = refl

pub gates_law : IsAlgebra gates_calls gates_meaning
gates_law = record {
  constant = λ d b. record { stays = same_stays d; known = known_constant d (cond b 1 0) (constant_low b); means = λ v. constant_value (values v d) b };
  negated = λ d a k. record { stays = same_stays d; known = known_both d a (flipped a) (flipped_node a) k; means = λ v. other_value (values v d) a (flipped a) (flipped_node a) (flipped_not a) };
  both = λ d a b made ka kb e. two d a b ka kb (nat_lt b a) made e;
}
  where
    two : (d : List Node) (a b : ℕ) → knows_literal d a ≡ true → knows_literal d b ≡ true → (t : Bool) (made : List Node × ℕ) → cond t (both_of b a d) (both_of a b d) ≡ Some made →
        Answers gates_meaning d made (λ v. at_literal (values v d) a && at_literal (values v d) b)
    two d a b ka kb true made e = let h = made_both d b a kb ka made e in record { stays = h.stays; known = h.known; means = λ v. h.means v ∙ swap (at_literal (values v d) b) (at_literal (values v d) a) }
    two d a b ka kb false made e = made_both d a b ka kb made e

-- The steps of expressions and of next values put gates behind the nodes, and nothing else. It is said by the algebra of gates whose literals are known only while some nodes stand in front and gates alone behind them.
use Rattle.std.proofs.Common.{◌≡◌, ◌⊎◌, ℕ, zero, suc, ◌+◌, ◌<◌, ◌≤◌, Bool, true, false, cond, ◌&&◌, List, [], ◌∷◌, ◌++◌, length, map, Option, Some, None, inl, inr, refl, sym, ◌∙◌, ap, ap₂, subst, arith, append-nil, append_assoc}
use Rattle.std.specs.Prelude.{nat_eq, nat_lt, bytes_eq, ◌/◌, ◌*◌}
use Rattle.std.specs.List.{AllByRecursion}
use Rattle.std.proofs.lemmas.Bool.{cases_Bool, and_from, and_parts, eqb-true, eqb-false, eq-eqb, lt-ltb, le-ltb, ltb-true, ltb-false}
use Rattle.std.proofs.lemmas.Slice.Eq.{bytes_eq-Decides}
use Rattle.lola_bits.proofs.All.{all_weaker, all_append}
use Rattle.lola_bits.proofs.Options.{some_same}
use Rattle.lola_alg.specs.Algebra.{Calls, Meaning, Stays, Answers, IsAlgebra}
use Rattle.lola_alg.specs.Means.{AreKnown}
use Rattle.lola_net.specs.declared.node.Node.{Node}
use Rattle.lola_net.specs.declared.node.Node.TheVariants.{Free, Latch, Pad, Gate}
use Rattle.lola_net.specs.Equations.{is_ordered}
use Rattle.lola_gate.specs.Gates.{gates, found, placed, shared_or, shared, both_of, flipped, gates_calls, gates_meaning, knows_literal}
use Rattle.lola_gate.specs.Law.{gates_law, flipped_node, known_both, known_constant, known_node}
use Rattle.lola_flat.specs.Value.{Env}
use Rattle.lola_eval.specs.Means.{EnvKnown}

-- what a call of two literals leaves: the nodes, or a gate of both behind them where there is a place, with its literal
abbrev pub IsPlaced : List Node → ℕ → ℕ → List Node × ℕ → Type 0
IsPlaced d a b made = (made ≡ (d ++ Gate a b ∷ [], 2 * suc (length d))) × (nat_lt (length (gates d)) 1048576 ≡ true)

-- a gate is new where its literals rise and the call of both puts a node behind the others
abbrev pub is_longer : List Node → Option (List Node × ℕ) → Bool
is_longer d None = false
is_longer d (Some made) = nat_lt (length d) (length made.0)

abbrev pub is_new : List Node → ℕ → ℕ → Bool
is_new d a b = nat_lt a b && is_longer d (gates_calls.both d a b)

abbrev pub OneMore : List Node → List Node → Type 0
OneMore d e = (e ≡ d) ⊎ ((a : ℕ) × (b : ℕ) × (e ≡ d ++ Gate a b ∷ []) × (nat_lt (length (gates d)) 1048576 ≡ true) × (is_new d a b ≡ true))

length_one : (d : List Node) (x : Node) → length d < length (d ++ x ∷ [])
length_one [] x = omega arith
length_one (y ∷ d) x = let h = length_one d x in omega arith

module _ (d : List Node) (made : List Node × ℕ) where
  -- of literals that don't fall
  module _ (a b : ℕ) where
    abbrev Outcome : Type 0
    Outcome = (made.0 ≡ d) ⊎ (IsPlaced d a b made × (nat_eq a b ≡ false))

    stays_as : (l : ℕ) → Some (d, l) ≡ Some made → Outcome
    stays_as l e = inl (ap (λ (m : List Node × ℕ). m.0) (sym (some_same (d, l) made e)))

    placed_more : nat_eq a b ≡ false → placed a b d ≡ Some made → Outcome
    placed_more other e = by (nat_lt (length (gates d)) 1048576) refl e
      where
        by : (t : Bool) → nat_lt (length (gates d)) 1048576 ≡ t → cond t (Some (d ++ Gate a b ∷ [], 2 * suc (length d))) None ≡ Some made → Outcome
        by true place e = inr ((sym (some_same (d ++ Gate a b ∷ [], 2 * suc (length d)) made e), place), other)
        by false place e = absurd (cc)

    shared_more : nat_eq a b ≡ false → shared a b d ≡ Some made → Outcome
    shared_more other e = by (found a b d) e
      where
        by : (r : Option ℕ) → shared_or a b d r ≡ Some made → Outcome
        by None e = placed_more other e
        by (Some n) e = stays_as (2 * n) e

    pub rules_more : both_of a b d ≡ Some made → Outcome
    rules_more e = first (nat_eq a 0) e
      where
        fourth : nat_eq a b ≡ false → (t : Bool) → cond t (Some (d, 0)) (shared a b d) ≡ Some made → Outcome
        fourth other true e = stays_as 0 e
        fourth other false e = shared_more other e

        third : (t : Bool) → nat_eq a b ≡ t → cond t (Some (d, a)) (cond (nat_eq (a / 2) (b / 2)) (Some (d, 0)) (shared a b d)) ≡ Some made → Outcome
        third true is e = stays_as a e
        third false is e = fourth is (nat_eq (a / 2) (b / 2)) e

        second : (t : Bool) → cond t (Some (d, b)) (cond (nat_eq a b) (Some (d, a)) (cond (nat_eq (a / 2) (b / 2)) (Some (d, 0)) (shared a b d))) ≡ Some made → Outcome
        second true e = stays_as b e
        second false e = third (nat_eq a b) refl e

        first : (t : Bool) → cond t (Some (d, 0)) (cond (nat_eq a 1) (Some (d, b)) (cond (nat_eq a b) (Some (d, a)) (cond (nat_eq (a / 2) (b / 2)) (Some (d, 0)) (shared a b d)))) ≡ Some made → Outcome
        first true e = stays_as 0 e
        first false e = second (nat_eq a 1) e

    pub rising : nat_lt b a ≡ false → gates_calls.both d a b ≡ both_of a b d
    rising below = ap (λ t. cond t (both_of b a d) (both_of a b d)) below

    outcome_more : nat_lt b a ≡ false → both_of a b d ≡ Some made → Outcome → OneMore d made.0
    outcome_more below whole (inl same) = inl same
    outcome_more below whole (inr g) =
        let is : made.0 ≡ d ++ Gate a b ∷ [] = ap (λ (m : List Node × ℕ). m.0) g.0.0 in
        let low = ltb-false b a below in
        let other = eqb-false a b g.1 in
        let longer : is_longer d (gates_calls.both d a b) ≡ true =
        ap (is_longer d) (rising below ∙ whole) ∙ ap (λ (xs : List Node). nat_lt (length d) (length xs)) is ∙ lt-ltb (length d) (length (d ++ Gate a b ∷ [])) (length_one d (Gate a b)) in
        inr (a, b, is, g.0.1, and_from (nat_lt a b) (is_longer d (gates_calls.both d a b)) (lt-ltb a b (strict a b low other)) longer)
      where
        strict : (a b : ℕ) → a ≤ b → (a ≡ b → ⊥) → a < b
        strict zero zero low other = absurd (other refl)
        strict zero (suc b) low other = omega arith
        strict (suc a) zero low other = absurd (omega arith)
        strict (suc a) (suc b) low other = (let h = strict a b (omega arith) (λ e. other (ap suc e)) in omega arith)

  pub both_more : (a b : ℕ) → gates_calls.both d a b ≡ Some made → OneMore d made.0
  both_more a b e = by (nat_lt b a) refl e
    where
      by : (t : Bool) → nat_lt b a ≡ t → cond t (both_of b a d) (both_of a b d) ≡ Some made → OneMore d made.0
      by true below e = outcome_more b a (le-ltb a b (let h = ltb-true b a below in omega arith)) e (rules_more b a e)
      by false below e = outcome_more a b below e (rules_more a b e)

-- what is new is made so
pub new_is : (d : List Node) (a b : ℕ) → is_new d a b ≡ true → gates_calls.both d a b ≡ Some (d ++ Gate a b ∷ [], 2 * suc (length d))
new_is d a b new = by (gates_calls.both d a b) refl parts.1
  where
    parts : (nat_lt a b ≡ true) × (is_longer d (gates_calls.both d a b) ≡ true)
    parts = and_parts (nat_lt a b) (is_longer d (gates_calls.both d a b)) new

    below : nat_lt b a ≡ false
    below = le-ltb b a (let h = ltb-true a b parts.0 in omega arith)

    by : (r : Option (List Node × ℕ)) → gates_calls.both d a b ≡ r → is_longer d r ≡ true → r ≡ Some (d ++ Gate a b ∷ [], 2 * suc (length d))
    by None is longer = absurd (let h : false ≡ true = longer in cc)
    by (Some made) is longer = elim (rules_more d made a b (sym (rising d made a b below) ∙ is)) [
      | inl same ↦ absurd (let h = ltb-true (length d) (length made.0) longer in let e : length made.0 ≡ length d = ap length same in omega arith)
      | inr g ↦ ap Some g.0.0
    ]

-- a fact of nodes that another gate doesn't touch
module _ (fact : List Node → Bool) (more : (d : List Node) (a b : ℕ) → nat_lt (length (gates d)) 1048576 ≡ true → is_new d a b ≡ true → fact d ≡ true → fact (d ++ Gate a b ∷ []) ≡ true) where
  abbrev pub knows_with : List Node → ℕ → Bool
  knows_with d l = cond (nat_eq (l / 2) 0) true (knows_literal d l && fact d)

  abbrev pub meaning_with : Meaning (List Node) ℕ
  meaning_with = record { knows = knows_with; value = λ d v l. gates_meaning.value d v l }

  pub with_known : (d : List Node) (l : ℕ) → knows_literal d l ≡ true → fact d ≡ true → knows_with d l ≡ true
  with_known d l k f = by (nat_eq (l / 2) 0) (and_from (knows_literal d l) (fact d) k f)
    where
      by : (t : Bool) → (knows_literal d l && fact d) ≡ true → cond t true (knows_literal d l && fact d) ≡ true
      by true e = refl
      by false e = e

  -- it is constant, or the fact holds
  with_parts : (d : List Node) (l : ℕ) → knows_with d l ≡ true → (l / 2 ≡ 0) ⊎ ((knows_literal d l ≡ true) × (fact d ≡ true))
  with_parts d l k = elim (cases_Bool (nat_eq (l / 2) 0)) [
    | inl y ↦ inl (eqb-true (l / 2) 0 y)
    | inr z ↦ inr (and_parts (knows_literal d l) (fact d) (sym (ap (λ t. cond t true (knows_literal d l && fact d)) z) ∙ k))
  ]

  without : (d : List Node) (l : ℕ) → knows_with d l ≡ true → knows_literal d l ≡ true
  without d l k = elim (with_parts d l k) [ inl e ↦ known_constant d l e | inr p ↦ p.0 ]

  with_constant : (d : List Node) (l : ℕ) → l / 2 ≡ 0 → knows_with d l ≡ true
  with_constant d l e = ap (λ t. cond t true (knows_literal d l && fact d)) (eq-eqb (l / 2) 0 e)

  fact_stays : (d e : List Node) → OneMore d e → fact d ≡ true → fact e ≡ true
  fact_stays d e (inl same) f = ap fact same ∙ f
  fact_stays d e (inr g) f = ap fact g.2 ∙ more d g.0 g.1 g.3 g.4 f

  with_stays : (d e : List Node) → Stays gates_meaning d e → OneMore d e → Stays meaning_with d e
  with_stays d e stays one = λ l k. (
    elim (with_parts d l k) [ inl z ↦ with_constant e l z | inr p ↦ with_known e l (stays l p.0).0 (fact_stays d e one p.1) ],
    (stays l (without d l k)).1,
  )

  pub law_with : IsAlgebra gates_calls meaning_with
  law_with = record {
    constant = λ d b. let a = gates_law.constant d b in record { stays = with_stays d d a.stays (inl refl); known = with_constant d (cond b 1 0) (low b); means = a.means };
    negated = λ d l k. let a = gates_law.negated d l (without d l k) in record { stays = with_stays d d a.stays (inl refl); known = flips d l k; means = a.means };
    both = λ d l n made k j e. let a = gates_law.both d l n made (without d l k) (without d n j) e in let one = both_more d made l n e in
        record { stays = with_stays d made.0 a.stays one; known = both_known d l n made k j a.known one e; means = a.means };
  }
    where
      low : (b : Bool) → cond b 1 0 / 2 ≡ 0
      low true = refl
      low false = refl

      flips : (d : List Node) (l : ℕ) → knows_with d l ≡ true → knows_with d (flipped l) ≡ true
      flips d l k = elim (with_parts d l k) [
        | inl z ↦ with_constant d (flipped l) (sym (flipped_node l) ∙ z)
        | inr p ↦ with_known d (flipped l) (known_both d l (flipped l) (flipped_node l) p.0) p.1
      ]

      low_both : (d : List Node) (l n : ℕ) (made : List Node × ℕ) → l / 2 ≡ 0 → n / 2 ≡ 0 → gates_calls.both d l n ≡ Some made → made.1 / 2 ≡ 0
      low_both d zero zero made z y e = ap (λ (m : List Node × ℕ). m.1 / 2) (sym (some_same (d, 0) made e))
      low_both d zero (suc zero) made z y e = ap (λ (m : List Node × ℕ). m.1 / 2) (sym (some_same (d, 0) made e))
      low_both d (suc zero) zero made z y e = ap (λ (m : List Node × ℕ). m.1 / 2) (sym (some_same (d, 0) made e))
      low_both d (suc zero) (suc zero) made z y e = ap (λ (m : List Node × ℕ). m.1 / 2) (sym (some_same (d, 1) made e))
      low_both d (suc (suc l)) n made z y e = absurd (let h : suc (suc l) / 2 ≡ 0 = z in omega arith)
      low_both d l (suc (suc n)) made z y e = absurd (let h : suc (suc n) / 2 ≡ 0 = y in omega arith)

      both_known : (d : List Node) (l n : ℕ) (made : List Node × ℕ) → knows_with d l ≡ true → knows_with d n ≡ true → knows_literal made.0 made.1 ≡ true → OneMore d made.0 → gates_calls.both d l n ≡ Some made → knows_with made.0 made.1 ≡ true
      both_known d l n made k j known one e = elim (with_parts d l k) [
        | inr p ↦ with_known made.0 made.1 known (fact_stays d made.0 one p.1)
        | inl z ↦ elim (with_parts d n j) [
          | inr p ↦ with_known made.0 made.1 known (fact_stays d made.0 one p.1)
          | inl y ↦ with_constant made.0 made.1 (low_both d l n made z y e)
        ]
      ]

  pub env_with : (d : List Node) (E : Env (List ℕ)) → EnvKnown gates_meaning d E → fact d ≡ true → EnvKnown meaning_with d E
  env_with d E known f = record {
    signals = all_weaker (AllByRecursion (AreKnown gates_meaning d)) (AllByRecursion (AreKnown meaning_with d)) (λ vectors. all_weaker (AreKnown gates_meaning d) (AreKnown meaning_with d) each vectors) E.signals known.signals;
    outside = all_weaker (AreKnown gates_meaning d) (AreKnown meaning_with d) each E.outside known.outside;
  }
    where
      each : (bits : List ℕ) → AreKnown gates_meaning d bits → AreKnown meaning_with d bits
      each bits k = all_weaker (λ l. knows_literal d l ≡ true) (λ l. knows_with d l ≡ true) (λ l h. with_known d l h f) bits k

  -- where there are nodes, what keeps known literals keeps the fact
  pub fact_kept : (d e : List Node) → 1 ≤ length d → is_ordered d ≡ true → fact d ≡ true → Stays meaning_with d e → fact e ≡ true
  fact_kept d e some order f stays = elim (with_parts e 2 (stays 2 (with_known d 2 (known_node d 2 order (omega arith)) f)).0) [ inl z ↦ absurd (let h : 1 ≡ 0 = z in omega arith) | inr p ↦ p.1 ]

-- nodes that are the same
abbrev pub same_node : Node → Node → Bool
same_node (Free name) (Free other) = bytes_eq name other
same_node (Latch name next) (Latch other later) = bytes_eq name other && nat_eq next later
same_node (Pad name value release) (Pad other input outside) = bytes_eq name other && (nat_eq value input && nat_eq release outside)
same_node (Gate a b) (Gate c e) = nat_eq a c && nat_eq b e
same_node x y = false

abbrev pub is_gate : Node → Bool
is_gate (Free name) = false
is_gate (Latch name next) = false
is_gate (Pad name value release) = false
is_gate (Gate a b) = true

abbrev pub IsGate : Node → Type 0
IsGate x = is_gate x ≡ true

abbrev pub all_gates : List Node → Bool
all_gates [] = true
all_gates (x ∷ more) = is_gate x && all_gates more

-- some nodes stand in front, and behind them gates
abbrev pub begins : List Node → List Node → Bool
begins [] d = all_gates d
begins (x ∷ front) [] = false
begins (x ∷ front) (y ∷ d) = same_node x y && begins front d

pub record Grown (before now : List Node) : Type 0 where
  pub more : List Node
  pub is : now ≡ before ++ more
  pub gates_only : AllByRecursion IsGate more

same_is : (x y : Node) → same_node x y ≡ true → x ≡ y
same_is (Free name) (Free other) e = ap Free ((bytes_eq-Decides name other).0 e)
same_is (Latch name next) (Latch other later) e =
    let p = and_parts (bytes_eq name other) (nat_eq next later) e in ap₂ Latch ((bytes_eq-Decides name other).0 p.0) (eqb-true next later p.1)
same_is (Pad name value release) (Pad other input outside) e =
    let p = and_parts (bytes_eq name other) (nat_eq value input && nat_eq release outside) e in
    let q = and_parts (nat_eq value input) (nat_eq release outside) p.1 in
    ap₂ (λ n w. Pad n w release) ((bytes_eq-Decides name other).0 p.0) (eqb-true value input q.0) ∙ ap (Pad other input) (eqb-true release outside q.1)
same_is (Gate a b) (Gate c e) f = let p = and_parts (nat_eq a c) (nat_eq b e) f in ap₂ Gate (eqb-true a c p.0) (eqb-true b e p.1)
same_is (Free name) (Latch other later) e = absurd (cc)
same_is (Free name) (Pad other input outside) e = absurd (cc)
same_is (Free name) (Gate a b) e = absurd (cc)
same_is (Latch name next) (Free other) e = absurd (cc)
same_is (Latch name next) (Pad other input outside) e = absurd (cc)
same_is (Latch name next) (Gate a b) e = absurd (cc)
same_is (Pad name value release) (Free other) e = absurd (cc)
same_is (Pad name value release) (Latch other later) e = absurd (cc)
same_is (Pad name value release) (Gate a b) e = absurd (cc)
same_is (Gate a b) (Free other) e = absurd (cc)
same_is (Gate a b) (Latch other later) e = absurd (cc)
same_is (Gate a b) (Pad other input outside) e = absurd (cc)

itself : (x : Node) → same_node x x ≡ true
itself (Free name) = (bytes_eq-Decides name name).1 refl
itself (Latch name next) = and_from (bytes_eq name name) (nat_eq next next) ((bytes_eq-Decides name name).1 refl) (eq-eqb next next refl)
itself (Pad name value release) =
    and_from (bytes_eq name name) (nat_eq value value && nat_eq release release) ((bytes_eq-Decides name name).1 refl)
    (and_from (nat_eq value value) (nat_eq release release) (eq-eqb value value refl) (eq-eqb release release refl))
itself (Gate a b) = and_from (nat_eq a a) (nat_eq b b) (eq-eqb a a refl) (eq-eqb b b refl)

gates_all : (more : List Node) → all_gates more ≡ true → AllByRecursion IsGate more
gates_all [] e = tt
gates_all (x ∷ more) e = let p = and_parts (is_gate x) (all_gates more) e in (p.0, gates_all more p.1)

gates_more : (d : List Node) (a b : ℕ) → all_gates d ≡ true → all_gates (d ++ Gate a b ∷ []) ≡ true
gates_more [] a b e = refl
gates_more (x ∷ d) a b e = let p = and_parts (is_gate x) (all_gates d) e in and_from (is_gate x) (all_gates (d ++ Gate a b ∷ [])) p.0 (gates_more d a b p.1)

pub begins_more : (front d : List Node) (a b : ℕ) → begins front d ≡ true → begins front (d ++ Gate a b ∷ []) ≡ true
begins_more [] d a b e = gates_more d a b e
begins_more (x ∷ front) [] a b e = absurd (cc)
begins_more (x ∷ front) (y ∷ d) a b e = let p = and_parts (same_node x y) (begins front d) e in and_from (same_node x y) (begins front (d ++ Gate a b ∷ [])) p.0 (begins_more front d a b p.1)

begins_itself : (d : List Node) → begins d d ≡ true
begins_itself [] = refl
begins_itself (x ∷ d) = and_from (same_node x x) (begins d d) (itself x) (begins_itself d)

grown_from : (front d : List Node) → begins front d ≡ true → Grown front d
grown_from [] d e = record { more = d; is = refl; gates_only = gates_all d e }
grown_from (x ∷ front) [] e = absurd (cc)
grown_from (x ∷ front) (y ∷ d) e =
    let p = and_parts (same_node x y) (begins front d) e in
    let g = grown_from front d p.1 in
    record { more = g.more; is = ap₂ (λ z zs. z ∷ zs) (sym (same_is x y p.0)) g.is; gates_only = g.gates_only }

pub grown_none : (d : List Node) → Grown d d
grown_none d = record { more = []; is = sym (append-nil d); gates_only = tt }

pub grown_on : (a b c : List Node) → Grown a b → Grown b c → Grown a c
grown_on a b c g h = record {
  more = g.more ++ h.more;
  is = h.is ∙ ap (λ x. x ++ h.more) g.is ∙ append_assoc a g.more h.more;
  gates_only = all_append IsGate g.more h.more g.gates_only h.gates_only;
}

abbrev pub since : List Node → Meaning (List Node) ℕ
since front = meaning_with (begins front) (λ d a b place new. begins_more front d a b)

pub since_law : (front : List Node) → IsAlgebra gates_calls (since front)
since_law front = law_with (begins front) (λ d a b place new. begins_more front d a b)

pub since_known : (d : List Node) (E : Env (List ℕ)) → EnvKnown gates_meaning d E → EnvKnown (since d) d E
since_known d E known = env_with (begins d) (λ c a b place new. begins_more d c a b) d E known (begins_itself d)

pub grown_since : (d e : List Node) → 1 ≤ length d → is_ordered d ≡ true → Stays (since d) d e → Grown d e
grown_since d e some order stays = grown_from d e (fact_kept (begins d) (λ c a b place new. begins_more d c a b) d e some order (begins_itself d) stays)

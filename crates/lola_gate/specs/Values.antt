-- Values of nodes where more nodes come.
use Rattle.std.proofs.Common.{◌≡◌, ℕ, zero, suc, ◌+◌, ◌/◌, ◌%◌, ◌<◌, Bool, true, cond, not, ◌&&◌, List, [], ◌∷◌, ◌++◌, length, Some, None, refl, sym, ap, ap₂, subst, ◌∙◌, arith, inl, inr}
use Rattle.std.specs.Prelude.{nat_eq, nat_lt}
use Rattle.std.specs.Map.{lookup}
use Rattle.std.proofs.lemmas.Bool.{cases_Bool, and_parts, and_from, ltb-true, eqb-true}
use Rattle.lola_bits.proofs.Options.{some_same}
use Rattle.lola_bits.proofs.Places.{length_more}
use Rattle.lola_net.specs.declared.node.Node.{Node}
use Rattle.lola_net.specs.declared.node.Node.TheVariants.{Free, Latch, Pad, Gate}
use Rattle.lola_net.specs.Literals.{at_place, at_node, at_literal}
use Rattle.lola_net.specs.Equations.{uses_smaller, ordered_from, is_ordered}
use Rattle.lola_gate.specs.Gates.{gates_from, is_pair, next_value, values_from, values}

pub place_before : (xs ys : List Bool) (n : ℕ) → n < length xs → at_place (xs ++ ys) n ≡ at_place xs n
place_before [] ys n e = absurd (omega arith)
place_before (x ∷ xs) ys zero e = refl
place_before (x ∷ xs) ys (suc n) e = place_before xs ys n (omega arith)

pub place_last : (xs : List Bool) (x : Bool) → at_place (xs ++ x ∷ []) (length xs) ≡ x
place_last [] x = refl
place_last (y ∷ xs) x = place_last xs x

module _ (v : ℕ → Bool) where
  pub values_more : (so : List Bool) (xs ys : List Node) → values_from v so (xs ++ ys) ≡ values_from v (values_from v so xs) ys
  values_more so [] ys = refl
  values_more so (x ∷ xs) ys = values_more (so ++ next_value v so x ∷ []) xs ys

  pub values_long : (so : List Bool) (xs : List Node) → length (values_from v so xs) ≡ length so + length xs
  values_long so [] = omega arith
  values_long so (x ∷ xs) =
      let h = values_long (so ++ next_value v so x ∷ []) xs in
      let e = length_more so (next_value v so x) in
      omega arith

  pub place_stays : (so : List Bool) (xs : List Node) (n : ℕ) → n < length so → at_place (values_from v so xs) n ≡ at_place so n
  place_stays so [] n e = refl
  place_stays so (x ∷ xs) n e =
      let l = length_more so (next_value v so x) in
      place_stays (so ++ next_value v so x ∷ []) xs n (omega arith) ∙ place_before so (next_value v so x ∷ []) n e

  pub node_stays : (so : List Bool) (xs : List Node) (n : ℕ) → n < suc (length so) → at_node (values_from v so xs) n ≡ at_node so n
  node_stays so xs zero e = refl
  node_stays so xs (suc n) e = place_stays so xs n (omega arith)

  pub literal_stays : (so : List Bool) (xs : List Node) (l : ℕ) → l / 2 < suc (length so) → at_literal (values_from v so xs) l ≡ at_literal so l
  literal_stays so xs l e = ap (λ b. cond (nat_eq (l % 2) 0) b (not b)) (node_stays so xs (l / 2) e)

  -- the same where the nodes are some and more
  pub literal_keeps : (d ys : List Node) (l : ℕ) → l / 2 < suc (length d) → at_literal (values v (d ++ ys)) l ≡ at_literal (values v d) l
  literal_keeps d ys l e =
      let h = values_long [] d in
      ap (λ xs. at_literal xs l) (values_more [] d ys) ∙ literal_stays (values v d) ys l (omega arith)

  -- the first gate of two literals has their `and` as its value
  abbrev pub IsAnd : List Bool → ℕ → ℕ → ℕ → ℕ → Type 0
  IsAnd all most a b n = (n < suc most) × (at_node all n ≡ (at_literal all a && at_literal all b))

  pub found_and : (a b n : ℕ) (so : List Bool) (k : ℕ) → length so ≡ k → (xs : List Node) → lookup (is_pair (a, b)) (gates_from (suc k) xs) ≡ Some n → ordered_from (suc k) xs ≡ true →
      IsAnd (values_from v so xs) (k + length xs) a b n
  found_and a b n so k long [] e o = absurd (let f : None ≡ Some n = e in cc)
  found_and a b n so k long (Free name ∷ xs) e o =
      let h = found_and a b n (so ++ next_value v so (Free name) ∷ []) (suc k) (length_more so (next_value v so (Free name)) ∙ ap suc long) xs e o in (omega arith, h.1)
  found_and a b n so k long (Latch name next ∷ xs) e o =
      let h = found_and a b n (so ++ next_value v so (Latch name next) ∷ []) (suc k) (length_more so (next_value v so (Latch name next)) ∙ ap suc long) xs e o in (omega arith, h.1)
  found_and a b n so k long (Pad name value release ∷ xs) e o =
      let h = found_and a b n (so ++ next_value v so (Pad name value release) ∷ []) (suc k) (length_more so (next_value v so (Pad name value release)) ∙ ap suc long) xs e
      (and_parts (nat_lt (value / 2) (suc k) && nat_lt (release / 2) (suc k)) (ordered_from (suc (suc k)) xs) o).1 in (omega arith, h.1)
  found_and a b n so k long (Gate p q ∷ xs) e o =
      let parts = and_parts (nat_lt (p / 2) (suc k) && nat_lt (q / 2) (suc k)) (ordered_from (suc (suc k)) xs) o in
      let small = and_parts (nat_lt (p / 2) (suc k)) (nat_lt (q / 2) (suc k)) parts.0 in
      let there = found_and a b n (so ++ next_value v so (Gate p q) ∷ []) (suc k) (length_more so (next_value v so (Gate p q)) ∙ ap suc long) xs in
      elim (cases_Bool (is_pair (a, b) (p, q))) [
        | inl y ↦ (
            let same = and_parts (nat_eq a p) (nat_eq b q) y in
            here (eqb-true a p same.0) (eqb-true b q same.1) (ltb-true (p / 2) (suc k) small.0) (ltb-true (q / 2) (suc k) small.1)
            (some_same (suc k) n (sym (ap (λ t. cond t (Some (suc k)) (lookup (is_pair (a, b)) (gates_from (suc (suc k)) xs))) y) ∙ e)))
        | inr z ↦ (let h = there (sym (ap (λ t. cond t (Some (suc k)) (lookup (is_pair (a, b)) (gates_from (suc (suc k)) xs))) z) ∙ e) parts.1 in (omega arith, h.1))
      ]
    where
      here : a ≡ p → b ≡ q → p / 2 < suc k → q / 2 < suc k → suc k ≡ n → IsAnd (values_from v so (Gate p q ∷ xs)) (k + suc (length xs)) a b n
      here ea eb sa sb en =
          let all = values_from v so (Gate p q ∷ xs) in
          let nv = next_value v so (Gate p q) in
          let l = length_more so nv in
          let at : at_place all k ≡ at_place (so ++ nv ∷ []) k = place_stays (so ++ nv ∷ []) xs k (omega arith) in
          let last : at_place (so ++ nv ∷ []) k ≡ nv = subst (λ m. at_place (so ++ nv ∷ []) m ≡ nv) long (place_last so nv) in
          let pa : at_literal all p ≡ at_literal so p = literal_stays so (Gate p q ∷ xs) p (omega arith) in
          let qa : at_literal all q ≡ at_literal so q = literal_stays so (Gate p q ∷ xs) q (omega arith) in
          let value : at_node all (suc k) ≡ (at_literal all p && at_literal all q) = at ∙ last ∙ ap₂ (λ x y. x && y) (sym pa) (sym qa) in
          let left : at_node all (suc k) ≡ (at_literal all a && at_literal all b) = value ∙ ap₂ (λ x y. at_literal all x && at_literal all y) (sym ea) (sym eb) in
          (omega arith, subst (λ m. at_node all m ≡ (at_literal all a && at_literal all b)) en left)

pub ordered_one : (n : ℕ) (xs : List Node) (x : Node) → ordered_from n xs ≡ true → uses_smaller (n + length xs) x ≡ true → ordered_from n (xs ++ x ∷ []) ≡ true
ordered_one n [] x o u = and_from (uses_smaller n x) true (subst (λ m. uses_smaller m x ≡ true) (let e : n + 0 ≡ n = omega arith in e) u) refl
ordered_one n (y ∷ xs) x o u =
    let parts = and_parts (uses_smaller n y) (ordered_from (suc n) xs) o in
    and_from (uses_smaller n y) (ordered_from (suc n) (xs ++ x ∷ [])) parts.0
    (ordered_one (suc n) xs x parts.1 (subst (λ m. uses_smaller m x ≡ true) (let e : n + suc (length xs) ≡ suc n + length xs = omega arith in e) u))

pub ordered_end : (xs : List Node) (x : Node) → is_ordered xs ≡ true → uses_smaller (suc (length xs)) x ≡ true → is_ordered (xs ++ x ∷ []) ≡ true
ordered_end xs x o u = ordered_one 1 xs x o (subst (λ m. uses_smaller m x ≡ true) (let e : suc (length xs) ≡ 1 + length xs = omega arith in e) u)

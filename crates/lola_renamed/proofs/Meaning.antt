-- A renamed expression has the value of the expression.
use Rattle.std.proofs.Common.{◌≡◌, ℕ, ◌+◌, ◌-◌, ◌*◌, ◌/◌, ◌%◌, ◌^◌, ◌<◌, ◌≤◌, cond, List, [], ◌∷◌, ◌++◌, replicate, Some, refl, sym, ◌∙◌, ap, ap₂, inl, inr, arith}
use Rattle.std.specs.Prelude.{nat_eq}
use Rattle.lola_bits.specs.Lists.{IsIn}
use Rattle.lola_bits.specs.Number.{bit_at, slice_of, joined, inverted, operate}
use Rattle.lola_bits.proofs.Lists.{in_front, in_back}
use Rattle.lola_alg.specs.Means.{op_works, number_in}
use Rattle.lola_flat.specs.Value.{Env, elements, joined_all}
use Rattle.lola_flat.specs.Value as flat_value
use Rattle.lola_tree.specs.declared.named.Ref.{Ref}
use Rattle.lola_tree.specs.Tree.{Tree, number, whole, bit, slice, index, concat, negation, binary, choice, Parts, no_part, one_part}
use Rattle.lola_tree.specs.Width.{Scope, width, total_width, same_width, repeated_width, operator_width}
use Rattle.lola_tree.specs.Value.{value, value_of_parts, or_zero, or_read, repeated}
use Rattle.lola_tree.specs.design.Chains.{names_in, part_names_in, elements_in, part_elements_in}
use Rattle.lola_values.proofs.Widths as widths
use Rattle.lola_renamed.specs.Renamed.{Meant, renamed, renamed_parts}
use Rattle.lola_renamed.specs.Reads.{Widens, Reads}
use Rattle.lola_renamed.proofs.Copies.{joined_same}
use Rattle.lola_renamed.proofs.Fitting.{bit_parts, operates, op_of_two, few_times, all_fit, parts_fit}

bit_means : (x n : ℕ) → slice_of x n n ≡ bit_at x n
bit_means x n = let e : n - n + 1 ≡ 1 = omega arith in ap (λ (k : ℕ). x / 2 ^ n % 2 ^ k) e

module _ (scope : Scope) (names : Meant) (W N : Env ℕ) (P Q : Ref → Type 0) (read : Ref → ℕ → ℕ) (h : Widens scope names W P Q) (g : Reads scope names W N P Q read) where
  abbrev AllAre : List Ref → Type 0
  AllAre rs = (r : Ref) → IsIn r rs → P r

  abbrev Placed : List (Ref × Tree) → Type 0
  Placed as_ = (a : Ref × Tree) → IsIn a as_ → Q a.0

  abbrev Within : List (Ref × Tree) → Type 0
  Within as_ = (a : Ref × Tree) → IsIn a as_ → (k : ℕ) → scope.place a.0 ≡ Some k → value scope a.1 read < 2 ^ k

  mutual
    pub means : (e : Tree) → AllAre (names_in scope e) → Placed (elements_in e) → Within (elements_in e) → (w : ℕ) → width scope e ≡ Some w → flat_value.value W N (renamed names e) ≡ value scope e read
    means (number n written at) named placed within w e = refl
    means (whole of) named placed within w e = g.vector of named w e
    means (bit of place at) named placed within w e =
        let b = bit_parts (scope.count place) (scope.width of) w e in
        let v = h.vector of named b.1 b.3 in
        let less : b.0 < b.1 = b.4 in
        let most : b.1 ≤ 128 = v.wide.1 in
        let n : names.count place ≡ or_zero (scope.count place) = h.count place b.0 b.2 (omega arith) ∙ sym (ap or_zero b.2) in
        ap₂ (λ (x k : ℕ). slice_of x k k) (g.vector of named b.1 b.3) n ∙ bit_means (or_read (scope.number of) (read of 0)) (or_zero (scope.count place))
    means (slice of high low at) named placed within w e =
        let s = widths.slice_is (scope.count high) (scope.count low) (scope.width of) w e in
        let v = h.vector of named s.2 s.5 in
        let less : s.0 < s.2 = s.6 in
        let order : s.1 ≤ s.0 = s.7 in
        let most : s.2 ≤ 128 = v.wide.1 in
        let hi : names.count high ≡ or_zero (scope.count high) = h.count high s.0 s.3 (omega arith) ∙ sym (ap or_zero s.3) in
        let l : names.count low ≡ or_zero (scope.count low) = h.count low s.1 s.4 (omega arith) ∙ sym (ap or_zero s.4) in
        ap₂ (λ (a b : ℕ). slice_of (flat_value.value W N (names.vector of)) a b) hi l
        ∙ ap (λ (x : ℕ). slice_of x (or_zero (scope.count high)) (or_zero (scope.count low))) (g.vector of named s.2 s.5)
    means (index of place at) named placed within w e =
        let d = widths.defined_is (scope.element of) (same_width (scope.place of) (width scope place)) w e in
        let k = widths.same_is (scope.place of) (width scope place) d.1.0 d.1.1 in
        ap (number_in (elements N (names.array of))) (means place named (λ a is. placed a (inr is)) (λ a is. within a (inr is)) d.1.0 k.1)
        ∙ g.array of (placed (of, place) (inl refl)) w d.1.0 d.0 k.0 (value scope place read) (within (of, place) (inl refl) d.1.0 k.0)
    means (concat parts at) named placed within w e =
        let c = widths.checked_is (total_width scope parts) w e in
        parts_mean parts named placed within w c.0 c.2
    means (negation e at) named placed within w f =
        let x = all_fit scope names W P Q h e named placed w f in
        ap₂ inverted (x.is ∙ sym (ap or_zero f)) (means e named placed within w f)
    means (binary o a b at) named placed within w e =
        let p = widths.operator_parts o (width scope a) (width scope b) w e in
        let na = λ (r : Ref) (is : IsIn r (names_in scope a)). named r (in_front r (names_in scope a) (names_in scope b) is) in
        let nb = λ (r : Ref) (is : IsIn r (names_in scope b)). named r (in_back r (names_in scope a) (names_in scope b) is) in
        let pa = λ (r : Ref × Tree) (is : IsIn r (elements_in a)). placed r (in_front r (elements_in a) (elements_in b) is) in
        let pb = λ (r : Ref × Tree) (is : IsIn r (elements_in b)). placed r (in_back r (elements_in a) (elements_in b) is) in
        let x = all_fit scope names W P Q h a na pa p.0 p.2 in
        let y = all_fit scope names W P Q h b nb pb p.1 p.3 in
        let makes : operator_width o (Some p.0) (Some p.1) ≡ Some w = sym (ap₂ (operator_width o) p.2 p.3) ∙ e in
        let k = operates o p.0 p.1 w makes x.wide y.wide in
        let two : flat_value.width W (renamed names a) ∷ flat_value.width W (renamed names b) ∷ [] ≡ p.0 ∷ p.1 ∷ [] = ap₂ (λ (g h : ℕ). g ∷ h ∷ []) x.is y.is in
        let works : op_works o (flat_value.width W (renamed names a) ∷ flat_value.width W (renamed names b) ∷ []) ≡ or_zero (width scope a) = ap (op_works o) two ∙ k.works ∙ sym (ap or_zero p.2) in
        op_of_two o (op_works o (flat_value.width W (renamed names a) ∷ flat_value.width W (renamed names b) ∷ [])) (flat_value.value W N (renamed names a)) (flat_value.value W N (renamed names b))
        ∙ ap (λ (k : ℕ). operate o k (flat_value.value W N (renamed names a)) (flat_value.value W N (renamed names b))) works
        ∙ ap₂ (operate o (or_zero (width scope a)))
        (means a na pa (λ c is. within c (in_front c (elements_in a) (elements_in b) is)) p.0 p.2)
        (means b nb pb (λ c is. within c (in_back c (elements_in a) (elements_in b) is)) p.1 p.3)
    means (choice test first second at) named placed within w e =
        let d = widths.defined_is (same_width (width scope first) (width scope second)) (same_width (Some 1) (width scope test)) w e in
        let s = widths.same_is (width scope first) (width scope second) w d.0 in
        let t = widths.same_is (Some 1) (width scope test) d.1.0 d.1.1 in
        let n = λ (r : Ref) (is : IsIn r (names_in scope first ++ names_in scope second)). named r (in_back r (names_in scope test) (names_in scope first ++ names_in scope second) is) in
        let q = λ (a : Ref × Tree) (is : IsIn a (elements_in first ++ elements_in second)). placed a (in_back a (elements_in test) (elements_in first ++ elements_in second) is) in
        let o = λ (a : Ref × Tree) (is : IsIn a (elements_in first ++ elements_in second)). within a (in_back a (elements_in test) (elements_in first ++ elements_in second) is) in
        let x = means test (λ r is. named r (in_front r (names_in scope test) (names_in scope first ++ names_in scope second) is)) (λ a is. placed a (in_front a (elements_in test) (elements_in first ++ elements_in second) is))
        (λ a is. within a (in_front a (elements_in test) (elements_in first ++ elements_in second) is)) d.1.0 t.1 in
        let y = means first (λ r is. n r (in_front r (names_in scope first) (names_in scope second) is)) (λ a is. q a (in_front a (elements_in first) (elements_in second) is)) (λ a is. o a (in_front a (elements_in first) (elements_in second) is)) w s.0 in
        let z = means second (λ r is. n r (in_back r (names_in scope first) (names_in scope second) is)) (λ a is. q a (in_back a (elements_in first) (elements_in second) is)) (λ a is. o a (in_back a (elements_in first) (elements_in second) is)) w s.1 in
        ap (λ (k : ℕ). cond (nat_eq k 1) (flat_value.value W N (renamed names first)) (flat_value.value W N (renamed names second))) x
        ∙ ap₂ (λ (a b : ℕ). cond (nat_eq (value scope test read) 1) a b) y z

    parts_mean : (ps : Parts) → AllAre (part_names_in scope ps) → Placed (part_elements_in ps) → Within (part_elements_in ps) → (w : ℕ) → total_width scope ps ≡ Some w → w ≤ 128 →
        joined_all (flat_value.widths W (renamed_parts names ps)) (flat_value.values W N (renamed_parts names ps)) ≡ value_of_parts scope ps read
    parts_mean no_part named placed within w e most = refl
    parts_mean (one_part e times behind) named placed within w f most =
        let j = widths.joined_is (repeated_width (width scope e) (scope.count times)) (total_width scope behind) w f in
        let r = widths.repeated_is (width scope e) (scope.count times) j.0 j.2 in
        let all : w ≡ j.0 + j.1 = j.4 in
        let size : j.0 ≡ r.1 * r.0 = r.5 in
        let ne = λ (r : Ref) (is : IsIn r (names_in scope e)). named r (in_front r (names_in scope e) (part_names_in scope behind) is) in
        let nb = λ (r : Ref) (is : IsIn r (part_names_in scope behind)). named r (in_back r (names_in scope e) (part_names_in scope behind) is) in
        let pe = λ (a : Ref × Tree) (is : IsIn a (elements_in e)). placed a (in_front a (elements_in e) (part_elements_in behind) is) in
        let pb = λ (a : Ref × Tree) (is : IsIn a (part_elements_in behind)). placed a (in_back a (elements_in e) (part_elements_in behind) is) in
        let part = all_fit scope names W P Q h e ne pe r.0 r.2 in
        let rest = parts_fit scope names W P Q h behind nb pb j.1 j.3 (omega arith) in
        let less : r.1 * r.0 ≤ w = omega arith in
        let n = h.count times r.1 r.3 (few_times r.1 r.0 w less part.wide.0 most) in
        let x = means e ne pe (λ c is. within c (in_front c (elements_in e) (part_elements_in behind) is)) r.0 r.2 in
        let y = parts_mean behind nb pb (λ c is. within c (in_back c (elements_in e) (part_elements_in behind) is)) j.1 j.3 (omega arith) in
        let times_is : names.count times ≡ or_zero (scope.count times) = n ∙ sym (ap or_zero r.3) in
        let wide_is : flat_value.width W (renamed names e) ≡ or_zero (width scope e) = part.is ∙ sym (ap or_zero r.2) in
        let copies : joined_all (replicate (names.count times) (flat_value.width W (renamed names e))) (replicate (names.count times) (flat_value.value W N (renamed names e)))
        ≡ repeated (or_zero (scope.count times)) (or_zero (width scope e)) (value scope e read) =
        joined_same (names.count times) (flat_value.width W (renamed names e)) (flat_value.value W N (renamed names e))
        ∙ ap₂ (λ (a b : ℕ). repeated a b (flat_value.value W N (renamed names e))) times_is wide_is
        ∙ ap (repeated (or_zero (scope.count times)) (or_zero (width scope e))) x in
        ap₂ (λ (a b : ℕ). joined a b (joined_all (flat_value.widths W (renamed_parts names behind)) (flat_value.values W N (renamed_parts names behind)))) copies (rest.0 ∙ sym (ap or_zero j.3))
        ∙ ap (joined (repeated (or_zero (scope.count times)) (or_zero (width scope e)) (value scope e read)) (or_zero (total_width scope behind))) y

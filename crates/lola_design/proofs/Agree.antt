-- A right side has one value where what it reads has.
use Rattle.std.proofs.Common.{◌≡◌, ℕ, cond, List, ◌++◌, Option, Some, None, refl, ◌∙◌, ap, ap₂, inl, inr}
use Rattle.std.specs.Prelude.{nat_eq}
use Rattle.lola_bits.specs.Number.{bit_at, slice_of, joined, inverted, operate}
use Rattle.lola_tree.specs.declared.named.Ref.{Ref}
use Rattle.lola_tree.specs.Tree.{Tree, number, whole, bit, slice, index, concat, negation, binary, choice, Parts, no_part, one_part, ModuleTree}
use Rattle.lola_tree.specs.Width.{Scope, width, total_width, scope_of}
use Rattle.lola_tree.specs.Value.{Path, Values, value, value_of_parts, or_zero, or_read, repeated}
use Rattle.lola_bits.specs.Lists.{IsIn}
use Rattle.lola_bits.proofs.Lists.{in_front, in_back, to_map}
use Rattle.lola_tree.specs.Cycle.{names_at}
use Rattle.lola_tree.specs.design.Chains.{name_in, names_in, part_names_in, elements_in, part_elements_in, arrays_in, paths_of, right_paths, right_arrays}
use Rattle.lola_tree.specs.design.Equations.{Right, expression, copied, driven, right_value}

-- a name that isn't a constant is read
read_one : (scope : Scope) (r : Ref) (v w : Ref → ℕ → ℕ) → ((s : Ref) → IsIn s (name_in scope r) → v s 0 ≡ w s 0) → or_read (scope.number r) (v r 0) ≡ or_read (scope.number r) (w r 0)
read_one scope r v w same = by_number (scope.number r) refl
  where
    by_number : (o : Option ℕ) → scope.number r ≡ o → or_read (scope.number r) (v r 0) ≡ or_read (scope.number r) (w r 0)
    by_number None e = rw e (same r (rw e (inl refl)))
    by_number (Some n) e = rw e refl

-- an element that is read is one in both
abbrev pub AreReadAlike : Scope → (v w : Ref → ℕ → ℕ) → List (Ref × Tree) → Type 0
AreReadAlike scope v w as_ = (a : Ref × Tree) → IsIn a as_ → v a.0 (value scope a.1 v) ≡ w a.0 (value scope a.1 v)

abbrev AreNamedAlike : (v w : Ref → ℕ → ℕ) → List Ref → Type 0
AreNamedAlike v w rs = (r : Ref) → IsIn r rs → v r 0 ≡ w r 0

front_alike : (scope : Scope) (v w : Ref → ℕ → ℕ) (as_ bs : List (Ref × Tree)) → AreReadAlike scope v w (as_ ++ bs) → AreReadAlike scope v w as_
front_alike scope v w as_ bs all a there = all a (in_front a as_ bs there)

back_alike : (scope : Scope) (v w : Ref → ℕ → ℕ) (as_ bs : List (Ref × Tree)) → AreReadAlike scope v w (as_ ++ bs) → AreReadAlike scope v w bs
back_alike scope v w as_ bs all a there = all a (in_back a as_ bs there)

front_named : (v w : Ref → ℕ → ℕ) (rs ts : List Ref) → AreNamedAlike v w (rs ++ ts) → AreNamedAlike v w rs
front_named v w rs ts all r there = all r (in_front r rs ts there)

back_named : (v w : Ref → ℕ → ℕ) (rs ts : List Ref) → AreNamedAlike v w (rs ++ ts) → AreNamedAlike v w ts
back_named v w rs ts all r there = all r (in_back r rs ts there)

mutual
  pub value_agrees : (scope : Scope) (v w : Ref → ℕ → ℕ) (e : Tree) → AreNamedAlike v w (names_in scope e) → AreReadAlike scope v w (elements_in e) → value scope e v ≡ value scope e w
  value_agrees scope v w (number n written at) names arrays = refl
  value_agrees scope v w (whole of) names arrays = read_one scope of v w names
  value_agrees scope v w (bit of place at) names arrays = ap (λ x. bit_at x (or_zero (scope.count place))) (read_one scope of v w names)
  value_agrees scope v w (slice of high low at) names arrays = ap (λ x. slice_of x (or_zero (scope.count high)) (or_zero (scope.count low))) (read_one scope of v w names)
  value_agrees scope v w (index of place at) names arrays =
      arrays (of, place) (inl refl) ∙ ap (w of) (value_agrees scope v w place names (λ a there. arrays a (inr there)))
  value_agrees scope v w (concat parts at) names arrays = parts_agree scope v w parts names arrays
  value_agrees scope v w (negation e at) names arrays = ap (inverted (or_zero (width scope e))) (value_agrees scope v w e names arrays)
  value_agrees scope v w (binary o a b at) names arrays =
      ap₂ (operate o (or_zero (width scope a)))
      (value_agrees scope v w a (front_named v w (names_in scope a) (names_in scope b) names) (front_alike scope v w (elements_in a) (elements_in b) arrays))
      (value_agrees scope v w b (back_named v w (names_in scope a) (names_in scope b) names) (back_alike scope v w (elements_in a) (elements_in b) arrays))
  value_agrees scope v w (choice test first second at) names arrays =
      let n = back_named v w (names_in scope test) (names_in scope first ++ names_in scope second) names in
      let r = back_alike scope v w (elements_in test) (elements_in first ++ elements_in second) arrays in
      let t = value_agrees scope v w test (front_named v w (names_in scope test) (names_in scope first ++ names_in scope second) names) (front_alike scope v w (elements_in test) (elements_in first ++ elements_in second) arrays) in
      let a = value_agrees scope v w first (front_named v w (names_in scope first) (names_in scope second) n) (front_alike scope v w (elements_in first) (elements_in second) r) in
      let b = value_agrees scope v w second (back_named v w (names_in scope first) (names_in scope second) n) (back_alike scope v w (elements_in first) (elements_in second) r) in
      ap (λ x. cond (nat_eq x 1) (value scope first v) (value scope second v)) t ∙ ap₂ (λ x y. cond (nat_eq (value scope test w) 1) x y) a b

  parts_agree : (scope : Scope) (v w : Ref → ℕ → ℕ) (ps : Parts) → AreNamedAlike v w (part_names_in scope ps) → AreReadAlike scope v w (part_elements_in ps) → value_of_parts scope ps v ≡ value_of_parts scope ps w
  parts_agree scope v w no_part names arrays = refl
  parts_agree scope v w (one_part e times behind) names arrays =
      ap₂ (λ x y. joined (repeated (or_zero (scope.count times)) (or_zero (width scope e)) x) (or_zero (total_width scope behind)) y)
      (value_agrees scope v w e (front_named v w (names_in scope e) (part_names_in scope behind) names) (front_alike scope v w (elements_in e) (part_elements_in behind) arrays))
      (parts_agree scope v w behind (back_named v w (names_in scope e) (part_names_in scope behind) names) (back_alike scope v w (elements_in e) (part_elements_in behind) arrays))

-- at a path
pub at_path : (m : ModuleTree) (p : Path) (v w : Values) (e : Tree) → ((y : Path) → IsIn y (paths_of p (names_in (scope_of m) e)) → v y 0 ≡ w y 0) →
    ((a : Ref × Tree) → IsIn a (elements_in e) → IsIn (p ++ a.0.path) (paths_of p (arrays_in e)) → v (p ++ a.0.path) (value (scope_of m) a.1 (names_at p v)) ≡ w (p ++ a.0.path) (value (scope_of m) a.1 (names_at p v))) →
    value (scope_of m) e (names_at p v) ≡ value (scope_of m) e (names_at p w)
at_path m p v w e names elements =
    value_agrees (scope_of m) (names_at p v) (names_at p w) e (λ r there. names (p ++ r.path) (to_map (λ (r : Ref). p ++ r.path) r (names_in (scope_of m) e) there))
    (λ a there. elements a there (to_map (λ (r : Ref). p ++ r.path) a.0 (arrays_in e) (to_map (λ (b : Ref × Tree). b.0) a (elements_in e) there)))

-- where arrays are the same at the places that are read
abbrev pub AreAlikeAt : ModuleTree → Path → Values → Values → Tree → Type 0
AreAlikeAt m p v w e =
    (a : Ref × Tree) → IsIn a (elements_in e) → IsIn (p ++ a.0.path) (paths_of p (arrays_in e)) → v (p ++ a.0.path) (value (scope_of m) a.1 (names_at p v)) ≡ w (p ++ a.0.path) (value (scope_of m) a.1 (names_at p v))

abbrev pub IsRightAlike : Values → Values → Right → Type 0
IsRightAlike v w (expression m p e) = AreAlikeAt m p v w e
IsRightAlike v w (copied other) = Unit {0}
IsRightAlike v w (driven m p drive release io) = AreAlikeAt m p v w release × AreAlikeAt m p v w drive

pub right_agrees_at : (outside v w : Values) (r : Right) → ((y : Path) → IsIn y (right_paths r) → v y 0 ≡ w y 0) → IsRightAlike v w r → right_value outside v r ≡ right_value outside w r
right_agrees_at outside v w (expression m p e) names elements = at_path m p v w e names elements
right_agrees_at outside v w (copied other) names elements = names other (inl refl)
right_agrees_at outside v w (driven m p drive release io) names elements =
    let a = at_path m p v w release (λ y there. names y (in_front y (paths_of p (names_in (scope_of m) release)) (paths_of p (names_in (scope_of m) drive)) there)) elements.0 in
    let b = at_path m p v w drive (λ y there. names y (in_back y (paths_of p (names_in (scope_of m) release)) (paths_of p (names_in (scope_of m) drive)) there)) elements.1 in
    ap₂ (λ x y. cond (nat_eq x 1) (outside io 0) y) a b

-- or everywhere
alike : (v w : Values) (r : Right) → ((y : Path) → IsIn y (right_arrays r) → (n : ℕ) → v y n ≡ w y n) → IsRightAlike v w r
alike v w (expression m p e) arrays = λ a there among. arrays (p ++ a.0.path) among (value (scope_of m) a.1 (names_at p v))
alike v w (copied other) arrays = tt
alike v w (driven m p drive release io) arrays = (
  λ a there among. arrays (p ++ a.0.path) (in_front (p ++ a.0.path) (paths_of p (arrays_in release)) (paths_of p (arrays_in drive)) among) (value (scope_of m) a.1 (names_at p v)),
  λ a there among. arrays (p ++ a.0.path) (in_back (p ++ a.0.path) (paths_of p (arrays_in release)) (paths_of p (arrays_in drive)) among) (value (scope_of m) a.1 (names_at p v)),
)

pub right_agrees : (outside v w : Values) (r : Right) → ((y : Path) → IsIn y (right_paths r) → v y 0 ≡ w y 0) → ((y : Path) → IsIn y (right_arrays r) → (n : ℕ) → v y n ≡ w y n) →
    right_value outside v r ≡ right_value outside w r
right_agrees outside v w r names arrays = right_agrees_at outside v w r names (alike v w r arrays)

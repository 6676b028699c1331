-- The parts of a concatenation over leaves.
use Rattle.std.proofs.Common.{◌≡◌, ℕ, zero, suc, ◌+◌, ◌*◌, ◌<◌, ◌≤◌, List, [], ◌∷◌, length, get_or, drop, Option, Some, None, refl, sym, ◌∙◌, ap, ap₂, subst, arith}
use Rattle.lola_bits.specs.Number.{joined}
use Rattle.lola_bits.proofs.Options.{some_same}
use Rattle.lola_bits.proofs.Places.{drop_item}
use Rattle.lola_tree.specs.declared.named.Count.{Count}
use Rattle.lola_tree.specs.declared.expr.Part.{Part}
use Rattle.lola_tree.specs.Tree.{Tree, Parts, no_part, one_part, concat, parts_tree, tree}
use Rattle.lola_tree.specs.Width.{Scope as Widths, width, total_width, checked_width, repeated_width, joined_width}
use Rattle.lola_tree.specs.Value.{value, or_zero, repeated}
use Rattle.lola_elab.specs.declared.flat.Flat.{Flat}
use Rattle.lola_elab.specs.declared.flat.Flat.TheVariants.{Number}
use Rattle.lola_elab.specs.Flat.{flat_width, flat_number}
use Rattle.lola_elab.specs.Meanings.{Meanings, count_of, IsFlatOf, HasNoFlat, ArePartsFlat, HaveNoFlat}
use Rattle.lola_elab.proofs.Widths.{checked_is, width_checked, repeated_is, repeated_of, joined_is}

pub none_flat : (names : Meanings) → ArePartsFlat names no_part (Number 0 0) 0
none_flat names = record {
  built = tt;
  tree_width = λ scope widths are. refl;
  leaf_width = λ scope widths are. refl;
  number = λ scope widths are read numbers reads. refl;
}

-- a part before others
pub before_is : (names : Meanings) (e : Tree) (c : Count) (more : Parts) (part behind again made : Flat) (n v u : ℕ) → count_of names c ≡ Some n → 1 ≤ n →
    IsFlatOf names e part v → ArePartsFlat names more behind u →
    ((widths : List ℕ) → flat_width widths again ≡ repeated_width (flat_width widths part) (Some n)) →
    ((widths numbers : List ℕ) → flat_number widths again numbers ≡ repeated n (or_zero (flat_width widths part)) (flat_number widths part numbers)) →
    ((widths : List ℕ) → flat_width widths made ≡ joined_width (flat_width widths again) (flat_width widths behind)) →
    ((widths numbers : List ℕ) → flat_number widths made numbers ≡ joined (flat_number widths again numbers) (or_zero (flat_width widths behind)) (flat_number widths behind numbers)) →
    ArePartsFlat names (one_part e c more) made (n * v + u)
before_is names e c more part behind again made n v u times some is ps wide_again number_again wide number = record {
  built = (is.built, ps.built);
  tree_width = λ scope widths are.
      ap₂ joined_width (ap₂ repeated_width (is.tree_width scope widths are) (are.counts c ∙ times) ∙ repeated_of v n some) (ps.tree_width scope widths are);
  leaf_width = λ scope widths are.
      wide widths ∙ ap₂ joined_width (wide_again widths ∙ ap (λ (o : Option ℕ). repeated_width o (Some n)) (is.leaf_width scope widths are) ∙ repeated_of v n some) (ps.leaf_width scope widths are);
  number = λ scope widths are read numbers reads.
      let one : flat_number widths again numbers ≡ repeated (or_zero (scope.count c)) (or_zero (width scope e)) (value scope e read) =
      number_again widths numbers
      ∙ ap₂ (λ (o : Option ℕ) (x : ℕ). repeated n (or_zero o) x) (is.leaf_width scope widths are ∙ sym (is.tree_width scope widths are)) (is.number scope widths are read numbers reads)
      ∙ ap (λ (o : Option ℕ). repeated (or_zero o) (or_zero (width scope e)) (value scope e read)) (sym (are.counts c ∙ times)) in
      number widths numbers
      ∙ ap₂ (λ (x : ℕ) (o : Option ℕ). joined x (or_zero o) (flat_number widths behind numbers)) one (ps.leaf_width scope widths are ∙ sym (ps.tree_width scope widths are))
      ∙ ap (joined (repeated (or_zero (scope.count c)) (or_zero (width scope e)) (value scope e read)) (or_zero (total_width scope more))) (ps.number scope widths are read numbers reads);
}

-- what the width of a part and of those behind it come to
taken : (scope : Widths) (e : Tree) (c : Count) (more : Parts) (w : ℕ) → total_width scope (one_part e c more) ≡ Some w →
    (v : ℕ) × (n : ℕ) × (u : ℕ) × (width scope e ≡ Some v) × (scope.count c ≡ Some n) × (total_width scope more ≡ Some u) × (1 ≤ n) × (w ≡ n * v + u)
taken scope e c more w total =
    let j = joined_is (repeated_width (width scope e) (scope.count c)) (total_width scope more) w total in
    let r = repeated_is (width scope e) (scope.count c) j.0 j.2 in
    let sum : w ≡ r.1 * r.0 + j.1 = j.4 ∙ ap (λ (k : ℕ). k + j.1) r.5 in
    (r.0, r.1, j.1, r.2, r.3, j.3, r.4, sum)

-- a part without a width leaves none before it
pub no_value : (names : Meanings) (e : Tree) (c : Count) (more : Parts) → HasNoFlat names e → HaveNoFlat names (one_part e c more)
no_value names e c more none scope widths are built w total few = none scope widths are built.0 (taken scope e c more w total).0 (taken scope e c more w total).3

-- where a part stands no time, or all come to too much
pub too_wide : (names : Meanings) (e : Tree) (c : Count) (more : Parts) (part behind : Flat) (n v u : ℕ) → count_of names c ≡ Some n → IsFlatOf names e part v → ArePartsFlat names more behind u →
    128 < n * v + u → HaveNoFlat names (one_part e c more)
too_wide names e c more part behind n v u times is ps far scope widths are built w total few =
    let t = taken scope e c more w total in
    let a : v ≡ t.0 = some_same v t.0 (sym (is.tree_width scope widths are) ∙ t.3) in
    let b : n ≡ t.1 = some_same n t.1 (sym (are.counts c ∙ times) ∙ t.4) in
    let d : u ≡ t.2 = some_same u t.2 (sym (ps.tree_width scope widths are) ∙ t.5) in
    let sum : n * v + u ≡ w = ap₂ (λ (x y : ℕ). x * y + u) b a ∙ ap (λ (x : ℕ). t.1 * t.0 + x) d ∙ sym t.7 in
    omega arith

pub no_time : (names : Meanings) (e : Tree) (c : Count) (more : Parts) → count_of names c ≡ Some 0 → HaveNoFlat names (one_part e c more)
no_time names e c more none scope widths are built w total few =
    let t = taken scope e c more w total in
    let b : 0 ≡ t.1 = some_same 0 t.1 (sym (are.counts c ∙ none) ∙ t.4) in
    let some : 1 ≤ t.1 = t.6 in
    omega arith

pub no_count : (names : Meanings) (e : Tree) (c : Count) (more : Parts) → count_of names c ≡ None → HaveNoFlat names (one_part e c more)
no_count names e c more none scope widths are built w total few =
    let t = taken scope e c more w total in
    let b : None ≡ Some t.1 = sym (are.counts c ∙ none) ∙ t.4 in
    cc

pub many_times : (n v u : ℕ) → 128 < n → 1 ≤ v → 128 < n * v + u
many_times n zero u many some = absurd (omega arith)
many_times n (suc v) u many some = omega arith

-- all together
pub whole_is : (names : Meanings) (parts : Parts) (at w : ℕ) (flat : Flat) → ArePartsFlat names parts flat w → 1 ≤ w → w ≤ 128 → IsFlatOf names (concat parts at) flat w
whole_is names parts at w flat ps low high = record {
  built = ps.built;
  positive = low;
  at_most = high;
  tree_width = λ scope widths are. ap checked_width (ps.tree_width scope widths are) ∙ width_checked w low high;
  leaf_width = λ scope widths are. ps.leaf_width scope widths are;
  number = λ scope widths are read numbers reads. ps.number scope widths are read numbers reads;
}

pub no_whole : (names : Meanings) (parts : Parts) (at : ℕ) (flat : Flat) → ArePartsFlat names parts flat 0 → HasNoFlat names (concat parts at)
no_whole names parts at flat ps scope widths are built w e =
    let c = checked_is (total_width scope parts) w e in
    let z : 0 ≡ w = some_same 0 w (sym (ps.tree_width scope widths are) ∙ c.0) in
    let p : 1 ≤ w = c.1 in
    omega arith

pub none_whole : (names : Meanings) (parts : Parts) (at : ℕ) → HaveNoFlat names parts → HasNoFlat names (concat parts at)
none_whole names parts at none scope widths are built w e =
    let c = checked_is (total_width scope parts) w e in
    none scope widths are built w c.0 c.2

-- parts behind an index are narrower than all
behind_more : (names : Meanings) (e : Tree) (c : Count) (more : Parts) → HaveNoFlat names more → HaveNoFlat names (one_part e c more)
behind_more names e c more none scope widths are built w total few =
    let t = taken scope e c more w total in
    let sum : w ≡ t.1 * t.0 + t.2 = t.7 in
    none scope widths are built.1 t.2 t.5 (omega arith)

pub behind_all : (names : Meanings) (parts : List Part) (i : ℕ) → HaveNoFlat names (parts_tree (drop i parts)) → HaveNoFlat names (parts_tree parts)
behind_all names parts zero none = none
behind_all names [] (suc i) none = none
behind_all names (p ∷ ps) (suc i) none = behind_more names (tree p.value) p.times (parts_tree ps) (behind_all names ps i none)

-- a part at an index that has none leaves the concatenation none
pub none_at : (names : Meanings) (parts : List Part) (i : ℕ) (x : Part) (at : ℕ) → i < length parts → x ≡ get_or parts i x →
    HaveNoFlat names (one_part (tree x.value) x.times (parts_tree (drop (i + 1) parts))) → HasNoFlat names (concat (parts_tree parts) at)
none_at names parts i x at within is none =
    none_whole names (parts_tree parts) at (behind_all names parts i
    (subst (λ (ps : List Part). HaveNoFlat names (parts_tree ps)) (sym (drop_item parts i x within is)) none))

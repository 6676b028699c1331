-- States by their rows.
use Rattle.std.proofs.Common.{◌≡◌, ℕ, zero, suc, List, [], ◌∷◌, map, Option, Some, None, refl, inl, inr}
use Rattle.std.specs.Prelude.{bytes_eq, find, slice_get}
use Rattle.std.proofs.lemmas.Bool.{cases_Bool}
use Rattle.lola_tree.specs.Tree.{tree}
use Rattle.tab_tree.specs.declared.table.SetRow.{SetRow}
use Rattle.tab_tree.specs.declared.value.StateValue.{StateValue}
use Rattle.tab_tree.specs.declared.value.StateValue.TheVariants.{One}
use Rattle.tab_tree.specs.Table.{StateTree, set_tree, expr_tree}
use Rattle.tab_tree.specs.Names.{Names, vector, table_value}
use Rattle.tab_tree.specs.Step.{Arch, nth_value, row_value, set_value}

-- what a row that was found, or none, gives a state
abbrev pub found_value : Option SetRow → StateValue → Names StateValue → StateValue
found_value None old names = old
found_value (Some row) old names = row_value (expr_tree row.place) (table_value names (tree row.value)) old names

pub set_found : (rows : List SetRow) (state : StateTree) (old : StateValue) (names : Names StateValue) →
    set_value (map set_tree rows) state old names ≡ found_value (find (λ row. bytes_eq row.name state.name) rows) old names
set_found [] state old names = refl
set_found (row ∷ rows) state old names = elim (cases_Bool (bytes_eq row.name state.name)) [
  | inl same ↦ rw same refl
  | inr other ↦ rw other (set_found rows state old names)
]

-- the value of a number
abbrev pub or_zero_value : Option StateValue → StateValue
or_zero_value None = One (vector 0 0)
or_zero_value (Some a) = a

pub nth_is : (A : Arch) (n : ℕ) → nth_value A n ≡ or_zero_value (slice_get A n)
nth_is [] n = refl
nth_is (a ∷ A) zero = refl
nth_is (a ∷ A) (suc n) = nth_is A n

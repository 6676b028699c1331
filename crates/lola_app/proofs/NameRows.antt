-- The names of rows.
use Rattle.std.proofs.Common.{ℕ, List, map}
use Rattle.small_tree.specs.declared.table.StateRow.{StateRow}
use Rattle.small_tree.specs.declared.table.SetRow.{SetRow}
use Rattle.small_tree.specs.Table.{state_tree, set_tree, StateTree, SetTree}

abbrev pub names_of_states : List StateRow → List (List ℕ)
names_of_states rows = map (λ (row : StateTree). row.name) (map state_tree rows)

abbrev pub names_of_rows : List SetRow → List (List ℕ)
names_of_rows rows = map (λ (row : SetTree). row.name) (map set_tree rows)

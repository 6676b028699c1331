use Rattle.std.proofs.Common.{take, map, string_bytes}
use Rattle.std.specs.List.{AllByRecursion}
use Rattle.lola_elab.specs.Scope.{HasReading}
use Rattle.small_tree.specs.Table.{set_tree}
use Rattle.lola_app.specs.declared.states.Shown.{Shown}
use Rattle.lola_app.specs.Small.{IsSmallRow}
use Rattle.lola_app.proofs.rows.check_each.Given as goal

-- the rows so far
abbrev pub invariant-loop-row : goal.invariant-loop-row
invariant-loop-row l = AllByRecursion (IsSmallRow (map (λ (s : Shown). string_bytes s.name) l.states) (HasReading l.scope)) (map set_tree (take l.row-index l.rows))

use Rattle.std.proofs.Common.{◌↔◌, ℕ, List, map, drop}
use Rattle.std.specs.BTreeMap.{get_by_text}
use Rattle.lola_tree.specs.Width.{Scope as Widths}
use Rattle.lola_tree.specs.Tree.{stmt_tree}
use Rattle.lola_elab.specs.Assigned.{AreSized}
use Rattle.lola_elab.specs.Meanings.{AreOf}
use Rattle.lola_elab.proofs.assigned.check_values.Given as goal

-- the statements so far are right
abbrev pub invariant-loop-stmt : goal.invariant-loop-stmt
invariant-loop-stmt l = (scope : Widths) (widths : List ℕ) → AreOf (get_by_text l.names) scope widths →
    AreSized (get_by_text l.names) (get_by_text l.targets) scope (map stmt_tree (drop l.stmt-index l.body)) ↔ AreSized (get_by_text l.names) (get_by_text l.targets) scope (map stmt_tree l.body)

use Rattle.std.proofs.Common.{◌≡◌, ◌≤◌, drop}
use Rattle.lrat_check.specs.Clauses.{without_all}
use Rattle.lrat_check.proofs.checker.take_out_all.Given as goal

abbrev pub invariant-loop-id : goal.invariant-loop-id
invariant-loop-id l = (without_all l.table.force (drop l.id-index l.ids) ≡ without_all l.initial.table.force l.ids) × (l.table.last ≡ l.initial.table.last)
    × (l.initial.table.spare_clauses ≤ l.table.spare_clauses) × (l.initial.table.spare_literals ≤ l.table.spare_literals)

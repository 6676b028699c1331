use Rattle.std.proofs.Common.{◌≡◌, drop}
use Rattle.lola_width.specs.AssignmentFaults.{locals_never}
use Rattle.lola_width.specs.Order.{first_after}
use Rattle.lola_width.specs.Table.{taken_in}
use Rattle.lola_width.proofs.targets.note_locals_never.Given as goal

abbrev pub invariant-loop-local : goal.invariant-loop-local
invariant-loop-local l = first_after l.first (locals_never (taken_in l.targets) (drop l.local-index l.locals)) ≡ first_after l.fn.first (locals_never (taken_in l.targets) l.locals)

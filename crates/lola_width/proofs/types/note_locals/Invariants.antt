use Rattle.std.proofs.Common.{◌≡◌, drop}
use Rattle.lola_width.specs.NameFaults.{local_faults}
use Rattle.lola_width.specs.Order.{first_after}
use Rattle.lola_width.specs.Table.{found, seen_in}
use Rattle.lola_width.proofs.types.note_locals.Given as goal

abbrev pub invariant-loop-local : goal.invariant-loop-local
invariant-loop-local l =
    first_after l.first (local_faults (found l.table) (seen_in l.modules) l.clock.name (drop l.local-index l.locals))
    ≡ first_after l.fn.first (local_faults (found l.table) (seen_in l.modules) l.clock.name l.locals)

use Rattle.std.proofs.Common.{◌≡◌, drop}
use Rattle.lola_width.specs.Interface.{locals_clock}
use Rattle.lola_width.specs.Table.{found}
use Rattle.lola_width.proofs.clock.locals_clock.Given as goal

abbrev pub invariant-loop-local : goal.invariant-loop-local
invariant-loop-local l = locals_clock (found l.table) (drop l.local-index l.locals) ≡ locals_clock (found l.table) l.locals

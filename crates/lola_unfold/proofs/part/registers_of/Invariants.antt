use Rattle.std.proofs.Common.{◌≡◌, drop}
use Rattle.lola_tree.specs.Signals.{register_names}
use Rattle.lola_unfold.specs.Tables.{clocks_found, clocks_with, no_clock}
use Rattle.lola_unfold.proofs.part.registers_of.Given as goal

abbrev pub invariant-loop-local : goal.invariant-loop-local
invariant-loop-local l = clocks_with (clocks_found l.registers) (register_names (drop l.local-index l.locals)) ≡ clocks_with no_clock (register_names l.locals)

use Rattle.std.proofs.Common.{◌≡◌, drop}
use Rattle.lola_unfold.specs.Tables.{clocks_found}
use Rattle.lola_unfold.specs.Root.{first_clock}
use Rattle.lola_unfold.proofs.root.clock_of.Given as goal

abbrev pub invariant-loop-port : goal.invariant-loop-port
invariant-loop-port l = first_clock (clocks_found l.clocks) (drop l.port-index l.ports) ≡ first_clock (clocks_found l.clocks) l.ports

use Rattle.std.proofs.Common.{◌≡◌, ◌++◌, drop, map}
use Rattle.lola_tree.specs.declared.module.Port.{Port}
use Rattle.lola_unfold.specs.Tables.{clocks_found}
use Rattle.lola_unfold.proofs.measure.port_clocks.Given as goal

abbrev pub invariant-loop-port : goal.invariant-loop-port
invariant-loop-port l = l.flags.items ++ map (λ (p : Port). clocks_found l.clocks p.name) (drop l.port-index l.ports) ≡ map (λ (p : Port). clocks_found l.clocks p.name) l.ports

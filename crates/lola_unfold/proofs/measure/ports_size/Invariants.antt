use Rattle.std.proofs.Common.{◌≡◌, ◌+◌, ◌-◌, ◌^◌, ◌≤◌, drop, map, sum}
use Rattle.lola_width.specs.Table.{found}
use Rattle.lola_unfold.specs.Slots.{capped}
use Rattle.lola_unfold.specs.Tables.{clocks_found}
use Rattle.lola_unfold.specs.Measured.{port_size}
use Rattle.lola_unfold.proofs.measure.ports_size.Given as goal

abbrev pub invariant-loop-port : goal.invariant-loop-port
invariant-loop-port l = record {
  total :
      capped (l.size + sum (map (port_size (found l.names) (clocks_found l.clocks)) (drop l.port-index l.ports)))
      ≡ capped (sum (map (port_size (found l.names) (clocks_found l.clocks)) l.ports));
  within : l.size ≤ 2 ^ 32 - 1;
}

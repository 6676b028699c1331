use Rattle.std.proofs.Common.{◌≡◌, ◌++◌, ◌≤◌, take, drop}
use Rattle.lola_net.specs.Run.{picked}
use Rattle.lola_net.specs.Parts.{part_bit}
use Rattle.lola_net.proofs.run.put_part.Given as goal

abbrev pub invariant-loop-at : goal.invariant-loop-at
invariant-loop-at l = record {
  few : l.count ≤ l.at;
  picked : take l.count l.into ++ picked (part_bit l.part l.values) (drop l.at l.nodes) (drop l.at l.values) ≡ picked (part_bit l.part l.values) l.nodes l.values;
}

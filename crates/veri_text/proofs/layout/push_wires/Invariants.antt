use Rattle.std.proofs.Common.{◌≡◌, ◌+◌, ◌++◌, drop}
use Rattle.veri_text.specs.Layout.{wires_from}
use Rattle.veri_text.proofs.layout.push_wires.Given as goal

abbrev pub invariant-loop-at : goal.invariant-loop-at
invariant-loop-at l = l.out.items ++ wires_from (l.at + 1) (drop l.at l.nodes) ≡ l.fn.out.items ++ wires_from 1 l.nodes

use Rattle.std.proofs.Common.{◌≡◌, ◌++◌, drop}
use Rattle.veri_text.specs.Layout.{nexts_lines}
use Rattle.veri_text.proofs.layout.push_nexts.Given as goal

abbrev pub invariant-loop-node : goal.invariant-loop-node
invariant-loop-node l = l.out.items ++ nexts_lines l.nodes (drop l.node-index l.nodes) ≡ l.fn.out.items ++ nexts_lines l.nodes l.nodes

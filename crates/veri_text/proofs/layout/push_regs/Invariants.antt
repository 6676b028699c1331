use Rattle.std.proofs.Common.{◌≡◌, ◌++◌, drop}
use Rattle.veri_text.specs.Layout.{regs_lines}
use Rattle.veri_text.proofs.layout.push_regs.Given as goal

abbrev pub invariant-loop-node : goal.invariant-loop-node
invariant-loop-node l = l.out.items ++ regs_lines (drop l.node-index l.nodes) ≡ l.fn.out.items ++ regs_lines l.nodes

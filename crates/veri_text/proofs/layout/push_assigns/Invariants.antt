use Rattle.std.proofs.Common.{◌≡◌, ◌+◌, ◌++◌, drop}
use Rattle.veri_text.specs.Layout.{assigns_from}
use Rattle.veri_text.proofs.layout.push_assigns.Given as goal

abbrev pub invariant-loop-at : goal.invariant-loop-at
invariant-loop-at l = l.out.items ++ assigns_from l.nodes (l.at + 1) (drop l.at l.nodes) ≡ l.fn.out.items ++ assigns_from l.nodes 1 l.nodes

use Rattle.std.proofs.Common.{◌≡◌, drop}
use Rattle.veri_text.specs.Names.{taken_in, none_taken, pads_taken}
use Rattle.veri_text.proofs.layout.named_pads.Given as goal

abbrev pub invariant-loop-node : goal.invariant-loop-node
invariant-loop-node l = pads_taken (taken_in l.names) (drop l.node-index l.nodes) ≡ pads_taken none_taken l.nodes

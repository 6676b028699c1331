use Rattle.std.proofs.Common.{ap}
use Rattle.veri_text.specs.Names.{taken_in, none_taken, pads_taken}
use Rattle.veri_text.proofs.Sets.{pads_more}
use Rattle.veri_text.proofs.layout.named_pads.Goals as goal

pub loop-node-init : goal.loop-node-init
loop-node-init c = ap (λ t. pads_taken t c.args.nodes.now) c.new-names.ensures

pub loop-node-preserved : goal.loop-node-preserved
loop-node-preserved c =
    pads_more (taken_in c.loop-node.names) (taken_in c.add_pad.new.names) (pads_taken none_taken c.args.nodes.now) c.args.nodes.now c.loop-node.node-index c.node-item.result c.loop-node-test.true c.node-item.is
    c.in_ok-add_pad.ensures c.loop-node.invariant

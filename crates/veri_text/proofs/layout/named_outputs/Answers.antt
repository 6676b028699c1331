use Rattle.std.proofs.Common.{ℕ, List, ap, ◌∙◌}
use Rattle.veri_text.specs.Names.{taken_in, none_taken, taken_with, outputs_taken}
use Rattle.veri_text.proofs.Sets.{outputs_more}
use Rattle.veri_text.proofs.layout.named_outputs.Goals as goal

pub loop-output-init : goal.loop-output-init
loop-output-init c = ap (λ t. outputs_taken t c.args.outputs.now) c.new-names.ensures

pub loop-output-preserved : goal.loop-output-preserved
loop-output-preserved c =
    outputs_more (taken_in c.loop-output.names) (taken_in c.add.new.self) (outputs_taken none_taken c.args.outputs.now) c.args.outputs.now c.loop-output.output-index c.output-item.result c.loop-output-test.true c.output-item.is
    (c.in_ok-add.ensures ∙ ap (λ (name : List ℕ). taken_with (taken_in c.loop-output.names) name) c.text.ensures) c.loop-output.invariant

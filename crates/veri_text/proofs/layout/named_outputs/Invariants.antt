use Rattle.std.proofs.Common.{◌≡◌, drop}
use Rattle.veri_text.specs.Names.{taken_in, none_taken, outputs_taken}
use Rattle.veri_text.proofs.layout.named_outputs.Given as goal

abbrev pub invariant-loop-output : goal.invariant-loop-output
invariant-loop-output l = outputs_taken (taken_in l.names) (drop l.output-index l.outputs) ≡ outputs_taken none_taken l.outputs

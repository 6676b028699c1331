use Rattle.std.proofs.Common.{◌≡◌, ◌++◌, drop}
use Rattle.veri_text.specs.Layout.{outputs_lines}
use Rattle.veri_text.proofs.layout.push_outputs.Given as goal

abbrev pub invariant-loop-output : goal.invariant-loop-output
invariant-loop-output l = l.out.items ++ outputs_lines l.nodes (drop l.output-index l.outputs) ≡ l.fn.out.items ++ outputs_lines l.nodes l.outputs

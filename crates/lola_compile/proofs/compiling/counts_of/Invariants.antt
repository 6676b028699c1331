use Rattle.std.proofs.Common.{◌≡◌, ◌+◌, ◌≤◌, drop, length}
use Rattle.lola_net.specs.Counts.{frees, latches, pads}
use Rattle.lola_compile.specs.Compiled.{gate_count}
use Rattle.lola_compile.proofs.compiling.counts_of.Given as goal

abbrev pub invariant-loop-node : goal.invariant-loop-node
invariant-loop-node l = record {
  few_inputs : l.counts.inputs ≤ l.node-index;
  few_registers : l.counts.registers ≤ l.node-index;
  few_pads : l.counts.pads ≤ l.node-index;
  few_gates : l.counts.gates ≤ l.node-index;
  outputs : l.counts.outputs ≡ length l.net.outputs;
  inputs : l.counts.inputs + frees (drop l.node-index l.net.nodes) ≡ frees l.net.nodes;
  registers : l.counts.registers + latches (drop l.node-index l.net.nodes) ≡ latches l.net.nodes;
  pads : l.counts.pads + pads (drop l.node-index l.net.nodes) ≡ pads l.net.nodes;
  gates : l.counts.gates + gate_count (drop l.node-index l.net.nodes) ≡ gate_count l.net.nodes;
}

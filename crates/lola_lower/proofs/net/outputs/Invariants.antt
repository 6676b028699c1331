use Rattle.std.proofs.Common.{◌≡◌, ◌++◌, drop, flat_map}
use Rattle.lola_flat.specs.Tree.{flat_tree}
use Rattle.lola_lower.specs.Steps.{port_outputs}
use Rattle.lola_lower.proofs.net.outputs.Given as goal

-- the outputs so far, and those of the ports that are left
abbrev pub invariant-loop-port : goal.invariant-loop-port
invariant-loop-port l = l.outputs.items ++ flat_map (port_outputs (flat_tree l.flat) l.signals) (drop l.port-index l.ports) ≡ flat_map (port_outputs (flat_tree l.flat) l.signals) l.flat.ports

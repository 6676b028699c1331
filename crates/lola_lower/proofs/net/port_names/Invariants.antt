use Rattle.std.proofs.Common.{◌≡◌, ◌++◌, drop, flat_map}
use Rattle.lola_flat.specs.Tree.{flat_tree}
use Rattle.lola_lower.specs.Steps.{port_names}
use Rattle.lola_lower.proofs.net.port_names.Given as goal

-- the names so far, and those of the ports that are left
abbrev pub invariant-loop-port : goal.invariant-loop-port
invariant-loop-port l = l.names.items ++ flat_map (port_names (flat_tree l.flat)) (drop l.port-index l.ports) ≡ flat_map (port_names (flat_tree l.flat)) l.flat.ports

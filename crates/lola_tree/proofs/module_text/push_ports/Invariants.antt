use Rattle.std.proofs.Common.{◌≡◌, ◌++◌, drop, []}
use Rattle.lola_tree.specs.Print.{ports_text}
use Rattle.lola_tree.proofs.module_text.push_ports.Given as goal

abbrev pub invariant-loop-port : goal.invariant-loop-port
invariant-loop-port l = l.out.items ++ ports_text l.before (drop l.port-index l.ports) ≡ l.fn.out.items ++ ports_text [] l.ports

use Rattle.std.proofs.Common.{◌≡◌, ◌++◌, drop}
use Rattle.veri_text.specs.Layout.{more_ports}
use Rattle.veri_text.proofs.layout.push_more_ports.Given as goal

abbrev pub invariant-loop-port : goal.invariant-loop-port
invariant-loop-port l = l.out.items ++ more_ports (drop l.port-index l.ports) ≡ l.fn.out.items ++ more_ports l.ports

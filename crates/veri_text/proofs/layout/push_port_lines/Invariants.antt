use Rattle.std.proofs.Common.{◌≡◌, ◌++◌, drop}
use Rattle.veri_text.specs.Layout.{ports_lines}
use Rattle.veri_text.specs.Names.{taken_in}
use Rattle.veri_text.proofs.layout.push_port_lines.Given as goal

abbrev pub invariant-loop-port : goal.invariant-loop-port
invariant-loop-port l = l.out.items ++ ports_lines (taken_in l.outputs) (taken_in l.pads) (drop l.port-index l.ports) ≡ l.fn.out.items ++ ports_lines (taken_in l.outputs) (taken_in l.pads) l.ports

use Rattle.std.proofs.Common.{◌≡◌, length, take, ◌-◌, ◌≤◌}
use Rattle.lola_port.specs.Outside.{Appended}
use Rattle.lola_app.proofs.printer.write_text.Given as goal

abbrev pub invariant-loop-at : goal.invariant-loop-at
invariant-loop-at g l = record {
  within : l.at ≤ length l.text;
  same : g.O.Sink.faults l.out ≡ g.O.Sink.faults l.fn.out;
  printed : Appended (g.O.Sink.bytes l.fn.out) (g.O.Sink.bytes l.out) (take l.at l.text);
}

abbrev pub decreases-loop-at : goal.decreases-loop-at
decreases-loop-at g l = length l.text - l.at

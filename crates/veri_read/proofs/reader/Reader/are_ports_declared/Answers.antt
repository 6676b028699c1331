use Rattle.std.proofs.Common.{sym, ap, ◌∙◌}
use Rattle.veri_read.specs.Faults.{is_declared_port, kind_of}
use Rattle.veri_read.specs.Held.{listed, said_of}
use Rattle.veri_read.proofs.Views.{all_on, all_stops}
use Rattle.veri_read.proofs.reader.Reader.are_ports_declared.Goals as goal

pub returns-then-not-is_declared_port : goal.returns-then-not-is_declared_port
returns-then-not-is_declared_port c = all_stops (λ p. is_declared_port (kind_of (said_of c.args.self.now) p.0)) (listed c.args.self.now.ports) c.loop-place.place (c.at.result.0.now, c.at.result.1) c.at.ensures (ap is_declared_port (sym c.kind_of.ensures) ∙ sym c.is_declared_port.ensures ∙ c.if-not-is_declared_port.true) c.loop-place.invariant

pub loop-place-preserved : goal.loop-place-preserved
loop-place-preserved c = all_on (λ p. is_declared_port (kind_of (said_of c.args.self.now) p.0)) (listed c.args.self.now.ports) c.loop-place.place (c.at.result.0.now, c.at.result.1) c.at.ensures (ap is_declared_port (sym c.kind_of.ensures) ∙ sym c.is_declared_port.ensures ∙ c.if-not-is_declared_port.false) c.loop-place.invariant

use Rattle.std.proofs.Common.{sym, ◌∙◌}
use Rattle.veri_read.specs.Faults.{is_assigned}
use Rattle.veri_read.specs.Held.{listed, said_of}
use Rattle.veri_read.proofs.Views.{all_on, all_stops}
use Rattle.veri_read.proofs.reader.Reader.are_assigned.Goals as goal

pub returns-then-not-is_assigned : goal.returns-then-not-is_assigned
returns-then-not-is_assigned c = all_stops (is_assigned (said_of c.args.self.now)) (listed c.args.self.now.declared) c.loop-place.place (c.at.result.0.now, c.at.result.1) c.at.ensures (sym c.is_assigned.ensures ∙ c.if-not-is_assigned.true) c.loop-place.invariant

pub loop-place-preserved : goal.loop-place-preserved
loop-place-preserved c = all_on (is_assigned (said_of c.args.self.now)) (listed c.args.self.now.declared) c.loop-place.place (c.at.result.0.now, c.at.result.1) c.at.ensures (sym c.is_assigned.ensures ∙ c.if-not-is_assigned.false) c.loop-place.invariant

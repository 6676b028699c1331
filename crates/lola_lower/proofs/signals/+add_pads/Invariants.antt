use Rattle.std.proofs.Common.{length}
use Rattle.lola_lower.proofs.signals.+add_pads.Given as goal

abbrev pub decreases-add_pads : goal.decreases-add_pads
decreases-add_pads l = length l.values.now

use Rattle.std.proofs.Common.{length}
use Rattle.lrat_check.proofs.keys.+search.Given as goal

abbrev pub decreases-search : goal.decreases-search
decreases-search l = length l.entries.now

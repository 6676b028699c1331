use Rattle.std.proofs.Common.{◌+◌, ◌*◌, length}
use Rattle.lola_unfold.proofs.slots.+offset.Given as goal

abbrev pub decreases-offset_of : goal.decreases-offset_of
decreases-offset_of l = 2 * length l.path.now

abbrev pub decreases-inner_offset : goal.decreases-inner_offset
decreases-inner_offset l = 2 * length l.rest.now + 1

use Rattle.std.proofs.Common.{sym, subst}
use Rattle.lola_lanes.specs.Lanes.{digit, IsWordOf}
use Rattle.lola_lanes.proofs.Cases.{word_is}
use Rattle.lola_lanes.proofs.lanes.free_word.Goals as goal

pub returns : goal.returns
returns c = subst (IsWordOf (digit c.args.place) c.args.block) (sym c.place_word.ensures) (word_is c.args.place c.args.block)

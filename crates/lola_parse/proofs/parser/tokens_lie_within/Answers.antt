use Rattle.lola_parse.proofs.Lie.{lie}
use Rattle.lola_parse.proofs.parser.tokens_lie_within.Goals as goal

pub returns : goal.returns
returns c = lie

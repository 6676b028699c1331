use Rattle.std.proofs.Common.{subst}
use Rattle.lola_parse.specs.declared.symbol.Language.TheVariants.{Design}
use Rattle.lola_parse.specs.Long.{LongWithin}
use Rattle.lola_parse.proofs.TooLong.{text_long}
use Rattle.lola_parse.proofs.parser.parse.Goals as goal

pub returns-in-Err-clause-long : goal.returns-in-Err-clause-long
returns-in-Err-clause-long c =
    text_long c.args.text.now c.args.tokens.now c.in-Err.fault c.placed.result
    (subst (λ all. LongWithin Design all c.in-Err.fault) c.new.ensures c.in-Err.ensures.long) c.placed.ensures.long

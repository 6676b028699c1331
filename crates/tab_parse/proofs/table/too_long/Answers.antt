use Rattle.lola_parse.specs.declared.symbol.Language.TheVariants.{Table}
use Rattle.tab_parse.proofs.TooLong.{too_long_from}
use Rattle.tab_parse.proofs.table.too_long.Goals as goal

pub returns-in-Some : goal.returns-in-Some
returns-in-Some c = too_long_from Table c.args.text.now c.args.tokens.now c.saturating_sub-from.result c.in-Some.error c.in-Some.ensures

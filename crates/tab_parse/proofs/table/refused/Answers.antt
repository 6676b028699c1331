use Rattle.std.proofs.Common.{sym, subst}
use Rattle.std.specs.Prelude.{IfSome, drop}
use Rattle.lola_parse.specs.declared.symbol.Language.TheVariants.{Table}
use Rattle.lola_parse.specs.Symbols.{items_of}
use Rattle.lola_parse.specs.Long.{BeginsTooLong, LongSays}
use Rattle.tab_parse.proofs.TooLong.{err_says}
use Rattle.tab_parse.proofs.table.refused.Goals as goal

pub returns : goal.returns
returns c =
    let Says = LongSays (BeginsTooLong Table (items_of Table c.args.text.now (drop c.args.from c.args.tokens.now))) in
    subst (λ o. IfSome o Says) (sym c.err.ensures.value) (err_says Says c.parse_table_expr.result c.parse_table_expr.ensures.long)

use Rattle.lola_parse.specs.declared.symbol.Language.TheVariants.{Table}
use Rattle.small_read.proofs.Unique.{ended_one, table_one}
use Rattle.small_read.proofs.laws.one_table.Goals as goal

pub returns : goal.returns
returns c = table_one (ended_one (c.one_expression.ensures Table)) c.one_shape.ensures

use Rattle.lola_parse.specs.declared.symbol.Language.TheVariants.{Table}
use Rattle.tab_parse.proofs.OneTable.{table_one}
use Rattle.tab_parse.proofs.laws.one_table.Goals as goal

pub returns : goal.returns
returns c = table_one (c.one_expression.ensures Table) c.one_shape.ensures

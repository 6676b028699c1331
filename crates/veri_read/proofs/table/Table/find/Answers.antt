use Rattle.std.proofs.Common.{◌∙◌}
use Rattle.veri_read.proofs.Tables.{found_plain}
use Rattle.veri_read.proofs.table.Table.find.Goals as goal

pub returns : goal.returns
returns g c = c.copied.ensures ∙ c.get.ensures.value ∙ found_plain c.args.name.now c.args.self.now.entries.entries

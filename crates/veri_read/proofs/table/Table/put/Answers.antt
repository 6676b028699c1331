use Rattle.std.proofs.Common.{map, ap, ◌∙◌}
use Rattle.veri_read.proofs.Tables.{plain, put_plain}
use Rattle.veri_read.proofs.table.Table.put.Goals as goal

pub returns : goal.returns
returns g c = ap (map plain) c.in_ok-insert.ensures.entries ∙ put_plain c.args.self.now.entries.entries c.args.name c.args.value

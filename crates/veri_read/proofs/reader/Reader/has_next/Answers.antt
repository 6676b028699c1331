use Rattle.std.proofs.Common.{◌∙◌}
use Rattle.veri_read.specs.Held.{listed}
use Rattle.veri_read.proofs.Views.{has_term}
use Rattle.veri_read.proofs.reader.Reader.has_next.Goals as goal

pub returns : goal.returns
returns c = c.has.ensures ∙ has_term (listed c.args.self.now.nexts) c.args.name.now

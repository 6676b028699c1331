use Rattle.std.proofs.Common.{ap, map, ◌∙◌}
use Rattle.veri_read.specs.Tables.{Names}
use Rattle.veri_read.specs.Said.{Term}
use Rattle.veri_read.specs.Held.{listed, said_of, with_term_of}
use Rattle.veri_read.proofs.Views.{put_term}
use Rattle.veri_read.proofs.reader.Reader.end_next.Goals as goal

pub returns-in-Ok : goal.returns-in-Ok
returns-in-Ok c = ap (λ (n : Names Term). record (said_of c.args.self.now) { nexts = n }) (ap (map with_term_of) c.in-Ok.ensures ∙ put_term (listed c.args.self.now.nexts) c.args.self.now.target.now c.args.self.now.second)

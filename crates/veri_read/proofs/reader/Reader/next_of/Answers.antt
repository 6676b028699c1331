use Rattle.std.proofs.Common.{ap, ◌∙◌}
use Rattle.std.specs.Option.{option_map}
use Rattle.veri_read.specs.Held.{listed, term_of}
use Rattle.veri_read.proofs.Views.{find_term}
use Rattle.veri_read.proofs.reader.Reader.next_of.Goals as goal

pub returns : goal.returns
returns c = ap (option_map term_of) c.find.ensures ∙ find_term (listed c.args.self.now.nexts) c.args.name.now

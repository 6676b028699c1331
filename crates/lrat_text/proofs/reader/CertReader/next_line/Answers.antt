use Rattle.std.proofs.Common.{Option, List, ℕ, subst}
use Rattle.lrat_text.specs.Cut.{items_of}
use Rattle.lrat_text.specs.Parse.{parse}
use Rattle.lrat_text.specs.Reading.{reading, NextLine}
use Rattle.lrat_text.proofs.Readable.{reads_line}
use Rattle.lrat_text.proofs.reader.CertReader.next_line.Goals as goal

pub returns-in-Some : goal.returns-in-Some
returns-in-Some c = subst (λ (o : Option (List ℕ × List ℕ)). NextLine c.args.names.now (reading c.args.self.now) o c.told-answer.result (reading c.stand.new.self)) c.in-Some.ensures
    (record { meant = parse (items_of c.in-Some.line.now); reads = reads_line c.in-Some.line.now; told = c.told-answer.ensures; stands = c.stand.ensures })

use Rattle.small_read.proofs.reader.read_table.Goals as goal

pub returns-clause-none : goal.returns-clause-none
returns-clause-none c = λ none T h. c.whole_table.ensures.none none T (rw c.new.ensures h)

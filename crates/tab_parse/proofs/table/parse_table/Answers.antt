use Rattle.tab_parse.proofs.table.parse_table.Goals as goal

pub returns-in-Err-clause-none : goal.returns-in-Err-clause-none
returns-in-Err-clause-none c = λ other T h. other (c.placed.ensures.want (c.in-Err.ensures.whole T (rw c.new.ensures h)))

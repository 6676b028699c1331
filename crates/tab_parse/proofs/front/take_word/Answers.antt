use Rattle.tab_parse.proofs.Fronts.{word_next}
use Rattle.tab_parse.proofs.front.take_word.Goals as goal

pub returns-clause-ok : goal.returns-clause-ok
returns-clause-ok c = word_next c.args.here c.next-next.result _ c.next-next.ensures c.if-not-next.false c.in_ok-name.ensures

use Rattle.std.proofs.lemmas.Result.{IfOk-weaker}
use Rattle.tab_parse.specs.Grammar.{stored}
use Rattle.tab_parse.proofs.Parts.{access_store}
use Rattle.tab_parse.proofs.phases.take_stored.Goals as goal

pub returns-in-Some-clause-ok : goal.returns-in-Some-clause-ok
returns-in-Some-clause-ok c = IfOk-weaker c.take_store.result _ _ (λ read h. stored c.in-Some.first c.in-Some.ensures.ok h) c.take_store.ensures.ok

pub returns-in-Some-clause-whole : goal.returns-in-Some-clause-whole
returns-in-Some-clause-whole c = λ access rest h ends. c.take_store.ensures.whole access rest (access_store h ends c.in-Some.ensures.ok) ends.byte.stops

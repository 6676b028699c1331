use Rattle.std.proofs.lemmas.Result.{IfOk-weaker}
use Rattle.tab_parse.specs.Grammar.{loaded}
use Rattle.tab_parse.proofs.Parts.{access_load}
use Rattle.tab_parse.proofs.phases.take_access.Goals as goal

pub returns-in-Some-clause-ok : goal.returns-in-Some-clause-ok
returns-in-Some-clause-ok c = IfOk-weaker c.take_load.result _ _ (λ read h. loaded c.in-Some.first c.in-Some.ensures.ok h) c.take_load.ensures.ok

pub returns-in-Some-clause-whole : goal.returns-in-Some-clause-whole
returns-in-Some-clause-whole c = λ access rest h ends. c.take_load.ensures.whole access rest (access_load h ends c.in-Some.ensures.ok) ends

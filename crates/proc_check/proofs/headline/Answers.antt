use Rattle.tab_tree.specs.Names.{nothing}
use Rattle.proc_check.proofs.Based.{based}
use Rattle.proc_check.proofs.Theorem.{holds}
use Rattle.proc_check.proofs.headline.Goals as goal

pub returns : goal.returns
returns c = λ S T regular cycles fit all.
    holds S T (based S T fit c.expressions_have_vectors.ensures
    (λ b loads turns A i m counts k old word words count. c.names_have_forms.ensures.class S T b loads turns A i m counts k nothing nothing old word words count (λ path. tt))
    (λ s inp v s' state given cycle next. (cycles s inp state given).state v s' cycle next)
    (λ s state. c.shown_values_suit.ensures.states S T s fit state) (λ s state. c.shown_values_suit.ensures.word S T s fit state)
    (λ inp given. c.shown_values_suit.ensures.answer S T inp regular fit given)) all

use Rattle.obl_def.proofs.Shown.{word_fits, states_fit, answer_fits}
use Rattle.obl_def.proofs.values.shown_values_suit.Goals as goal

pub returns-clause-states : goal.returns-clause-states
returns-clause-states c = λ S T s fit state. states_fit c.what_numbers_elements.ensures S T fit s state

pub returns-clause-word : goal.returns-clause-word
returns-clause-word c = λ S T s fit state. word_fits c.what_numbers_elements.ensures S T fit s state

pub returns-clause-answer : goal.returns-clause-answer
returns-clause-answer c = λ S T inp regular fit given. answer_fits S T (λ p. c.one_path.ensures S p regular.names) fit inp given

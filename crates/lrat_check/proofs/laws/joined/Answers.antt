use Rattle.lrat_check.proofs.Lines.{goes_on, good_both, good_parts}
use Rattle.lrat_check.proofs.laws.joined.Goals as goal

pub returns-clause-good : goal.returns-clause-good
returns-clause-good c = λ base lines more. (good_parts lines more base, good_both lines more base)

pub returns-clause-checked : goal.returns-clause-checked
returns-clause-checked c = λ base lines more. goes_on lines more base

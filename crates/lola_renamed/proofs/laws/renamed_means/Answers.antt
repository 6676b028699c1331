use Rattle.lola_renamed.specs.Reads.{Among}
use Rattle.lola_renamed.proofs.Fitting.{all_fit}
use Rattle.lola_renamed.proofs.Meaning.{means}
use Rattle.lola_renamed.proofs.laws.renamed_means.Goals as goal

pub returns-clause-fits : goal.returns-clause-fits
returns-clause-fits c = λ scope names W vectors arrays widens e named placed w wide. all_fit scope names W (Among vectors) (Among arrays) widens e named placed w wide

pub returns-clause-value : goal.returns-clause-value
returns-clause-value c = λ scope names W N vectors arrays read widens reads e named placed inside w wide. means scope names W N (Among vectors) (Among arrays) read widens reads e named placed inside w wide

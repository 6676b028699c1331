use Rattle.tab_numbered.proofs.Expressions.{fitting, meaning}
use Rattle.tab_numbered.proofs.laws.expressions_mean.Goals as goal

pub returns-clause-fits : goal.returns-clause-fits
returns-clause-fits c = λ W forms numbers e w rows wide. fitting c.what_numbers_elements.ensures W forms numbers rows c.renamed_means.ensures.fits e w wide

pub returns-clause-value : goal.returns-clause-value
returns-clause-value c = λ W N forms values numbers e w rows are holds wide. meaning c.what_numbers_elements.ensures W forms numbers rows c.renamed_means.ensures.value c.names_have_values.ensures.number N values are (λ r. c.names_have_values.ensures.each forms values are r) holds e w wide

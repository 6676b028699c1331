use Rattle.lola_meaning.proofs.Tables.{expression_translates, expression_means}
use Rattle.lola_meaning.proofs.laws.expressions_mean.Goals as goal

pub returns-clause-width : goal.returns-clause-width
returns-clause-width c = λ S order m p e w once typed wide.
    (expression_translates S (λ x. c.one_path.ensures S x once) c.what_numbers_elements.ensures order m p e w typed wide).is

pub returns-clause-fits : goal.returns-clause-fits
returns-clause-fits c = λ S order m p e w once typed wide.
    (expression_translates S (λ x. c.one_path.ensures S x once) c.what_numbers_elements.ensures order m p e w typed wide).fits

pub returns-clause-value : goal.returns-clause-value
returns-clause-value c = λ S order m p e w N outside v once typed wide has within.
    expression_means S (λ x. c.one_path.ensures S x once) c.what_numbers_elements.ensures order m p N outside v has e w typed within wide

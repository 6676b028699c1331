use Rattle.obl_def.proofs.Forms.{vector_is}
use Rattle.obl_def.proofs.values.expressions_have_vectors.Goals as goal

pub returns : goal.returns
returns c = λ forms names are e w wide. vector_is c.what_numbers_elements.ensures forms names are e w wide

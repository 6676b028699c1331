use Rattle.lola_flat.proofs.SameReads.{width_same, value_same, fits_same}
use Rattle.lola_flat.proofs.laws.hangs_on_reads.Goals as goal

pub returns-clause-width : goal.returns-clause-width
returns-clause-width c = width_same

pub returns-clause-value : goal.returns-clause-value
returns-clause-value c = value_same

pub returns-clause-fits : goal.returns-clause-fits
returns-clause-fits c = fits_same

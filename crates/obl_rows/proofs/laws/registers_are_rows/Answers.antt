use Rattle.obl_rows.proofs.Registers.{rows_are, values_are}
use Rattle.obl_rows.proofs.laws.registers_are_rows.Goals as goal

pub returns-clause-widths : goal.returns-clause-widths
returns-clause-widths c = λ S W from sized written rows. rows_are c.what_numbers_elements.ensures S (c.types_suit.ensures S sized written).signals_have from W rows

pub returns-clause-values : goal.returns-clause-values
returns-clause-values c = λ S N from s sized written holds. values_are c.what_numbers_elements.ensures S (c.types_suit.ensures S sized written).signals_have from N s holds

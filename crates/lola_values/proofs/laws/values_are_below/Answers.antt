use Rattle.lola_regular.proofs.Clean.{all_clean, all_written}
use Rattle.lola_values.proofs.Assigning.{assigned_fits}
use Rattle.lola_values.proofs.laws.values_are_below.Goals as goal

pub returns : goal.returns
returns c = λ S a name place e at equals v w sized written clocked there said suit wide.
    assigned_fits c.what_numbers_elements.ensures S (all_clean S sized) (all_written S written) clocked a there name place e at equals said v suit w wide

use Rattle.lola_regular.proofs.Clean.{all_clean, all_written}
use Rattle.lola_values.proofs.AllFit.{all_fit}
use Rattle.lola_values.proofs.laws.values_fit.Goals as goal

pub returns : goal.returns
returns c = λ S sized written.
    all_fit c.what_numbers_elements.ensures S (λ p. c.one_path.ensures S p (c.names_are_once.ensures S sized)) (all_clean S sized) (all_written S written) (c.one_clock.ensures S sized) (c.pads_are_pads.ensures S sized written)

use Rattle.lola_regular.proofs.Clean.{all_clean, all_written}
use Rattle.lola_meaning.proofs.AllTyped.{are_typed}
use Rattle.lola_meaning.proofs.laws.types_suit.Goals as goal

pub returns : goal.returns
returns c = λ S sized written.
    are_typed c.what_numbers_elements.ensures S (c.well_sized_is_regular.ensures S sized written) (λ x. c.one_path.ensures S x (c.names_are_once.ensures S sized)) (all_clean S sized) (all_written S written) (c.one_clock.ensures S sized)

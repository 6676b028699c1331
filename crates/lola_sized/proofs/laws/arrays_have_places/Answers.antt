use Rattle.lola_regular.proofs.Clean.{all_clean, all_written}
use Rattle.lola_sized.proofs.Places.{array_place}
use Rattle.lola_sized.proofs.laws.arrays_have_places.Goals as goal

pub returns : goal.returns
returns c = λ S u x sized written set there same array.
    array_place S (all_clean S sized) (all_written S written) (c.one_clock.ensures S sized) (λ p. c.one_path.ensures S p (c.names_are_once.ensures S sized)) u x set there same array

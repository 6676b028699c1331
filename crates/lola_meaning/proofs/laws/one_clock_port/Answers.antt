use Rattle.lola_regular.proofs.Clean.{all_clean}
use Rattle.lola_meaning.proofs.Clocked.{clock_fits}
use Rattle.lola_meaning.proofs.laws.one_clock_port.Goals as goal

pub returns : goal.returns
returns c = λ S sized written.
    clock_fits S (λ x. c.one_path.ensures S x (c.names_are_once.ensures S sized)) (all_clean S sized) (c.one_clock.ensures S sized) (c.each_is_assigned.ensures S sized written)

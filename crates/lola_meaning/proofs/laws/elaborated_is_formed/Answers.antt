use Rattle.lola_flat.specs.Formed.{IsFormed}
use Rattle.lola_meaning.proofs.Elaborated.{flat_ordered, stated}
use Rattle.lola_meaning.proofs.Formed.{formed}
use Rattle.lola_meaning.proofs.laws.elaborated_is_formed.Goals as goal

pub returns : goal.returns
returns c = λ S F sized written is small.
    let regular = c.well_sized_is_regular.ensures S sized written in
    stated S F IsFormed is
    (formed S regular (c.types_suit.ensures S sized written) c.what_numbers_elements.ensures (λ x. c.one_path.ensures S x regular.names) F.order (flat_ordered S F is) (c.one_clock_port.ensures S sized written) small)

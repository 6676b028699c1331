use Rattle.std.proofs.Common.{◌∙◌, sym, subst}
use Rattle.lola_elab.specs.Elaborated.{vector_widths}
use Rattle.lola_elab.specs.Logic.{bit_number}
use Rattle.lola_app.specs.Trial.{with_reset}
use Rattle.lola_app.specs.Valuations.{AreWithin}
use Rattle.lola_app.proofs.Leaves.{bit_low, within_put}
use Rattle.lola_app.proofs.cycle.vectors_with.Goals as goal

pub number_vectors-requires : goal.number_vectors-requires
number_vectors-requires c =
    let d = c.args.subject.now.design in
    subst (AreWithin c.as_slice.result.now) (sym (c.as_slice-2.ensures.value ∙ c.in_ok-all.ensures))
    (subst (λ ws. AreWithin ws (with_reset c.args.subject.now.reset (bit_number c.args.value) c.args.numbers.now)) (sym (c.as_slice.ensures.value ∙ c.requires.triable.widths))
    (within_put (vector_widths d.inputs.items) (vector_widths d.registers.items) c.args.numbers.now c.args.subject.now.reset (bit_number c.args.value) c.requires.triable.reset (bit_low c.args.value) c.requires.within))

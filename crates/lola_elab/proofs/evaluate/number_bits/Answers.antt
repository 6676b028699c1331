use Rattle.std.proofs.Common.{◌≡◌, ◌+◌, ◌%◌, [], ◌∷◌, Bool, length, refl, ap, ◌∙◌, arith}
use Rattle.std.specs.Prelude.{nat_eq}
use Rattle.std.proofs.lemmas.List.{length-append}
use Rattle.lola_elab.proofs.Evaluates.{all_bits, one_bit_more}
use Rattle.lola_elab.proofs.evaluate.number_bits.Goals as goal

pub loop-place-preserved : goal.loop-place-preserved
loop-place-preserved c =
    let bit : Bool = nat_eq (c.loop-place.rest % 2) 1 in
    let more : length c.push.new.self.items ≡ length c.loop-place.bits.items + 1 = ap length c.in_ok-push.ensures.items ∙ length-append c.loop-place.bits.items (bit ∷ []) in
    record {
      long = omega arith;
      made = one_bit_more c.loop-place.bits.items c.push.new.self.items bit c.loop-place.rest c.args.value c.in_ok-push.ensures.items refl c.loop-place.invariant.made;
    }

pub returns : goal.returns
returns c = rw c.of.ensures (all_bits c.loop-place.bits.items c.args.width c.loop-place.rest c.args.value (omega arith) c.loop-place.invariant.made c.requires)

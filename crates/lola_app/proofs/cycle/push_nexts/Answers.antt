use Rattle.std.proofs.Common.{length, map}
use Rattle.lola_bits.specs.BitLists.{number_of}
use Rattle.lola_elab.specs.declared.flat.Flat.{Flat}
use Rattle.lola_elab.specs.Flat.{flat_width, flat_number}
use Rattle.lola_app.proofs.Trying.{next_at, next_step}
use Rattle.lola_app.proofs.cycle.push_nexts.Goals as goal

pub loop-place-preserved : goal.loop-place-preserved
loop-place-preserved c =
    let vectors = c.args.vectors.now in
    let wide = flat_width (map length vectors) in
    let value = λ (f : Flat). flat_number (map length vectors) f (map number_of vectors) in
    let next = next_at wide value c.args.registers.now c.args.nexts.now c.loop-place.place c.index-registers-place.result c.loop-place-test.true c.index-registers-place.is c.loop-place.invariant.wide in
    record {
      wide = next.later;
      made = next_step wide value c.args.registers.now c.args.nexts.now c.loop-place.place c.index-registers-place.result c.index-nexts-place.result _ _ _ c.loop-place-test.true c.index-registers-place.is
          c.loop-place.invariant.wide c.index-nexts-place.is c.loop-place.invariant.made c.in_ok-push_next.ensures;
    }

use Rattle.lola_app.proofs.Trying.{filled}
use Rattle.lola_app.proofs.cycle.number_vectors.Goals as goal

pub returns : goal.returns
returns c =
    let all = filled c.args.widths.now c.args.numbers.now c.loop-place.vectors.items c.loop-place.place c.loop-place-test.false c.loop-place.invariant.within c.loop-place.invariant.long c.loop-place.invariant.mean in
    record { long = all.0; mean = all.1 }

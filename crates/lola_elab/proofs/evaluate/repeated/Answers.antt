use Rattle.std.proofs.Common.{◌≡◌, arith}
use Rattle.lola_elab.proofs.Evaluates.{copies_number}
use Rattle.lola_elab.proofs.evaluate.repeated.Goals as goal

pub returns : goal.returns
returns c =
    let all : c.loop-time._time ≡ c.args.times = omega arith in
    rw (c.of.ensures, c.loop-time.invariant, all) (copies_number c.args.times c.args.part.now)

use Rattle.std.proofs.Common.{◌^◌, ◌<◌, arith}
use Rattle.std.proofs.lemmas.Nat.{pow_below}
use Rattle.lola_alg.proofs.shifts.power.Goals as goal

pub returns-else-place-lt8 : goal.returns-else-place-lt8
returns-else-place-lt8 c =
    let large : 2 ^ 7 < 2 ^ c.args.place = pow_below 7 c.args.place (omega arith) in
    omega arith

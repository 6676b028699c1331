use Rattle.std.proofs.Common.{◌≡◌, ◌<◌, length, subst, arith}
use Rattle.std.proofs.lemmas.Bool.Decides.{nat_tests}
use Rattle.std.specs.Prelude.{IfOk}
use Rattle.lola_alg.proofs.Moves.{filled_is}
use Rattle.lola_alg.proofs.shifts.filled.Goals as goal

pub returns-else-is_empty : goal.returns-else-is_empty
returns-else-is_empty g c =
    let some_bits = c.if-is_empty.ensures in
    let some : 0 < length c.args.x.now = grind (arith, nat_tests) in
    subst (λ ys. IfOk c.down.result (λ v. v.items ≡ ys)) (filled_is c.args.amount c.args.x.now c.index-x-x.result some c.index-x-x.is) c.down.ensures

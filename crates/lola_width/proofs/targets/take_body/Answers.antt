use Rattle.std.proofs.Common.{arith}
use Rattle.std.proofs.lemmas.List.{drop_more}
use Rattle.lola_width.proofs.Faults.{first_append}
use Rattle.lola_width.proofs.Taking.{taken_append, twice_append}
use Rattle.lola_width.proofs.targets.take_body.Goals as goal

pub loop-stmt-preserved : goal.loop-stmt-preserved
loop-stmt-preserved c =
    let cut = drop_more c.args.body.now c.loop-stmt.stmt-index c.stmt-item.result (omega arith) in
    record {
      taken = rw (c.in_ok-take_stmt.ensures.taken, ← c.loop-stmt.invariant.taken, cut, ← c.stmt-item.is) (simp taken_append);
      first = rw (c.in_ok-take_stmt.ensures.first, c.in_ok-take_stmt.ensures.taken, ← c.loop-stmt.invariant.first, cut, ← c.stmt-item.is)
          (simp (twice_append, first_append));
    }

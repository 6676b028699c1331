use Rattle.std.proofs.Common.{arith}
use Rattle.std.proofs.lemmas.List.{drop_more}
use Rattle.lola_width.proofs.Faults.{first_append}
use Rattle.lola_width.proofs.Taking.{taken_append, twice_append}
use Rattle.lola_width.proofs.targets.take_args.Goals as goal

pub loop-arg-preserved : goal.loop-arg-preserved
loop-arg-preserved c =
    let cut = drop_more c.args.args.now c.loop-arg.arg-index c.arg-item.result (omega arith) in
    record {
      taken = rw (c.later_pins-rest.ensures, c.in_ok-take_arg.ensures.taken, c.first_pin.ensures, ← c.loop-arg.invariant.taken, cut, ← c.arg-item.is) (simp taken_append);
      first = rw (c.later_pins-rest.ensures, c.in_ok-take_arg.ensures.first, c.in_ok-take_arg.ensures.taken, c.first_pin.ensures, ← c.loop-arg.invariant.first, cut, ← c.arg-item.is)
          (simp (twice_append, first_append));
    }

use Rattle.std.proofs.Common.{refl, arith}
use Rattle.std.proofs.lemmas.List.{drop_more}
use Rattle.lola_width.proofs.Faults.{first_append}
use Rattle.lola_width.proofs.statements.note_args.Goals as goal

pub loop-arg-preserved : goal.loop-arg-preserved
loop-arg-preserved c =
    let cut = drop_more c.args.args.now c.loop-arg.arg-index c.arg-item.result (omega arith) in
    rw (c.later_pins-rest.ensures, c.in_ok-note_arg.ensures, c.first_pin.ensures, ← c.loop-arg.invariant, cut, ← c.arg-item.is, first_append) refl

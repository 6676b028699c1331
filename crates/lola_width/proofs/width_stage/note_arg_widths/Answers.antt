use Rattle.std.proofs.Common.{arith}
use Rattle.std.proofs.lemmas.List.{drop_more}
use Rattle.lola_width.proofs.Faults.{first_append}
use Rattle.lola_width.proofs.width_stage.note_arg_widths.Goals as goal

pub loop-arg-preserved : goal.loop-arg-preserved
loop-arg-preserved c =
    let cut = drop_more c.args.args.now c.loop-arg.arg-index c.arg-item.result (omega arith) in
    rw (c.later_pins-rest.ensures, c.note_arg_width.ensures, c.note_widths-width.ensures.first, c.note_widths-width.ensures.width, c.first_pin.ensures, ← c.loop-arg.invariant, cut, ← c.arg-item.is) (simp first_append)

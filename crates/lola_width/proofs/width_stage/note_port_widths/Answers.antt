use Rattle.std.proofs.Common.{arith}
use Rattle.std.proofs.lemmas.List.{drop_more}
use Rattle.lola_width.proofs.Faults.{first_append}
use Rattle.lola_width.proofs.width_stage.note_port_widths.Goals as goal

pub loop-port-preserved : goal.loop-port-preserved
loop-port-preserved c =
    let cut = drop_more c.args.ports.now c.loop-port.port-index c.port-item.result (omega arith) in
    rw (c.note_shape_width.ensures, ← c.loop-port.invariant, cut, ← c.port-item.is) (simp first_append)

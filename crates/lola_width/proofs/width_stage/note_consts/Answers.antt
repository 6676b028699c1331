use Rattle.std.proofs.Common.{arith}
use Rattle.std.proofs.lemmas.List.{drop_more}
use Rattle.lola_width.proofs.Faults.{first_append}
use Rattle.lola_width.proofs.width_stage.note_consts.Goals as goal

pub loop-constant-preserved : goal.loop-constant-preserved
loop-constant-preserved c =
    let cut = drop_more c.args.consts.now c.loop-constant.constant-index c.constant-item.result (omega arith) in
    rw (c.note_number.ensures, ← c.loop-constant.invariant, cut, ← c.constant-item.is) (simp first_append)

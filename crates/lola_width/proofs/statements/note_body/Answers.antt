use Rattle.std.proofs.Common.{refl, arith}
use Rattle.std.proofs.lemmas.List.{drop_more}
use Rattle.lola_width.proofs.Faults.{first_append}
use Rattle.lola_width.proofs.statements.note_body.Goals as goal

pub loop-stmt-preserved : goal.loop-stmt-preserved
loop-stmt-preserved c =
    let cut = drop_more c.args.body.now c.loop-stmt.stmt-index c.stmt-item.result (omega arith) in
    rw (c.in_ok-note_stmt.ensures, ← c.loop-stmt.invariant, cut, ← c.stmt-item.is, first_append) refl

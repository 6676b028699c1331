use Rattle.std.proofs.Common.{arith}
use Rattle.std.proofs.lemmas.List.{drop_more}
use Rattle.lola_width.proofs.Faults.{first_append}
use Rattle.lola_width.proofs.targets.note_locals_never.Goals as goal

pub loop-local-preserved : goal.loop-local-preserved
loop-local-preserved c =
    let cut = drop_more c.args.locals.now c.loop-local.local-index c.local-item.result (omega arith) in
    rw (c.in_ok-note_never_taken.ensures, c.text.ensures, ← c.loop-local.invariant, cut, ← c.local-item.is) (simp first_append)

use Rattle.std.proofs.Common.{refl, arith}
use Rattle.std.proofs.lemmas.List.{drop_more}
use Rattle.lola_width.proofs.Faults.{first_append}
use Rattle.lola_width.proofs.types.note_locals.Goals as goal

pub loop-local-preserved : goal.loop-local-preserved
loop-local-preserved c =
    let cut = drop_more c.args.locals.now c.loop-local.local-index c.local-item.result (omega arith) in
    rw (c.in_ok-note_local.ensures, ← c.loop-local.invariant, cut, ← c.local-item.is, first_append) refl

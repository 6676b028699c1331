use Rattle.std.proofs.Common.{refl}
use Rattle.lola_app.proofs.Appends.{took_more}
use Rattle.lola_app.proofs.printer.write_text.Goals as goal

pub loop-at-preserved : goal.loop-at-preserved
loop-at-preserved g c =
    let more = took_more _ _ _ _ _ _ _ _ _ _ c.loop-at.invariant.within c.loop-at.invariant.same c.loop-at.invariant.printed refl c.in-Ok.ensures in
    record { within = more.within; same = more.same; printed = more.printed }

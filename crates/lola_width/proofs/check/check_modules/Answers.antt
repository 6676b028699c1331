use Rattle.std.proofs.Common.{arith}
use Rattle.std.proofs.lemmas.List.{drop_more}
use Rattle.lola_width.proofs.Faults.{first_append}
use Rattle.lola_width.proofs.check.check_modules.Goals as goal

pub loop-module-preserved : goal.loop-module-preserved
loop-module-preserved c =
    let cut = drop_more c.args.list.now c.loop-module.module-index c.module-item.result (omega arith) in
    rw (c.in_ok-check_module.ensures.first, c.in_ok-check_module.ensures.seen, ← c.loop-module.invariant, cut, ← c.module-item.is) (simp first_append)

use Rattle.std.proofs.Common.{refl}
use Rattle.tab_mach.proofs.Sets.{nth_is}
use Rattle.tab_mach.proofs.states.old_value.Goals as goal

pub returns-in-Some : goal.returns-in-Some
returns-in-Some c = rw (nth_is c.args.arch.now c.args.number, ← c.in-Some.ensures) c.copied.ensures

pub returns-in-None : goal.returns-in-None
returns-in-None c = rw (nth_is c.args.arch.now c.args.number, ← c.in-None.ensures) refl

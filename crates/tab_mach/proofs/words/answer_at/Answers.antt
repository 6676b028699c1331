use Rattle.std.proofs.Common.{refl}
use Rattle.tab_mach.proofs.Phases.{answer_is}
use Rattle.tab_mach.proofs.words.answer_at.Goals as goal

pub returns-in-Some : goal.returns-in-Some
returns-in-Some c = rw (answer_is c.args.answers.now c.args.number, ← c.in-Some.ensures) refl

pub returns-in-None : goal.returns-in-None
returns-in-None c = rw (answer_is c.args.answers.now c.args.number, ← c.in-None.ensures) refl

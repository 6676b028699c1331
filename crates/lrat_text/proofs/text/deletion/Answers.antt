use Rattle.std.proofs.Common.{refl, sym}
use Rattle.lrat_text.proofs.Parted.{some_left}
use Rattle.lrat_text.proofs.text.deletion.Goals as goal

pub returns-in-Ok-Some-default-Some : goal.returns-in-Ok-Some-default-Some
returns-in-Ok-Some-default-Some c = rw (c.in-Some.is, sym c.in-Ok-Some-default-Some.ensures, c.in-Ok-Some-default-Some.field-0-is, c.in-Ok-Some-default-Some.field-0-0-1-is, some_left c.in-Ok-Some-default-Some.field-0-0-1-0.now) refl

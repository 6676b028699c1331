use Rattle.std.proofs.Common.{refl}
use Rattle.small_read.specs.Grammar.{no_load, loads}
use Rattle.small_read.proofs.Chains.{loads_none}
use Rattle.small_read.proofs.classes.take_loads.Goals as goal

pub returns-in-Some-clause-ok : goal.returns-in-Some-clause-ok
returns-in-Some-clause-ok c = loads c.in-Some.ensures.ok refl

pub returns-in-None-clause-ok : goal.returns-in-None-clause-ok
returns-in-None-clause-ok c = no_load refl refl

pub returns-in-None-clause-whole : goal.returns-in-None-clause-whole
returns-in-None-clause-whole c = λ written rest h lacks. loads_none h c.in-None.ensures.ok

use Rattle.std.proofs.Common.{refl, sym, ap, ◌∙◌}
use Rattle.lola_parse.proofs.Fronts.{stands_op}
use Rattle.lola_parse.specs.Design.{as_before, said, way_of}
use Rattle.lola_parse.proofs.Whole.{next_front}
use Rattle.lola_parse.proofs.Modules.{directed_none}
use Rattle.lola_parse.proofs.module.said_way.Goals as goal

pub returns-in-Some-clause-ok : goal.returns-in-Some-clause-ok
returns-in-Some-clause-ok c = said (stands_op way_of c.args.here c.next-next.result _ c.next-next.ensures refl (sym c.in-Some.ensures)) (sym c.in-Some.ensures)

pub returns-in-None-clause-ok : goal.returns-in-None-clause-ok
returns-in-None-clause-ok c = as_before refl refl

pub returns-in-None-clause-whole : goal.returns-in-None-clause-whole
returns-in-None-clause-whole c = λ way rest read ends. directed_none read (ap way_of (next_front c.args.here c.next-next.result c.next-next.ensures) ∙ sym c.in-None.ensures)

use Rattle.std.proofs.Common.{refl, sym, ap, ◌∙◌}
use Rattle.std.proofs.lemmas.Result.{IfOk-weaker}
use Rattle.lola_parse.proofs.Fronts.{stands_op}
use Rattle.lola_parse.specs.Design.{no_port, some_ports, way_of}
use Rattle.lola_parse.proofs.Whole.{next_front}
use Rattle.lola_parse.proofs.Modules.{ports_none, ports_step}
use Rattle.lola_parse.proofs.module.ports.Goals as goal

pub returns-in-Some-clause-ok : goal.returns-in-Some-clause-ok
returns-in-Some-clause-ok c =
    IfOk-weaker c.groups.result _ _
    (λ read h.
    some_ports _ _ (stands_op way_of c.args.here c.next-next.result _ c.next-next.ensures refl (sym c.in-Some.ensures)) (sym c.in-Some.ensures) h.first_read h.more_read)
    c.groups.ensures.ok

pub returns-in-None-clause-ok : goal.returns-in-None-clause-ok
returns-in-None-clause-ok c = no_port c.new.ensures.items refl

pub returns-in-Some-clause-whole : goal.returns-in-Some-clause-whole
returns-in-Some-clause-whole c =
    λ ports rest read ends.
    let word = stands_op way_of c.args.here c.next-next.result _ c.next-next.ensures refl (sym c.in-Some.ensures) in
    let w = ports_step read ends word (sym c.in-Some.ensures) in
    c.groups.ensures.whole ports rest record { first = w.0; behind = w.1; first_read = w.2; more_read = w.4 } ends

pub returns-in-None-clause-whole : goal.returns-in-None-clause-whole
returns-in-None-clause-whole c =
    λ ports rest read ends.
    let same = ports_none read (ap way_of (next_front c.args.here c.next-next.result c.next-next.ensures) ∙ sym c.in-None.ensures) in
    (c.new.ensures.items ∙ same.0, same.1)

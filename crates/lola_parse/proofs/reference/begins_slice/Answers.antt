use Rattle.std.proofs.Common.{ap, ◌∙◌}
use Rattle.lola_parse.specs.declared.symbol.Symbol.TheVariants as s
use Rattle.lola_parse.proofs.Refer.{slice_number, slice_name, slice_not}
use Rattle.lola_parse.proofs.reference.begins_slice.Goals as goal

pub returns-in-None-clause-yes : goal.returns-in-None-clause-yes
returns-in-None-clause-yes c =
    λ e.
    slice_number c.in-Number.value c.next-next.result c.next-next.ensures (c.in-Number.is ∙ ap (s.Number c.in-Number.value) c.in-None.is)
    (c.begins_with_colon.ensures.yes e)

pub returns-in-None-clause-no : goal.returns-in-None-clause-no
returns-in-None-clause-no c = λ e. slice_not c.next-next.result c.next-next.ensures (c.begins_with_colon.ensures.no e)

pub returns-in-Design-clause-yes : goal.returns-in-Design-clause-yes
returns-in-Design-clause-yes c =
    λ e. slice_name c.next-next.result c.in-Design.is c.next-next.ensures c.in-Name.is (c.begins_with_colon-in-Design.ensures.yes e)

pub returns-in-Design-clause-no : goal.returns-in-Design-clause-no
returns-in-Design-clause-no c = λ e. slice_not c.next-next.result c.next-next.ensures (c.begins_with_colon-in-Design.ensures.no e)

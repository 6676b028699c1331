use Rattle.std.proofs.Common.{refl, ap, ◌∙◌}
use Rattle.lola_parse.specs.declared.symbol.Symbol.TheVariants as s
use Rattle.lola_parse.specs.Grammar.{fixed}
use Rattle.lola_parse.proofs.Fronts.{stands, names, counted_name}
use Rattle.lola_parse.proofs.Refer.{count_none}
use Rattle.lola_parse.specs.Grammar.{Counted}
use Rattle.lola_parse.specs.Long.{Any}
use Rattle.lola_parse.proofs.Begun.{count_runs, stops_here}
use Rattle.lola_parse.proofs.reference.count.Goals as goal

pub returns-in-None-clause-ok : goal.returns-in-None-clause-ok
returns-in-None-clause-ok c =
    let front = c.next-next.result in
    fixed c.in-Number.value front.at (stands c.args.here front _ c.next-next.ensures (c.in-Number.is ∙ ap (s.Number c.in-Number.value) c.in-None.is) refl) refl

pub returns-in_ok-name-in-Design-clause-ok : goal.returns-in_ok-name-in-Design-clause-ok
returns-in_ok-name-in-Design-clause-ok c =
    let front = c.next-next.result in
    counted_name _ _ _ _ _ _ c.in-Design.is c.in_ok-name-in-Design.ensures (names c.args.here front c.next-next.ensures c.in-Name.is)

pub returns-in_default-clause-whole : goal.returns-in_default-clause-whole
returns-in_default-clause-whole c = λ k rest read ends. absurd (count_none c.next-next.result c.next-next.ensures c.in_default.not-Number c.in_default.not-Name read)

pub returns-in-Some-clause-stops : goal.returns-in-Some-clause-stops
returns-in-Some-clause-stops c = stops_here (Any (Counted c.args.language)) _ _ count_runs c.fault.ensures

pub returns-in-Table-clause-stops : goal.returns-in-Table-clause-stops
returns-in-Table-clause-stops c = stops_here (Any (Counted c.args.language)) _ _ count_runs c.fault-in-Table.ensures

pub returns-in_default-clause-stops : goal.returns-in_default-clause-stops
returns-in_default-clause-stops c = stops_here (Any (Counted c.args.language)) _ _ count_runs c.fault-in_default.ensures

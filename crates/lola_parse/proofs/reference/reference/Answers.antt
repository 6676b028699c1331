use Rattle.std.proofs.Common.{refl, sym, subst, ◌∙◌, ap, true, false}
use Rattle.lola_parse.specs.declared.symbol.Symbol.TheVariants as s
use Rattle.lola_parse.specs.Grammar.{plain, source}
use Rattle.lola_parse.specs.MayEnd.{PathCloses}
use Rattle.lola_parse.proofs.Fronts.{stands, names}
use Rattle.lola_parse.proofs.Whole.{handed_on}
use Rattle.lola_parse.proofs.Refer.{reference_path}
use Rattle.lola_parse.proofs.Refer.{reference_none}
use Rattle.lola_parse.specs.Grammar.{Reference}
use Rattle.lola_parse.specs.Long.{Any}
use Rattle.lola_parse.proofs.Local.{passes_local, source_of}
use Rattle.lola_parse.proofs.Begun.{begins_as, begins_then, stops_on, stops_here, reference_runs}
use Rattle.lola_parse.proofs.reference.reference.Goals as goal

pub returns-in_ok-path-in-Name-clause-ok : goal.returns-in_ok-path-in-Name-clause-ok
returns-in_ok-path-in-Name-clause-ok c =
    plain _ _ (names c.args.here c.next-next.result c.next-next.ensures c.in-Name.is)
    (ap (λ p. record { source = false; path = p; at = c.next-next.result.at }) (c.of.ensures ∙ c.in_ok-path-in-Name.ensures))

pub returns-in_ok-path-in-Table-clause-ok : goal.returns-in_ok-path-in-Table-clause-ok
returns-in_ok-path-in-Table-clause-ok c =
    let read = c.in_ok-path-in-Table.ensures.ok in
    source _ _ c.next-next.result.rest read.behind c.in-Table.is (stands c.args.here c.next-next.result s.At c.next-next.ensures c.in-At.is refl) read.first read.more
    (ap (λ p. record { source = true; path = p; at = c.next-next.result.at }) c.of-in-Table.ensures)

pub returns-in_err-path-in-Table-clause-whole : goal.returns-in_err-path-in-Table-clause-whole
returns-in_err-path-in-Table-clause-whole c =
    λ r rest read closes.
    let w = reference_path read (stands c.args.here c.next-next.result s.At c.next-next.ensures c.in-At.is refl) in
    handed_on _ r rest _ c.from_residual-in_err-path-in-Table.result c.from_residual-in_err-path-in-Table.ensures.1
    (c.in_err-path-in-Table.ensures.whole w.0 rest w.1 (subst (λ l. PathCloses l rest) c.in-Table.is closes))

pub returns-in_ok-path-in-Table-clause-whole : goal.returns-in_ok-path-in-Table-clause-whole
returns-in_ok-path-in-Table-clause-whole c =
    λ r rest read closes.
    let w = reference_path read (stands c.args.here c.next-next.result s.At c.next-next.ensures c.in-At.is refl) in
    let same = c.in_ok-path-in-Table.ensures.whole w.0 rest w.1 (subst (λ l. PathCloses l rest) c.in-Table.is closes) in
    (ap (λ p. record { source = true; path = p; at = c.next-next.result.at }) (c.of-in-Table.ensures ∙ same.0) ∙ sym w.2, same.1)

pub returns-in_default-clause-whole : goal.returns-in_default-clause-whole
returns-in_default-clause-whole c = λ r rest read ends. absurd (reference_none c.next-next.result c.next-next.ensures c.in_default.not-Name c.in_default.not-At read)

pub returns-in_err-path-in-Table-clause-stops : goal.returns-in_err-path-in-Table-clause-stops
returns-in_err-path-in-Table-clause-stops c =
    stops_on _ _
    (λ left b.
    begins_as (source_of c.in-Table.is) (begins_then (passes_local (_, stands c.args.here c.next-next.result s.At c.next-next.ensures c.in-At.is refl)) b))
    c.from_residual-in_err-path-in-Table.ensures.1 c.in_err-path-in-Table.ensures.stops

pub returns-in-Design-clause-stops : goal.returns-in-Design-clause-stops
returns-in-Design-clause-stops c = stops_here (Any (Reference c.args.language)) _ _ reference_runs c.fault.ensures

pub returns-in_default-clause-stops : goal.returns-in_default-clause-stops
returns-in_default-clause-stops c = stops_here (Any (Reference c.args.language)) _ _ reference_runs c.fault-in_default.ensures

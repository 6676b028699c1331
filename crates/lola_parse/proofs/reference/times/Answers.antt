use Rattle.std.proofs.Common.{refl}
use Rattle.std.proofs.lemmas.Result.{IfOk-weaker}
use Rattle.lola_parse.specs.declared.symbol.Symbol.TheVariants as s
use Rattle.lola_parse.specs.Grammar.{once, repeated}
use Rattle.lola_parse.proofs.Fronts.{stands}
use Rattle.lola_parse.proofs.Whole.{not_front, times_once}
use Rattle.lola_parse.proofs.Whole.{times_count}
use Rattle.lola_parse.proofs.Local.{passes_local, times_of}
use Rattle.lola_parse.proofs.Begun.{begins_as, begins_then, stops_in}
use Rattle.lola_parse.proofs.reference.times.Goals as goal

pub returns-in-Times-clause-ok : goal.returns-in-Times-clause-ok
returns-in-Times-clause-ok c =
    IfOk-weaker c.count.result _ _ (λ read h. repeated c.next-next.result.rest (stands c.args.here c.next-next.result s.Times c.next-next.ensures c.in-Times.is refl) h)
    c.count.ensures.ok

pub returns-in_default-clause-ok : goal.returns-in_default-clause-ok
returns-in_default-clause-ok c = once refl refl

pub returns-in_default-clause-whole : goal.returns-in_default-clause-whole
returns-in_default-clause-whole c = λ times rest read closes. times_once read (not_front c.args.here c.next-next.result c.next-next.ensures c.in_default.not-Times)

pub returns-in-Times-clause-whole : goal.returns-in-Times-clause-whole
returns-in-Times-clause-whole c = λ k rest read closes. c.count.ensures.whole k rest (times_count read closes (stands c.args.here c.next-next.result s.Times c.next-next.ensures c.in-Times.is refl)) tt

pub returns-in-Times-clause-stops : goal.returns-in-Times-clause-stops
returns-in-Times-clause-stops c =
    stops_in c.count.result
    (λ left b. begins_as times_of (begins_then (passes_local (_, stands c.args.here c.next-next.result s.Times c.next-next.ensures c.in-Times.is refl)) b))
    c.count.ensures.stops

use Rattle.lola_parse.specs.declared.symbol.Symbol.TheVariants as s
use Rattle.lola_parse.specs.Grammar.{Counted}
use Rattle.lola_parse.proofs.Local.{slice_of_counts, untold, counted_local, passes_local}
use Rattle.lola_parse.proofs.Begun.{begins_as, begins_then, begins_before, count_runs, symbol_runs, ◌then◌, stops_on, stops_at}
use Rattle.lola_parse.proofs.Refer.{slice_colon, slice_close}
use Rattle.lola_parse.proofs.reference.slice.Goals as goal

pub returns-in_err-behind-clause-whole : goal.returns-in_err-behind-clause-whole
returns-in_err-behind-clause-whole c = λ e rest h k. absurd (c.in_err-behind.ensures.whole h.second (slice_colon h c.in_ok-high.ensures.whole))

pub returns-in_err-behind-2-clause-whole : goal.returns-in_err-behind-2-clause-whole
returns-in_err-behind-2-clause-whole c =
    λ e rest h k. absurd (c.in_err-behind-2.ensures.whole rest (slice_close h c.in_ok-high.ensures.whole c.in_ok-behind.ensures.whole c.in_ok-low.ensures.whole))

pub returns-in_err-high-clause-stops : goal.returns-in_err-high-clause-stops
returns-in_err-high-clause-stops c =
    stops_on _ _ (λ left b. begins_as slice_of_counts (begins_before (symbol_runs s.Colon then (count_runs then symbol_runs s.CloseBracket)) b)) c.from_residual.ensures.1
    c.in_err-high.ensures.stops

pub returns-in_err-behind-clause-stops : goal.returns-in_err-behind-clause-stops
returns-in_err-behind-clause-stops c =
    stops_at _ _
    (λ left b. begins_as slice_of_counts (begins_then (untold (Counted _) _ (counted_local c.in_ok-high.ensures.ok)) (begins_before (count_runs then symbol_runs s.CloseBracket) b)))
    c.from_residual-in_err-behind.ensures.1 c.in_err-behind.ensures.fails

pub returns-in_err-low-clause-stops : goal.returns-in_err-low-clause-stops
returns-in_err-low-clause-stops c =
    stops_on _ _
    (λ left b.
    begins_as slice_of_counts
    (begins_then (untold (Counted _) _ (counted_local c.in_ok-high.ensures.ok))
    (begins_then (passes_local c.in_ok-behind.ensures.ok) (begins_before (symbol_runs s.CloseBracket) b))))
    c.from_residual-in_err-low.ensures.1 c.in_err-low.ensures.stops

pub returns-in_err-behind-2-clause-stops : goal.returns-in_err-behind-2-clause-stops
returns-in_err-behind-2-clause-stops c =
    stops_at _ _
    (λ left b.
    begins_as slice_of_counts
    (begins_then (untold (Counted _) _ (counted_local c.in_ok-high.ensures.ok))
    (begins_then (passes_local c.in_ok-behind.ensures.ok) (begins_then (untold (Counted _) _ (counted_local c.in_ok-low.ensures.ok)) b))))
    c.from_residual-in_err-behind-2.ensures.1 c.in_err-behind-2.ensures.fails

use Rattle.std.proofs.Common.{Some, refl, sym, ap, subst, ◌∙◌}
use Rattle.lola_parse.specs.declared.symbol.Symbol.TheVariants as s
use Rattle.tab_parse.specs.Grammar.{ExprAt, no_place, one_place}
use Rattle.tab_parse.specs.Fronts.{is_bracket}
use Rattle.tab_parse.proofs.Exits.{want}
use Rattle.tab_parse.proofs.Fronts.{front_is, stands_next, stands_front, bracket_stops, place_there}
use Rattle.tab_parse.proofs.sets.take_place.Goals as goal

pub returns-in_err-expr-in-OpenBracket-clause-whole : goal.returns-in_err-expr-in-OpenBracket-clause-whole
returns-in_err-expr-in-OpenBracket-clause-whole c =
    λ place rest h lacks.
    let p = place_there h lacks (ap is_bracket (sym (front_is c.args.here c.next-next.result c.next-next.ensures) ∙ c.in-OpenBracket.is)) in
    let n = stands_front c.next-next.result c.next-next.ensures p.opened in
    want _ _ _ c.from_residual.result _ c.from_residual.ensures.1
    (c.in_err-expr-in-OpenBracket.ensures.whole p.e p.close (subst (λ all. ExprAt all p.e p.close) (sym n.1) p.expr_read) (bracket_stops p.closed))

pub returns-in_err-behind-in-OpenBracket-clause-whole : goal.returns-in_err-behind-in-OpenBracket-clause-whole
returns-in_err-behind-in-OpenBracket-clause-whole c =
    λ place rest h lacks.
    let p = place_there h lacks (ap is_bracket (sym (front_is c.args.here c.next-next.result c.next-next.ensures) ∙ c.in-OpenBracket.is)) in
    let n = stands_front c.next-next.result c.next-next.ensures p.opened in
    let s0 = c.in_ok-expr-in-OpenBracket.ensures.whole p.e p.close (subst (λ all. ExprAt all p.e p.close) (sym n.1) p.expr_read) (bracket_stops p.closed) in
    absurd (c.in_err-behind-in-OpenBracket.ensures.whole rest (rw s0.1 p.closed))

pub returns-in_ok-behind-in-OpenBracket-clause-ok : goal.returns-in_ok-behind-in-OpenBracket-clause-ok
returns-in_ok-behind-in-OpenBracket-clause-ok c =
    one_place _ _ (stands_next c.args.here c.next-next.result s.OpenBracket c.next-next.ensures c.in-OpenBracket.is (λ p. cc)) c.in_ok-expr-in-OpenBracket.ensures.ok
    c.in_ok-behind-in-OpenBracket.ensures.ok refl

pub returns-in_ok-behind-in-OpenBracket-clause-whole : goal.returns-in_ok-behind-in-OpenBracket-clause-whole
returns-in_ok-behind-in-OpenBracket-clause-whole c =
    λ place rest h lacks.
    let p = place_there h lacks (ap is_bracket (sym (front_is c.args.here c.next-next.result c.next-next.ensures) ∙ c.in-OpenBracket.is)) in
    let n = stands_front c.next-next.result c.next-next.ensures p.opened in
    let s0 = c.in_ok-expr-in-OpenBracket.ensures.whole p.e p.close (subst (λ all. ExprAt all p.e p.close) (sym n.1) p.expr_read) (bracket_stops p.closed) in
    let s1 = c.in_ok-behind-in-OpenBracket.ensures.whole rest (rw s0.1 p.closed) in
    ((λ i. Some (record { value = (s0.0 i).value; at = n.0 i })) ∙ sym p.place_is, s1)

pub returns-in_default-clause-ok : goal.returns-in_default-clause-ok
returns-in_default-clause-ok c = no_place refl refl

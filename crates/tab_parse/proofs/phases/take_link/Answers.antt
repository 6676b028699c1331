use Rattle.std.proofs.Common.{Some, refl, sym, ◌∙◌}
use Rattle.tab_parse.specs.Grammar.{no_expr, one_expr}
use Rattle.tab_parse.proofs.Exits.{want}
use Rattle.tab_parse.proofs.Parts.{link_there, link_none}
use Rattle.tab_parse.proofs.phases.take_link.Goals as goal

pub returns-in_err-expr-in-Some-clause-whole : goal.returns-in_err-expr-in-Some-clause-whole
returns-in_err-expr-in-Some-clause-whole c =
    λ e rest h ends.
    let p = link_there h ends.no_link c.in-Some.ensures.ok in
    want _ _ _ c.from_residual.result _ c.from_residual.ensures.1 (c.in_err-expr-in-Some.ensures.whole p.value rest p.read ends.stops)

pub returns-in_ok-expr-in-Some-clause-ok : goal.returns-in_ok-expr-in-Some-clause-ok
returns-in_ok-expr-in-Some-clause-ok c = one_expr _ _ c.in-Some.ensures.ok c.in_ok-expr-in-Some.ensures.ok refl

pub returns-in_ok-expr-in-Some-clause-whole : goal.returns-in_ok-expr-in-Some-clause-whole
returns-in_ok-expr-in-Some-clause-whole c =
    λ e rest h ends.
    let p = link_there h ends.no_link c.in-Some.ensures.ok in
    let s0 = c.in_ok-expr-in-Some.ensures.whole p.value rest p.read ends.stops in
    ((λ i. Some (s0.0 i)) ∙ sym p.is, s0.1)

pub returns-in-None-clause-ok : goal.returns-in-None-clause-ok
returns-in-None-clause-ok c = no_expr refl refl

pub returns-in-None-clause-whole : goal.returns-in-None-clause-whole
returns-in-None-clause-whole c = λ e rest h ends. link_none h c.in-None.ensures.ok

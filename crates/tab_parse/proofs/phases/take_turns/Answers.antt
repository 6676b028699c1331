use Rattle.std.proofs.Common.{Some, refl, sym, ◌∙◌}
use Rattle.tab_parse.specs.Grammar.{no_turns, some_turns}
use Rattle.tab_parse.proofs.Exits.{want}
use Rattle.tab_parse.proofs.Parts.{turns_there, turns_none}
use Rattle.tab_parse.proofs.phases.take_turns.Goals as goal

pub returns-in_err-turns-in-Some-clause-whole : goal.returns-in_err-turns-in-Some-clause-whole
returns-in_err-turns-in-Some-clause-whole c =
    λ e rest h ends.
    let p = turns_there h ends.no_turns c.in-Some.ensures.ok in
    want _ _ _ c.from_residual.result _ c.from_residual.ensures.1 (c.in_err-turns-in-Some.ensures.whole p.t rest p.read ends.stops)

pub returns-in_ok-turns-in-Some-clause-ok : goal.returns-in_ok-turns-in-Some-clause-ok
returns-in_ok-turns-in-Some-clause-ok c = some_turns _ _ c.in-Some.ensures.ok c.in_ok-turns-in-Some.ensures.ok refl

pub returns-in_ok-turns-in-Some-clause-whole : goal.returns-in_ok-turns-in-Some-clause-whole
returns-in_ok-turns-in-Some-clause-whole c =
    λ e rest h ends.
    let p = turns_there h ends.no_turns c.in-Some.ensures.ok in
    let s0 = c.in_ok-turns-in-Some.ensures.whole p.t rest p.read ends.stops in
    ((λ i. Some (s0.0 i)) ∙ sym p.is, s0.1)

pub returns-in-None-clause-ok : goal.returns-in-None-clause-ok
returns-in-None-clause-ok c = no_turns refl refl

pub returns-in-None-clause-whole : goal.returns-in-None-clause-whole
returns-in-None-clause-whole c = λ e rest h ends. turns_none h c.in-None.ensures.ok

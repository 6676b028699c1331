use Rattle.tab_parse.proofs.Exits.{want}
use Rattle.std.proofs.Common.{Some, refl, sym, ap, ◌∙◌}
use Rattle.tab_parse.specs.declared.classes.Pattern.{Pattern}
use Rattle.tab_parse.specs.Placed.{pattern_of, inside_at}
use Rattle.tab_parse.proofs.classes.take_inside.Goals as goal

pub returns-in_err-name-clause-whole : goal.returns-in_err-name-clause-whole
returns-in_err-name-clause-whole c =
    λ class rest h ends.
    want _ _ _ c.from_residual.result _ c.from_residual.ensures.1 (c.in_err-name.ensures.whole class.name h.pattern h.name_read tt)

pub returns-in_err-pattern-clause-whole : goal.returns-in_err-pattern-clause-whole
returns-in_err-pattern-clause-whole c =
    λ class rest h ends.
    let s0 = c.in_ok-name.ensures.whole class.name h.pattern h.name_read tt in
    want _ _ _ c.from_residual-in_err-pattern.result _ c.from_residual-in_err-pattern.ensures.1 (c.in_err-pattern.ensures.whole (pattern_of class) h.behind (rw s0.1 h.pattern_read) tt)

pub returns-in_err-steps-clause-whole : goal.returns-in_err-steps-clause-whole
returns-in_err-steps-clause-whole c =
    λ class rest h ends.
    let s0 = c.in_ok-name.ensures.whole class.name h.pattern h.name_read tt in
    let s1 = c.in_ok-pattern.ensures.whole (pattern_of class) h.behind (rw s0.1 h.pattern_read) tt in
    want _ _ _ c.from_residual-in_err-steps.result _ c.from_residual-in_err-steps.ensures.1 (c.in_err-steps.ensures.whole h.steps rest (rw s1.1 h.steps_read) ends)

pub returns-clause-whole : goal.returns-clause-whole
returns-clause-whole c =
    λ class rest h ends.
    let s0 = c.in_ok-name.ensures.whole class.name h.pattern h.name_read tt in
    let s1 = c.in_ok-pattern.ensures.whole (pattern_of class) h.behind (rw s0.1 h.pattern_read) tt in
    let s2 = c.in_ok-steps.ensures.whole h.steps rest (rw s1.1 h.steps_read) ends in
    ((λ i. record { name = s0.0 i; pattern = ap (λ (p : Pattern). p.places) s1.0 i; pattern_at = ap (λ (p : Pattern). p.at) s1.0 i; inside = (ap Some s2.0 ∙ sym h.some_steps) i }), s2.1)

pub returns-clause-ok : goal.returns-clause-ok
returns-clause-ok c = record {
  steps = inside_at c.in_ok-steps.steps;
  pattern = c.in_ok-name.behind;
  behind = c.in_ok-pattern.behind;
  name_read = c.in_ok-name.ensures.ok;
  pattern_read = c.in_ok-pattern.ensures.ok;
  steps_read = c.in_ok-steps.ensures.ok;
  some_steps = refl;
}

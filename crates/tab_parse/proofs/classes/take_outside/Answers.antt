use Rattle.tab_parse.proofs.Exits.{want}
use Rattle.std.proofs.Common.{refl, sym, ap}
use Rattle.tab_parse.specs.declared.classes.Pattern.{Pattern}
use Rattle.tab_parse.specs.Placed.{pattern_of}
use Rattle.tab_parse.proofs.classes.take_outside.Goals as goal

pub returns-in_err-name-clause-whole : goal.returns-in_err-name-clause-whole
returns-in_err-name-clause-whole c =
    λ class rest h ends.
    want _ _ _ c.from_residual.result _ c.from_residual.ensures.1 (c.in_err-name.ensures.whole class.name h.pattern h.name_read tt)

pub returns-in_err-pattern-clause-whole : goal.returns-in_err-pattern-clause-whole
returns-in_err-pattern-clause-whole c =
    λ class rest h ends.
    let s0 = c.in_ok-name.ensures.whole class.name h.pattern h.name_read tt in
    want _ _ _ c.from_residual-in_err-pattern.result _ c.from_residual-in_err-pattern.ensures.1 (c.in_err-pattern.ensures.whole (pattern_of class) h.behind (rw s0.1 h.pattern_read) tt)

pub returns-in_err-behind-clause-whole : goal.returns-in_err-behind-clause-whole
returns-in_err-behind-clause-whole c =
    λ class rest h ends.
    let s0 = c.in_ok-name.ensures.whole class.name h.pattern h.name_read tt in
    let s1 = c.in_ok-pattern.ensures.whole (pattern_of class) h.behind (rw s0.1 h.pattern_read) tt in
    absurd (c.in_err-behind.ensures.whole rest (rw s1.1 h.ended_passed))

pub returns-clause-whole : goal.returns-clause-whole
returns-clause-whole c =
    λ class rest h ends.
    let s0 = c.in_ok-name.ensures.whole class.name h.pattern h.name_read tt in
    let s1 = c.in_ok-pattern.ensures.whole (pattern_of class) h.behind (rw s0.1 h.pattern_read) tt in
    let s2 = c.in_ok-behind.ensures.whole rest (rw s1.1 h.ended_passed) in
    ((λ i. record { name = s0.0 i; pattern = ap (λ (p : Pattern). p.places) s1.0 i; pattern_at = ap (λ (p : Pattern). p.at) s1.0 i; inside = sym h.no_steps i }), s2)

pub returns-clause-ok : goal.returns-clause-ok
returns-clause-ok c = record {
  pattern = c.in_ok-name.behind;
  behind = c.in_ok-pattern.behind;
  name_read = c.in_ok-name.ensures.ok;
  pattern_read = c.in_ok-pattern.ensures.ok;
  ended_passed = c.in_ok-behind.ensures.ok;
  no_steps = refl;
}

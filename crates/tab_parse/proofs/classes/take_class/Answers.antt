use Rattle.std.proofs.lemmas.Result.{IfOk-weaker}
use Rattle.tab_parse.specs.Grammar.{outside, inside}
use Rattle.tab_parse.proofs.ClassEnds.{class_outside, class_inside}
use Rattle.tab_parse.proofs.classes.take_class.Goals as goal

pub returns-in-Some-clause-ok : goal.returns-in-Some-clause-ok
returns-in-Some-clause-ok c = IfOk-weaker c.take_outside.result _ _ (λ read h. outside c.in-Some.first c.in-Some.ensures.ok h) c.take_outside.ensures.ok

pub returns-in-Some-clause-whole : goal.returns-in-Some-clause-whole
returns-in-Some-clause-whole c = λ class rest h ends. c.take_outside.ensures.whole class rest (class_outside h c.in-Some.ensures.ok) tt

pub returns-in_err-behind_word-in-None-clause-whole : goal.returns-in_err-behind_word-in-None-clause-whole
returns-in_err-behind_word-in-None-clause-whole c =
    λ class rest h ends.
    let p = class_inside h c.in-None.ensures.ok in
    absurd (c.in_err-behind_word-in-None.ensures.whole p.first p.word_passed)

pub returns-in_ok-behind_word-in-None-clause-ok : goal.returns-in_ok-behind_word-in-None-clause-ok
returns-in_ok-behind_word-in-None-clause-ok c =
    IfOk-weaker c.take_inside.result _ _ (λ read h. inside _ c.in_ok-behind_word-in-None.ensures.ok h) c.take_inside.ensures.ok

pub returns-in_ok-behind_word-in-None-clause-whole : goal.returns-in_ok-behind_word-in-None-clause-whole
returns-in_ok-behind_word-in-None-clause-whole c =
    λ class rest h ends.
    let p = class_inside h c.in-None.ensures.ok in
    let s0 = c.in_ok-behind_word-in-None.ensures.whole p.first p.word_passed in
    c.take_inside.ensures.whole class rest (rw s0 p.read) ends

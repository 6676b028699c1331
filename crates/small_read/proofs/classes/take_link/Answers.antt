use Rattle.std.proofs.Common.{sym, ◌∙◌}
use Rattle.std.proofs.lemmas.Result.{IfOk-weaker}
use Rattle.small_read.specs.Grammar.{no_link, linked}
use Rattle.small_read.proofs.Chains.{link_none, link_some}
use Rattle.small_read.proofs.classes.take_link.Goals as goal

pub returns-in-Some-clause-ok : goal.returns-in-Some-clause-ok
returns-in-Some-clause-ok c = IfOk-weaker c.take_ended.result _ _ (λ read h. linked c.in-Some.behind c.in-Some.ensures.ok h) c.take_ended.ensures.ok

pub returns-in-Some-clause-whole : goal.returns-in-Some-clause-whole
returns-in-Some-clause-whole c = λ link rest h. c.take_ended.ensures.whole link rest (link_some h c.in-Some.ensures.ok)

pub returns-in_err-behind-in-None-clause-whole : goal.returns-in_err-behind-in-None-clause-whole
returns-in_err-behind-in-None-clause-whole c =
    λ link rest h. absurd (c.in_err-behind-in-None.ensures.whole rest (link_none h c.in-None.ensures.ok).passed)

pub returns-in_ok-behind-in-None-clause-ok : goal.returns-in_ok-behind-in-None-clause-ok
returns-in_ok-behind-in-None-clause-ok c = no_link c.in_ok-behind-in-None.ensures.ok c.unwritten_link.ensures

pub returns-in_ok-behind-in-None-clause-whole : goal.returns-in_ok-behind-in-None-clause-whole
returns-in_ok-behind-in-None-clause-whole c =
    λ link rest h.
    let none = link_none h c.in-None.ensures.ok in
    (c.unwritten_link.ensures ∙ sym none.link_is, c.in_ok-behind-in-None.ensures.whole rest none.passed)

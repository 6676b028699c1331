use Rattle.std.proofs.Common.{refl}
use Rattle.lola_parse.proofs.Fronts.{stands}
use Rattle.lola_parse.specs.Design.{constant}
use Rattle.lola_parse.proofs.Whole.{handed_on}
use Rattle.lola_parse.proofs.Steps.{passed, was_read, refuses, by_read}
use Rattle.lola_parse.proofs.Modules.{constant_step, number_semicolon, number_none}
use Rattle.lola_parse.proofs.Modules.{number_made}
use Rattle.lola_parse.proofs.module.constant.Goals as goal

pub returns-in_ok-behind-in-Number-clause-ok : goal.returns-in_ok-behind-in-Number-clause-ok
returns-in_ok-behind-in-Number-clause-ok c =
    constant _ _ _ c.in_ok-named.ensures.ok c.in_ok-behind.ensures.ok.1 (stands c.in_ok-behind.behind c.next-number.result _ c.next-number.ensures c.in-Number.is refl)
    c.in_ok-behind-in-Number.ensures.ok.1 refl

pub returns-in_err-named-clause-whole : goal.returns-in_err-named-clause-whole
returns-in_err-named-clause-whole c = λ k rest d ends. handed_on _ _ rest _ _ c.from_residual.ensures.1 (by_read (constant_step d) c.in_err-named.ensures.whole)

pub returns-in_err-behind-clause-whole : goal.returns-in_err-behind-clause-whole
returns-in_err-behind-clause-whole c = λ k rest d ends. let w = was_read _ (constant_step d) c.in_ok-named.ensures.whole in refuses w c.in_err-behind.ensures.whole

pub returns-in_err-behind-in-Number-clause-whole : goal.returns-in_err-behind-in-Number-clause-whole
returns-in_err-behind-in-Number-clause-whole c = λ k rest d ends. let w = was_read _ (constant_step d) c.in_ok-named.ensures.whole in let x = passed _ w c.in_ok-behind.ensures.whole in absurd (c.in_err-behind-in-Number.ensures.whole rest (number_semicolon c.next-number.result x c.next-number.ensures))

pub returns-in_default-clause-whole : goal.returns-in_default-clause-whole
returns-in_default-clause-whole c = λ k rest d ends. let w = was_read _ (constant_step d) c.in_ok-named.ensures.whole in let x = passed _ w c.in_ok-behind.ensures.whole in absurd (number_none c.next-number.result x c.next-number.ensures c.in_default.not-Number)

pub returns-in_ok-behind-in-Number-clause-whole : goal.returns-in_ok-behind-in-Number-clause-whole
returns-in_ok-behind-in-Number-clause-whole c = λ k rest d ends. let w = was_read _ (constant_step d) c.in_ok-named.ensures.whole in let x = passed _ w c.in_ok-behind.ensures.whole in (number_made c.next-number.result x c.next-number.ensures c.in-Number.is, c.in_ok-behind-in-Number.ensures.whole rest (number_semicolon c.next-number.result x c.next-number.ensures))

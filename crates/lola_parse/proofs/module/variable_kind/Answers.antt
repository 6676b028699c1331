use Rattle.std.proofs.Common.{refl, ◌∙◌}
use Rattle.lola_parse.specs.Design.{variable, instance}
use Rattle.lola_parse.proofs.Whole.{handed_on, next_front, not_front}
use Rattle.lola_parse.proofs.Steps.{was_read, by_read}
use Rattle.lola_parse.proofs.Modules.{kind_name, kind_shape}
use Rattle.lola_parse.proofs.module.variable_kind.Goals as goal

pub returns-in_ok-module-in-Name-clause-ok : goal.returns-in_ok-module-in-Name-clause-ok
returns-in_ok-module-in-Name-clause-ok c = instance c.in_ok-module-in-Name.module c.in_ok-module-in-Name.ensures.ok refl

pub returns-in_ok-module-in-Name-clause-whole : goal.returns-in_ok-module-in-Name-clause-whole
returns-in_ok-module-in-Name-clause-whole c =
    λ kind rest d ends.
    let name = next_front c.args.here c.next.result c.next.ensures ∙ c.in-Name.is in
    let same = was_read _ (kind_name d name) c.in_ok-module-in-Name.ensures.whole in
    (same.1, same.0)

pub returns-in_err-module-in-Name-clause-whole : goal.returns-in_err-module-in-Name-clause-whole
returns-in_err-module-in-Name-clause-whole c =
    λ kind rest d ends.
    let name = next_front c.args.here c.next.result c.next.ensures ∙ c.in-Name.is in
    handed_on _ _ rest _ _ c.from_residual.ensures.1 (by_read (kind_name d name) c.in_err-module-in-Name.ensures.whole)

pub returns-in_ok-shape-in_default-clause-ok : goal.returns-in_ok-shape-in_default-clause-ok
returns-in_ok-shape-in_default-clause-ok c = variable c.in_ok-shape-in_default.shape c.in_ok-shape-in_default.ensures.ok refl

pub returns-in_ok-shape-in_default-clause-whole : goal.returns-in_ok-shape-in_default-clause-whole
returns-in_ok-shape-in_default-clause-whole c =
    λ kind rest d ends.
    let none = not_front c.args.here c.next.result c.next.ensures c.in_default.not-Name in
    let same = was_read _ (kind_shape d none) c.in_ok-shape-in_default.ensures.whole in
    (same.1, same.0)

pub returns-in_err-shape-in_default-clause-whole : goal.returns-in_err-shape-in_default-clause-whole
returns-in_err-shape-in_default-clause-whole c =
    λ kind rest d ends.
    let none = not_front c.args.here c.next.result c.next.ensures c.in_default.not-Name in
    handed_on _ _ rest _ _ c.from_residual-in_err-shape-in_default.ensures.1 (by_read (kind_shape d none) c.in_err-shape-in_default.ensures.whole)

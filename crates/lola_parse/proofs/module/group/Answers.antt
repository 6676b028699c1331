use Rattle.std.proofs.Common.{◌++◌, map, ap, ◌∙◌}
use Rattle.lola_parse.specs.Design.{group, port_of}
use Rattle.lola_parse.proofs.Whole.{handed_on}
use Rattle.lola_parse.proofs.Steps.{passed, was_read, refuses}
use Rattle.lola_parse.proofs.Modules.{group_step}
use Rattle.lola_parse.proofs.module.group.Goals as goal

pub returns-clause-ok : goal.returns-clause-ok
returns-clause-ok c =
    group _ _ c.in_ok-names.ensures.ok c.in_ok-behind_colon.ensures.ok.1 c.in_ok-shape.ensures.ok
    (c.in_ok-add_ports.ensures.ok ∙ ap (λ ns. c.args.ports.items ++ map (port_of c.args.way c.in_ok-shape.shape) ns) c.deref.ensures.value)

pub returns-in_err-behind_colon-clause-whole : goal.returns-in_err-behind_colon-clause-whole
returns-in_err-behind_colon-clause-whole c = λ ports rest d ends. let names = was_read _ (group_step d) c.in_ok-names.ensures.whole in refuses names c.in_err-behind_colon.ensures.whole

pub returns-in_err-add_ports-clause-whole : goal.returns-in_err-add_ports-clause-whole
returns-in_err-add_ports-clause-whole c = λ ports rest d ends. handed_on _ _ rest _ _ c.from_residual-in_err-add_ports.ensures.1 (c.in_err-add_ports.ensures.fails)

pub returns-clause-whole : goal.returns-clause-whole
returns-clause-whole c = λ ports rest d ends. let names = was_read _ (group_step d) c.in_ok-names.ensures.whole in let colon = passed _ names c.in_ok-behind_colon.ensures.whole in let last = was_read _ colon c.in_ok-shape.ensures.whole in ((c.in_ok-add_ports.ensures.ok ∙ ap (λ ns. c.args.ports.items ++ map (port_of c.args.way c.in_ok-shape.shape) ns) c.deref.ensures.value) ∙ last.1, last.0)

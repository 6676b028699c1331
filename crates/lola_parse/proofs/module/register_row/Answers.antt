use Rattle.std.proofs.Common.{◌++◌, map, ap, ◌∙◌}
use Rattle.lola_tree.specs.declared.module.LocalKind.TheVariants.{Reg}
use Rattle.lola_parse.specs.Design.{register_row, local_of}
use Rattle.lola_parse.proofs.Whole.{handed_on}
use Rattle.lola_parse.proofs.Steps.{passed, was_read, refuses}
use Rattle.lola_parse.proofs.Modules.{register_step}
use Rattle.lola_parse.proofs.module.register_row.Goals as goal

pub returns-clause-ok : goal.returns-clause-ok
returns-clause-ok c =
    register_row _ _ _ c.in_ok-names.ensures.ok c.in_ok-behind_colon.ensures.ok.1 c.in_ok-shape.ensures.ok c.in_ok-behind.ensures.ok.1
    (c.in_ok-add_locals.ensures.ok
    ∙ (ap (λ ns. c.args.locals.items ++ map (local_of (Reg c.in_ok-copy_named.field-0 c.in_ok-shape.shape)) ns) c.deref.ensures.value
    ∙ ap (λ k. c.args.locals.items ++ map (local_of (Reg k c.in_ok-shape.shape)) c.in_ok-names.names.items) c.in_ok-copy_named.ensures))

pub returns-in_err-behind_colon-clause-whole : goal.returns-in_err-behind_colon-clause-whole
returns-in_err-behind_colon-clause-whole c = λ locals rest d ends. let names = was_read _ (register_step d) c.in_ok-names.ensures.whole in refuses names c.in_err-behind_colon.ensures.whole

pub returns-in_err-behind-clause-whole : goal.returns-in_err-behind-clause-whole
returns-in_err-behind-clause-whole c = λ locals rest d ends. let names = was_read _ (register_step d) c.in_ok-names.ensures.whole in let colon = passed _ names c.in_ok-behind_colon.ensures.whole in let last = was_read _ colon c.in_ok-shape.ensures.whole in refuses last c.in_err-behind.ensures.whole

pub returns-in_err-add_locals-clause-whole : goal.returns-in_err-add_locals-clause-whole
returns-in_err-add_locals-clause-whole c = λ locals rest d ends. handed_on _ _ rest _ _ c.from_residual-in_err-add_locals.ensures.1 (c.in_err-add_locals.ensures.fails)

pub returns-clause-whole : goal.returns-clause-whole
returns-clause-whole c = λ locals rest d ends. let names = was_read _ (register_step d) c.in_ok-names.ensures.whole in let colon = passed _ names c.in_ok-behind_colon.ensures.whole in let last = was_read _ colon c.in_ok-shape.ensures.whole in let end = passed _ last c.in_ok-behind.ensures.whole in (
  (c.in_ok-add_locals.ensures.ok
      ∙ (ap (λ ns. c.args.locals.items ++ map (local_of (Reg c.in_ok-copy_named.field-0 c.in_ok-shape.shape)) ns) c.deref.ensures.value
      ∙ ap (λ k. c.args.locals.items ++ map (local_of (Reg k c.in_ok-shape.shape)) c.in_ok-names.names.items) c.in_ok-copy_named.ensures)) ∙ end.1,
  end.0,
)

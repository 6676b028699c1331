use Rattle.std.proofs.Common.{map, ap, ◌∙◌}
use Rattle.lola_tree.specs.Tree.{actual_tree, call}
use Rattle.lola_parse.proofs.Statements.{called_step}
use Rattle.lola_parse.proofs.Whole.{handed_on}
use Rattle.lola_parse.proofs.Steps.{passed, was_read, by_read}
use Rattle.lola_parse.proofs.statement.called.Goals as goal

pub returns-in_err-args-clause-whole : goal.returns-in_err-args-clause-whole
returns-in_err-args-clause-whole c = λ t rest h ends. handed_on _ _ rest _ _ c.from_residual.ensures.1 (by_read (called_step h) c.in_err-args.ensures.whole)

pub returns-in_err-behind-clause-whole : goal.returns-in_err-behind-clause-whole
returns-in_err-behind-clause-whole c = λ t rest h ends. let w = was_read _ (called_step h) c.in_ok-args.ensures.whole in absurd (c.in_err-behind.ensures.whole w.0 w.1)

pub returns-clause-whole : goal.returns-clause-whole
returns-clause-whole c = λ t rest h ends. let w = was_read _ (called_step h) c.in_ok-args.ensures.whole in let same = passed _ w c.in_ok-behind.ensures.whole in (ap (λ args. call c.args.target.name (map actual_tree args) c.args.target.at) c.of.ensures ∙ same.1, same.0)

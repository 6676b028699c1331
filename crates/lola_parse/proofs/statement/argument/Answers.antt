use Rattle.std.proofs.Common.{ap}
use Rattle.lola_tree.specs.Tree.{tree}
use Rattle.lola_parse.specs.Design.{argument}
use Rattle.lola_parse.proofs.Statements.{argument_step}
use Rattle.lola_parse.proofs.Whole.{handed_on}
use Rattle.lola_parse.proofs.statement.argument.Goals as goal

pub returns-clause-ok : goal.returns-clause-ok
returns-clause-ok c = argument _ c.in_ok-value.ensures.ok (ap (λ at. record { value = tree c.in_ok-value.value; at = at }) c.at-at.ensures)

pub returns-in_err-value-clause-whole : goal.returns-in_err-value-clause-whole
returns-in_err-value-clause-whole c =
    λ a rest read ends. let w = argument_step read in handed_on _ a rest _ _ c.from_residual.ensures.1 (c.in_err-value.ensures.whole w.0 rest w.1 ends)

use Rattle.lola_reread.proofs.OneExpression.{expression_again}
use Rattle.lola_reread.proofs.laws.printed_expressions.Goals as goal

pub returns : goal.returns
returns c = expression_again c.spaced_tokens.ensures.tokens c.spaced_tokens.ensures.blanks

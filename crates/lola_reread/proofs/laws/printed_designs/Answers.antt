use Rattle.lola_reread.proofs.Modules.{design_again}
use Rattle.lola_reread.proofs.laws.printed_designs.Goals as goal

pub returns : goal.returns
returns c = design_again c.spaced_tokens.ensures.tokens c.spaced_tokens.ensures.blanks

use Rattle.lola_scan.proofs.Fronts.{front_blank}
use Rattle.lola_scan.proofs.Spaced.{spaced}
use Rattle.lola_scan.proofs.scanner.spaced_tokens.Goals as goal

pub returns-clause-tokens : goal.returns-clause-tokens
returns-clause-tokens c = spaced

pub returns-clause-blanks : goal.returns-clause-blanks
returns-clause-blanks c = front_blank

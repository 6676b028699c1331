use Rattle.lola_parse.proofs.Statements.{placed_step}
use Rattle.lola_parse.proofs.Steps.{was_read}
use Rattle.std.proofs.Common.{refl}
use Rattle.lola_parse.specs.declared.symbol.Symbol.TheVariants as s
use Rattle.lola_parse.proofs.Fronts.{stands}
use Rattle.lola_parse.proofs.Suffix.{past, ◌then◌}
use Rattle.lola_parse.proofs.Endings.{outermost_ends, passes_ends, long_in}
use Rattle.lola_parse.proofs.statement.placed.Goals as goal

pub returns-in_err-behind-clause-whole : goal.returns-in_err-behind-clause-whole
returns-in_err-behind-clause-whole c = λ t rest h ends. let w = was_read _ (placed_step h) c.in_ok-value.ensures.whole in absurd (c.in_err-behind.ensures.whole w.0 w.1)

pub returns-in-Assign-clause-long : goal.returns-in-Assign-clause-long
returns-in-Assign-clause-long c =
    long_in c.assigned.result
    (outermost_ends c.in_ok-value.ensures.ok then passes_ends c.in_ok-behind.ensures.ok then
    past (stands c.in_ok-behind.behind c.next-next.result s.Assign c.next-next.ensures c.in-Assign.is refl))
    c.assigned.ensures.long

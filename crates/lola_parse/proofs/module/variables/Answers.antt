use Rattle.std.proofs.Common.{refl, ◌∙◌, arith}
use Rattle.lola_parse.specs.Design.{MoreVariables, no_variable, next_variable}
use Rattle.lola_parse.proofs.Whole.{handed_on, next_front, not_front}
use Rattle.lola_parse.proofs.Steps.{was_read, by_read}
use Rattle.lola_parse.proofs.Modules.{more_variables_step, more_variables_over}
use Rattle.lola_parse.proofs.module.variables.Goals as goal

pub rows-preserved : goal.rows-preserved
rows-preserved c =
    let before = c.rows.invariant.shorter in
    let now = c.in_ok-longer-in-Name.ensures.shorter in
    record {
      shorter = omega arith;
      whole = λ locals rest d ends. was_read (λ longer mid. MoreVariables longer mid locals rest) (more_variables_step (c.rows.invariant.whole locals rest d ends) ends (next_front c.rows.behind c.next.result c.next.ensures ∙ c.in-Name.is)) c.in_ok-longer-in-Name.ensures.whole;
      reads = λ locals rest more. c.rows.invariant.reads locals rest (next_variable _ c.in_ok-longer-in-Name.ensures.ok more);
    }

pub returns-in_default-clause-shorter : goal.returns-in_default-clause-shorter
returns-in_default-clause-shorter c = c.rows.invariant.shorter

pub returns-in_default-clause-ok : goal.returns-in_default-clause-ok
returns-in_default-clause-ok c = c.rows.invariant.reads _ _ (no_variable refl refl)

pub returns-in_err-longer-in-Name-clause-whole : goal.returns-in_err-longer-in-Name-clause-whole
returns-in_err-longer-in-Name-clause-whole c = λ locals rest d ends. handed_on _ _ rest _ _ c.from_residual.ensures.1 (by_read (more_variables_step (c.rows.invariant.whole locals rest d ends) ends (next_front c.rows.behind c.next.result c.next.ensures ∙ c.in-Name.is)) c.in_err-longer-in-Name.ensures.whole)

pub returns-in_default-clause-whole : goal.returns-in_default-clause-whole
returns-in_default-clause-whole c = λ locals rest d ends. more_variables_over (c.rows.invariant.whole locals rest d ends) (not_front c.rows.behind c.next.result c.next.ensures c.in_default.not-Name)

use Rattle.std.proofs.Common.{refl, ◌∙◌, arith}
use Rattle.lola_parse.specs.Design.{MoreRegisters, registers, no_register, next_register}
use Rattle.lola_parse.proofs.Whole.{handed_on, next_front, not_front}
use Rattle.lola_parse.proofs.Steps.{passed, was_read, refuses, by_read}
use Rattle.lola_parse.proofs.Modules.{registers_step, more_registers_step, more_registers_over}
use Rattle.lola_parse.proofs.module.registers.Goals as goal

pub rows-init : goal.rows-init
rows-init c =
    let one = c.in_ok-behind_open_paren.ensures.shorter in
    let two = c.in_ok-clock.ensures.shorter in
    let three = c.in_ok-behind_close_paren.ensures.shorter in
    let four = c.in_ok-locals.ensures.shorter in
    record {
      shorter = omega arith;
      whole = λ locals rest d ends. let opened = passed _ (registers_step d) c.in_ok-behind_open_paren.ensures.whole in let clock = was_read _ opened c.in_ok-clock.ensures.whole in let closed = passed _ clock c.in_ok-behind_close_paren.ensures.whole in was_read (λ longer mid. MoreRegisters c.in_ok-clock.clock longer mid locals rest) closed c.in_ok-locals.ensures.whole;
      reads = λ locals rest more.
          registers {clock = c.in_ok-clock.clock} _ _ _ _ c.in_ok-behind_open_paren.ensures.ok.1 c.in_ok-clock.ensures.ok c.in_ok-behind_close_paren.ensures.ok.1
          c.in_ok-locals.ensures.ok more;
    }

pub rows-preserved : goal.rows-preserved
rows-preserved c =
    let before = c.rows.invariant.shorter in
    let now = c.in_ok-longer-in-Name.ensures.shorter in
    record {
      shorter = omega arith;
      whole = λ locals rest d ends. was_read (λ longer mid. MoreRegisters c.in_ok-clock.clock longer mid locals rest) (more_registers_step (c.rows.invariant.whole locals rest d ends) ends (next_front c.rows.behind c.next.result c.next.ensures ∙ c.in-Name.is)) c.in_ok-longer-in-Name.ensures.whole;
      reads = λ locals rest more. c.rows.invariant.reads locals rest (next_register _ c.in_ok-longer-in-Name.ensures.ok more);
    }

pub returns-in_default-clause-shorter : goal.returns-in_default-clause-shorter
returns-in_default-clause-shorter c = c.rows.invariant.shorter

pub returns-in_default-clause-ok : goal.returns-in_default-clause-ok
returns-in_default-clause-ok c = c.rows.invariant.reads _ _ (no_register refl refl)

pub returns-in_err-behind_open_paren-clause-whole : goal.returns-in_err-behind_open_paren-clause-whole
returns-in_err-behind_open_paren-clause-whole c = λ locals rest d ends. refuses (registers_step d) c.in_err-behind_open_paren.ensures.whole

pub returns-in_err-clock-clause-whole : goal.returns-in_err-clock-clause-whole
returns-in_err-clock-clause-whole c = λ locals rest d ends. let opened = passed _ (registers_step d) c.in_ok-behind_open_paren.ensures.whole in handed_on _ _ rest _ _ c.from_residual-in_err-clock.ensures.1 (by_read opened c.in_err-clock.ensures.whole)

pub returns-in_err-behind_close_paren-clause-whole : goal.returns-in_err-behind_close_paren-clause-whole
returns-in_err-behind_close_paren-clause-whole c = λ locals rest d ends. let opened = passed _ (registers_step d) c.in_ok-behind_open_paren.ensures.whole in let clock = was_read _ opened c.in_ok-clock.ensures.whole in refuses clock c.in_err-behind_close_paren.ensures.whole

pub returns-in_err-locals-clause-whole : goal.returns-in_err-locals-clause-whole
returns-in_err-locals-clause-whole c = λ locals rest d ends. let opened = passed _ (registers_step d) c.in_ok-behind_open_paren.ensures.whole in let clock = was_read _ opened c.in_ok-clock.ensures.whole in let closed = passed _ clock c.in_ok-behind_close_paren.ensures.whole in handed_on _ _ rest _ _ c.from_residual-in_err-locals.ensures.1 (by_read closed c.in_err-locals.ensures.whole)

pub returns-in_err-longer-in-Name-clause-whole : goal.returns-in_err-longer-in-Name-clause-whole
returns-in_err-longer-in-Name-clause-whole c = λ locals rest d ends. handed_on _ _ rest _ _ c.from_residual-in_err-longer-in-Name.ensures.1 (by_read (more_registers_step (c.rows.invariant.whole locals rest d ends) ends (next_front c.rows.behind c.next.result c.next.ensures ∙ c.in-Name.is)) c.in_err-longer-in-Name.ensures.whole)

pub returns-in_default-clause-whole : goal.returns-in_default-clause-whole
returns-in_default-clause-whole c = λ locals rest d ends. more_registers_over (c.rows.invariant.whole locals rest d ends) (not_front c.rows.behind c.next.result c.next.ensures c.in_default.not-Name)

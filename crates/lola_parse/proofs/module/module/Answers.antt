use Rattle.std.proofs.Common.{refl}
use Rattle.lola_parse.specs.Design.{one_module}
use Rattle.lola_parse.proofs.Whole.{handed_on}
use Rattle.lola_parse.proofs.Steps.{passed, was_read, refuses, by_read}
use Rattle.lola_parse.proofs.Modules.{module_step}
use Rattle.lola_parse.proofs.Suffix.{past_name, ◌then◌}
use Rattle.lola_parse.proofs.Endings.{passes_ends, ports_ends, declarations_ends, long_on}
use Rattle.lola_parse.proofs.module.module.Goals as goal

pub returns-clause-ok : goal.returns-clause-ok
returns-clause-ok c =
    one_module {title = c.in_ok-title.title} {ends = c.in_ok-ends.ends} _ _ _ _ _ _ _ _ _ _ c.in_ok-behind_module.ensures.ok.1 c.in_ok-title.ensures.ok
    c.in_ok-behind_open_paren.ensures.ok.1 c.in_ok-ports.ensures.ok c.in_ok-behind_close_paren.ensures.ok.1 c.in_ok-behind.ensures.ok.1 c.in_ok-declared.ensures.ok
    c.in_ok-body.ensures.ok c.in_ok-behind_end.ensures.ok.1 c.in_ok-ends.ensures.ok c.in_ok-behind-2.ensures.ok.1
    (rw (c.of.ensures, c.of-2.ensures, c.of-3.ensures, c.of-4.ensures) refl)

pub returns-in_err-behind_module-clause-whole : goal.returns-in_err-behind_module-clause-whole
returns-in_err-behind_module-clause-whole c = λ m rest d k. refuses (module_step d) c.in_err-behind_module.ensures.whole

pub returns-in_err-title-clause-whole : goal.returns-in_err-title-clause-whole
returns-in_err-title-clause-whole c = λ m rest d k. let starts = passed _ (module_step d) c.in_ok-behind_module.ensures.whole in handed_on _ _ rest _ _ c.from_residual-in_err-title.ensures.1 (by_read starts c.in_err-title.ensures.whole)

pub returns-in_err-behind_open_paren-clause-whole : goal.returns-in_err-behind_open_paren-clause-whole
returns-in_err-behind_open_paren-clause-whole c = λ m rest d k. let starts = passed _ (module_step d) c.in_ok-behind_module.ensures.whole in let title = was_read _ starts c.in_ok-title.ensures.whole in refuses title c.in_err-behind_open_paren.ensures.whole

pub returns-in_err-ports-clause-whole : goal.returns-in_err-ports-clause-whole
returns-in_err-ports-clause-whole c = λ m rest d k. let starts = passed _ (module_step d) c.in_ok-behind_module.ensures.whole in let title = was_read _ starts c.in_ok-title.ensures.whole in let opened = passed _ title c.in_ok-behind_open_paren.ensures.whole in handed_on _ _ rest _ _ c.from_residual-in_err-ports.ensures.1 (by_read opened c.in_err-ports.ensures.whole)

pub returns-in_err-behind_close_paren-clause-whole : goal.returns-in_err-behind_close_paren-clause-whole
returns-in_err-behind_close_paren-clause-whole c = λ m rest d k. let starts = passed _ (module_step d) c.in_ok-behind_module.ensures.whole in let title = was_read _ starts c.in_ok-title.ensures.whole in let opened = passed _ title c.in_ok-behind_open_paren.ensures.whole in let ports = was_read _ opened c.in_ok-ports.ensures.whole in refuses ports c.in_err-behind_close_paren.ensures.whole

pub returns-in_err-behind-clause-whole : goal.returns-in_err-behind-clause-whole
returns-in_err-behind-clause-whole c = λ m rest d k. let starts = passed _ (module_step d) c.in_ok-behind_module.ensures.whole in let title = was_read _ starts c.in_ok-title.ensures.whole in let opened = passed _ title c.in_ok-behind_open_paren.ensures.whole in let ports = was_read _ opened c.in_ok-ports.ensures.whole in let closed = passed _ ports c.in_ok-behind_close_paren.ensures.whole in refuses closed c.in_err-behind.ensures.whole

pub returns-in_err-declared-clause-whole : goal.returns-in_err-declared-clause-whole
returns-in_err-declared-clause-whole c = λ m rest d k. let starts = passed _ (module_step d) c.in_ok-behind_module.ensures.whole in let title = was_read _ starts c.in_ok-title.ensures.whole in let opened = passed _ title c.in_ok-behind_open_paren.ensures.whole in let ports = was_read _ opened c.in_ok-ports.ensures.whole in let closed = passed _ ports c.in_ok-behind_close_paren.ensures.whole in let semicolon = passed _ closed c.in_ok-behind.ensures.whole in handed_on _ _ rest _ _ c.from_residual-in_err-declared.ensures.1 (by_read semicolon c.in_err-declared.ensures.whole)

pub returns-in_err-body-clause-whole : goal.returns-in_err-body-clause-whole
returns-in_err-body-clause-whole c = λ m rest d k. let starts = passed _ (module_step d) c.in_ok-behind_module.ensures.whole in let title = was_read _ starts c.in_ok-title.ensures.whole in let opened = passed _ title c.in_ok-behind_open_paren.ensures.whole in let ports = was_read _ opened c.in_ok-ports.ensures.whole in let closed = passed _ ports c.in_ok-behind_close_paren.ensures.whole in let semicolon = passed _ closed c.in_ok-behind.ensures.whole in let declared = was_read _ semicolon c.in_ok-declared.ensures.whole in handed_on _ _ rest _ _ c.from_residual-in_err-body.ensures.1 (by_read declared c.in_err-body.ensures.whole)

pub returns-in_err-behind_end-clause-whole : goal.returns-in_err-behind_end-clause-whole
returns-in_err-behind_end-clause-whole c = λ m rest d k. let starts = passed _ (module_step d) c.in_ok-behind_module.ensures.whole in let title = was_read _ starts c.in_ok-title.ensures.whole in let opened = passed _ title c.in_ok-behind_open_paren.ensures.whole in let ports = was_read _ opened c.in_ok-ports.ensures.whole in let closed = passed _ ports c.in_ok-behind_close_paren.ensures.whole in let semicolon = passed _ closed c.in_ok-behind.ensures.whole in let declared = was_read _ semicolon c.in_ok-declared.ensures.whole in let body = was_read _ declared c.in_ok-body.ensures.whole in refuses body c.in_err-behind_end.ensures.whole

pub returns-in_err-ends-clause-whole : goal.returns-in_err-ends-clause-whole
returns-in_err-ends-clause-whole c = λ m rest d k. let starts = passed _ (module_step d) c.in_ok-behind_module.ensures.whole in let title = was_read _ starts c.in_ok-title.ensures.whole in let opened = passed _ title c.in_ok-behind_open_paren.ensures.whole in let ports = was_read _ opened c.in_ok-ports.ensures.whole in let closed = passed _ ports c.in_ok-behind_close_paren.ensures.whole in let semicolon = passed _ closed c.in_ok-behind.ensures.whole in let declared = was_read _ semicolon c.in_ok-declared.ensures.whole in let body = was_read _ declared c.in_ok-body.ensures.whole in let end = passed _ body c.in_ok-behind_end.ensures.whole in handed_on _ _ rest _ _ c.from_residual-in_err-ends.ensures.1 (by_read end c.in_err-ends.ensures.whole)

pub returns-in_err-behind-2-clause-whole : goal.returns-in_err-behind-2-clause-whole
returns-in_err-behind-2-clause-whole c = λ m rest d k. let starts = passed _ (module_step d) c.in_ok-behind_module.ensures.whole in let title = was_read _ starts c.in_ok-title.ensures.whole in let opened = passed _ title c.in_ok-behind_open_paren.ensures.whole in let ports = was_read _ opened c.in_ok-ports.ensures.whole in let closed = passed _ ports c.in_ok-behind_close_paren.ensures.whole in let semicolon = passed _ closed c.in_ok-behind.ensures.whole in let declared = was_read _ semicolon c.in_ok-declared.ensures.whole in let body = was_read _ declared c.in_ok-body.ensures.whole in let end = passed _ body c.in_ok-behind_end.ensures.whole in let ends = was_read _ end c.in_ok-ends.ensures.whole in refuses ends c.in_err-behind-2.ensures.whole

pub returns-clause-whole : goal.returns-clause-whole
returns-clause-whole c = λ m rest d k. let starts = passed _ (module_step d) c.in_ok-behind_module.ensures.whole in let title = was_read _ starts c.in_ok-title.ensures.whole in let opened = passed _ title c.in_ok-behind_open_paren.ensures.whole in let ports = was_read _ opened c.in_ok-ports.ensures.whole in let closed = passed _ ports c.in_ok-behind_close_paren.ensures.whole in let semicolon = passed _ closed c.in_ok-behind.ensures.whole in let declared = was_read _ semicolon c.in_ok-declared.ensures.whole in let body = was_read _ declared c.in_ok-body.ensures.whole in let end = passed _ body c.in_ok-behind_end.ensures.whole in let ends = was_read _ end c.in_ok-ends.ensures.whole in let dot = passed _ ends c.in_ok-behind-2.ensures.whole in (rw (c.of.ensures, c.of-2.ensures, c.of-3.ensures, c.of-4.ensures) dot.1, dot.0)

pub returns-in_err-body-clause-long : goal.returns-in_err-body-clause-long
returns-in_err-body-clause-long c =
    long_on _ _
    (passes_ends c.in_ok-behind_module.ensures.ok then past_name c.in_ok-title.ensures.ok then passes_ends c.in_ok-behind_open_paren.ensures.ok then
    ports_ends c.in_ok-ports.ensures.ok then passes_ends c.in_ok-behind_close_paren.ensures.ok then passes_ends c.in_ok-behind.ensures.ok then
    declarations_ends c.in_ok-declared.ensures.ok)
    c.from_residual-in_err-body.ensures.1 c.in_err-body.ensures.long

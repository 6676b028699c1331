use Rattle.std.proofs.Common.{ap, sym, ◌∙◌}
use Rattle.std.specs.Prelude.{position}
use Rattle.tab_tree.specs.declared.table.Class.{Class}
use Rattle.tab_tree.specs.Step.{fits}
use Rattle.tab_mach.proofs.Steps.{first_found, none_found}
use Rattle.tab_mach.proofs.stepping.step.Goals as goal

pub step_class-requires-clause-first : goal.step_class-requires-clause-first
step_class-requires-clause-first c =
    (first_found c.args.table.now c.args.word c.in-Some.number (sym (c.in-Some.ensures ∙ ap (position (λ (class : Class). fits class.pattern c.args.word.value)) c.items.ensures))).1

pub returns-in-None : goal.returns-in-None
returns-in-None c = none_found c.args.table.now c.args.word (sym (c.in-None.ensures ∙ ap (position (λ (class : Class). fits class.pattern c.args.word.value)) c.items.ensures))

use Rattle.std.proofs.Common.{ℕ, List, None, Option, ap, ap₂, ◌∙◌}
use Rattle.tab_tree.specs.Table.{PhaseTree}
use Rattle.tab_tree.specs.Step.{Words, end_words, set_states}
use Rattle.tab_mach.specs.Begun.{table_of, steps_of, names_in}
use Rattle.tab_mach.proofs.stepping.run.Goals as goal

pub returns-clause-arch : goal.returns-clause-arch
returns-clause-arch c =
    let g = c.args.begun.now in
    let none : Option ℕ = None in
    c.in_ok-values.ensures
    ∙ ap (λ (m : Words). set_states (table_of g) g.arch.now (steps_of g).sets (names_in g m none))
    (c.in-Ok.ensures.words ∙ ap₂ (λ (phases : List PhaseTree) (m : Words). end_words (table_of g) (steps_of g) g.arch.now g.word c.args.answers.now 0 phases m 0) c.requires.phases c.in_ok-kept.ensures.words)

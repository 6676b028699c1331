use Rattle.small_read.proofs.Exits.{want}
use Rattle.std.proofs.Common.{map, ap, ◌∙◌}
use Rattle.small_tree.specs.Table.{phase_tree, set_tree}
use Rattle.small_read.proofs.Chains.{class_phases, sets_no_phase}
use Rattle.small_read.proofs.classes.take_class.Goals as goal

pub returns-in_err-behind_word-clause-whole : goal.returns-in_err-behind_word-clause-whole
returns-in_err-behind_word-clause-whole c =
    λ class rest h lacks.
    absurd (c.in_err-behind_word.ensures.whole h.title h.word_passed)

pub returns-in_err-name-clause-whole : goal.returns-in_err-name-clause-whole
returns-in_err-name-clause-whole c =
    λ class rest h lacks.
    let word = c.in_ok-behind_word.ensures.whole h.title h.word_passed in
    want _ _ _ c.from_residual-in_err-name.result _ c.from_residual-in_err-name.ensures.1
    (c.in_err-name.ensures.whole class.name h.pattern (rw word h.name_read))

pub returns-in_err-pattern-clause-whole : goal.returns-in_err-pattern-clause-whole
returns-in_err-pattern-clause-whole c =
    λ class rest h lacks.
    let word = c.in_ok-behind_word.ensures.whole h.title h.word_passed in
    let name = c.in_ok-name.ensures.whole class.name h.pattern (rw word h.name_read) in
    want _ _ _ c.from_residual-in_err-pattern.result _ c.from_residual-in_err-pattern.ensures.1
    (c.in_err-pattern.ensures.whole class.pattern h.first (rw name.1 h.pattern_read))

pub returns-in_err-phases-clause-whole : goal.returns-in_err-phases-clause-whole
returns-in_err-phases-clause-whole c =
    λ class rest h lacks.
    let word = c.in_ok-behind_word.ensures.whole h.title h.word_passed in
    let name = c.in_ok-name.ensures.whole class.name h.pattern (rw word h.name_read) in
    let pattern = c.in_ok-pattern.ensures.whole class.pattern h.first (rw name.1 h.pattern_read) in
    want _ _ _ c.from_residual-in_err-phases.result _ c.from_residual-in_err-phases.ensures.1
    (c.in_err-phases.ensures.whole class.phases h.sets (rw pattern.1 (class_phases h)) (sets_no_phase h.sets_read lacks))

pub returns-in_err-sets-clause-whole : goal.returns-in_err-sets-clause-whole
returns-in_err-sets-clause-whole c =
    λ class rest h lacks.
    let word = c.in_ok-behind_word.ensures.whole h.title h.word_passed in
    let name = c.in_ok-name.ensures.whole class.name h.pattern (rw word h.name_read) in
    let pattern = c.in_ok-pattern.ensures.whole class.pattern h.first (rw name.1 h.pattern_read) in
    let phases = c.in_ok-phases.ensures.whole class.phases h.sets (rw pattern.1 (class_phases h)) (sets_no_phase h.sets_read lacks) in
    want _ _ _ c.from_residual-in_err-sets.result _ c.from_residual-in_err-sets.ensures.1
    (c.in_err-sets.ensures.whole class.sets rest (rw phases.1 h.sets_read) lacks.no_set)

pub returns-clause-whole : goal.returns-clause-whole
returns-clause-whole c =
    λ class rest h lacks.
    let word = c.in_ok-behind_word.ensures.whole h.title h.word_passed in
    let name = c.in_ok-name.ensures.whole class.name h.pattern (rw word h.name_read) in
    let pattern = c.in_ok-pattern.ensures.whole class.pattern h.first (rw name.1 h.pattern_read) in
    let phases = c.in_ok-phases.ensures.whole class.phases h.sets (rw pattern.1 (class_phases h)) (sets_no_phase h.sets_read lacks) in
    let sets = c.in_ok-sets.ensures.whole class.sets rest (rw phases.1 h.sets_read) lacks.no_set in (
      λ i.
          record {
            name = name.0 i;
            pattern = (c.of.ensures ∙ pattern.0) i;
            phases = (ap (map phase_tree) c.of-2.ensures ∙ phases.0) i;
            sets = (ap (map set_tree) c.of-3.ensures ∙ sets.0) i;
          },
      sets.1,
    )

use Rattle.std.proofs.Common.{sym, subst, arith}
use Rattle.lola_bits.specs.Vector.{FitsWidth}
use Rattle.tab_tree.specs.declared.value.Answer.{Answer}
use Rattle.tab_mach.proofs.Phases.{loaded_fits, turns_small}
use Rattle.tab_mach.proofs.phase.run_phases.Goals as goal

pub run_phase-requires-clause-few : goal.run_phase-requires-clause-few
run_phase-requires-clause-few c = turns_small c.args.phases.now c.loop-number.number c.index-phases-number.result (omega arith) c.index-phases-number.is c.requires.small

pub run_phase-requires-clause-fits : goal.run_phase-requires-clause-fits
run_phase-requires-clause-fits c =
    subst (λ (a : Answer). FitsWidth a.loaded.width a.loaded.value) (sym c.phase_answer-answer.ensures) (loaded_fits c.args.answers.now c.requires.loaded _)

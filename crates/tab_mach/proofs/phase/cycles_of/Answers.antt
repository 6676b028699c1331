use Rattle.std.proofs.Common.{arith}
use Rattle.std.proofs.lemmas.List.{length-map}
use Rattle.std.specs.Prelude.{map}
use Rattle.tab_tree.specs.Table.{phase_tree}
use Rattle.tab_mach.proofs.Phases.{few_cycles, cycles_step}
use Rattle.tab_mach.proofs.phase.cycles_of.Goals as goal

pub overflow_add-cycles : goal.overflow_add-cycles
overflow_add-cycles c =
    let step = cycles_step c.args.phases.now c.loop-phase.phase-index c.phase-item.result (omega arith) c.phase-item.is in
    let few = few_cycles (map phase_tree c.args.phases.now) c.requires.small in
    let long = length-map c.args.phases.now phase_tree in
    omega arith

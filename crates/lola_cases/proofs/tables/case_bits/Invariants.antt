use Rattle.std.proofs.Common.{drop, map}
use Rattle.lola_flat.specs.Tree.{flat_tree, signal_tree}
use Rattle.lola_cases.proofs.TableSteps.{AreSoFar}
use Rattle.lola_cases.proofs.tables.case_bits.Given as goal

abbrev pub invariant-loop-at : goal.invariant-loop-at
invariant-loop-at l = AreSoFar (flat_tree l.flat) l.numbers (map signal_tree (drop l.at l.signals)) l.rest l.given.items l.outside.items

use Rattle.std.proofs.Common.{ap, arith}
use Rattle.tab_tree.specs.Names.{vector}
use Rattle.tab_mach.proofs.Elements.{number_is, behind_end}
use Rattle.tab_mach.proofs.vectors.element.Goals as goal

pub returns-then-place-elements-clause-value : goal.returns-then-place-elements-clause-value
returns-then-place-elements-clause-value c = ap (vector c.args.width) (number_is c.args.elements.now c.args.place _ (omega arith))

pub returns-else-place-elements-clause-value : goal.returns-else-place-elements-clause-value
returns-else-place-elements-clause-value c = ap (vector c.args.width) (behind_end c.args.elements.now c.args.place (omega arith))

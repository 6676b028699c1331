use Rattle.std.proofs.Common.{take, map, reverse}
use Rattle.lola_tree.specs.Tree.{module_tree}
use Rattle.lola_unfold.specs.Parts.{IsSurvey}
use Rattle.lola_unfold.proofs.survey.survey_of.Given as goal

abbrev pub invariant-loop-module : goal.invariant-loop-module
invariant-loop-module l = IsSurvey l.survey (reverse (map module_tree (take l.module-index l.modules)))

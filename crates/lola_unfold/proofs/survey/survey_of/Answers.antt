use Rattle.std.proofs.Common.{◌≡◌, ◌+◌, List, [], ◌∷◌, map, take, reverse, sym, ap, ◌∙◌, subst, arith}
use Rattle.std.proofs.lemmas.List.{reverse-append, take_all}
use Rattle.lola_bits.proofs.Places.{map_item}
use Rattle.lola_tree.specs.declared.module.Module.{Module}
use Rattle.lola_tree.specs.Tree.{module_tree, ModuleTree}
use Rattle.lola_unfold.specs.Parts.{IsSurvey}
use Rattle.lola_unfold.proofs.survey.survey_of.Goals as goal

pub loop-module-preserved : goal.loop-module-preserved
loop-module-preserved c =
    let modules = c.args.modules.now in
    let m = module_tree c.module-item.result in
    let earlier = reverse (map module_tree (take c.loop-module.module-index modules)) in
    let more : reverse (map module_tree (take (c.loop-module.module-index + 1) modules)) ≡ m ∷ earlier =
    ap reverse (map_item module_tree modules c.loop-module.module-index c.module-item.result (omega arith) c.module-item.is) ∙ reverse-append (map module_tree (take c.loop-module.module-index modules)) (m ∷ []) in
    subst (λ (ms : List ModuleTree). IsSurvey c.add_module.new.survey ms) (sym more) (c.in_ok-add_module.ensures earlier c.loop-module.invariant)

pub returns : goal.returns
returns c =
    subst (λ (ms : List Module). IsSurvey c.loop-module.survey (reverse (map module_tree ms))) (take_all c.loop-module.module-index c.args.modules.now c.loop-module-test.false) c.loop-module.invariant

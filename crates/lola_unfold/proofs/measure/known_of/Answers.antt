use Rattle.std.proofs.Common.{◌≡◌, ℕ, ◌+◌, cond, bytes_eq, List, [], ◌∷◌, map, take, reverse, Some, sym, ap, ◌∙◌, subst, arith}
use Rattle.std.proofs.lemmas.List.{reverse-append, take_all}
use Rattle.lola_bits.proofs.Places.{map_item}
use Rattle.lola_tree.specs.declared.module.Module.{Module}
use Rattle.lola_tree.specs.Tree.{module_tree, ModuleTree}
use Rattle.lola_unfold.specs.Measured.{Knows, outline_of}
use Rattle.lola_unfold.proofs.Knowing.{none_known, more_known}
use Rattle.lola_unfold.proofs.measure.known_of.Goals as goal

pub loop-module-init : goal.loop-module-init
loop-module-init c = none_known c.new-known.result c.new-known.ensures

pub loop-module-preserved : goal.loop-module-preserved
loop-module-preserved c =
    let modules = c.args.modules.now in
    let m = module_tree c.module-item.result in
    let earlier = reverse (map module_tree (take c.loop-module.module-index modules)) in
    let more : reverse (map module_tree (take (c.loop-module.module-index + 1) modules)) ≡ m ∷ earlier =
    ap reverse (map_item module_tree modules c.loop-module.module-index c.module-item.result (omega arith) c.module-item.is) ∙ reverse-append (map module_tree (take c.loop-module.module-index modules)) (m ∷ []) in
    subst (λ (ms : List ModuleTree). Knows c.add.new.self ms) (sym more)
    (more_known c.loop-module.known c.add.new.self earlier m c.in_ok-outline.outline c.loop-module.invariant (c.in_ok-outline.ensures earlier c.loop-module.invariant)
    (λ name. c.in_ok-add.ensures name ∙ ap (λ (n : List ℕ). cond (bytes_eq n name) (Some c.in_ok-outline.outline) (outline_of c.loop-module.known name)) c.text.ensures))

pub returns : goal.returns
returns c =
    subst (λ (ms : List Module). Knows c.loop-module.known (reverse (map module_tree ms))) (take_all c.loop-module.module-index c.args.modules.now c.loop-module-test.false) c.loop-module.invariant

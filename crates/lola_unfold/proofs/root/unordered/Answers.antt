use Rattle.std.proofs.Common.{List, map, reverse, sym, ap, ◌∙◌, subst}
use Rattle.lola_tree.specs.declared.module.Module.{Module}
use Rattle.lola_tree.specs.Tree.{module_tree, source_tree}
use Rattle.lola_design.specs.Once.{AllOnce}
use Rattle.lola_unfold.specs.Root.{design_of}
use Rattle.lola_unfold.proofs.Rooted.{design_is}
use Rattle.lola_unfold.proofs.root.unordered.Goals as goal

pub returns-clause-flat : goal.returns-clause-flat
returns-clause-flat c = λ once.
    let once' = subst (λ (ms : List Module). AllOnce (reverse (map module_tree ms))) (sym c.items.ensures) once in
    c.in_ok-flat.ensures.flat once' ∙ ap (λ (ms : List Module). design_of (reverse (map module_tree ms))) c.items.ensures ∙ design_is (source_tree c.args.source.now)

pub returns-clause-few : goal.returns-clause-few
returns-clause-few c = λ once.
    c.in_ok-flat.ensures.few (subst (λ (ms : List Module). AllOnce (reverse (map module_tree ms))) (sym c.items.ensures) once)

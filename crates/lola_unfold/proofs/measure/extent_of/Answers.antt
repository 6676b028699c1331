use Rattle.std.proofs.Common.{◌≡◌, ℕ, List, map, reverse, sym, subst}
use Rattle.std.specs.Prelude.{IfOk}
use Rattle.lola_tree.specs.declared.module.Module.{Module}
use Rattle.lola_tree.specs.Tree.{module_tree, source_tree}
use Rattle.lola_tree.specs.design.Signals.{root_height}
use Rattle.lola_unfold.specs.Slots.{capped}
use Rattle.lola_unfold.specs.Measured.{root_size}
use Rattle.lola_unfold.proofs.Sizes.{size_is}
use Rattle.lola_unfold.proofs.measure.extent_of.Goals as goal

pub returns-clause-height : goal.returns-clause-height
returns-clause-height c =
    subst (λ (ms : List Module). IfOk c.modules_extent.result (λ made. made.height ≡ capped (root_height (reverse (map module_tree ms))))) c.items.ensures c.modules_extent.ensures.height

pub returns-clause-size : goal.returns-clause-size
returns-clause-size c =
    subst (λ (n : ℕ). IfOk c.modules_extent.result (λ made. made.size ≡ capped n)) (sym (size_is (source_tree c.args.source.now)))
    (subst (λ (ms : List Module). IfOk c.modules_extent.result (λ made. made.size ≡ capped (root_size (reverse (map module_tree ms))))) c.items.ensures c.modules_extent.ensures.size)

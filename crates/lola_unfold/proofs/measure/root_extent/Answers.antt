use Rattle.std.proofs.Common.{ℕ, ◌+◌, List, ap, ap₂, ◌∙◌}
use Rattle.lola_tree.specs.Tree.{module_tree}
use Rattle.lola_tree.specs.Names.{names_of}
use Rattle.lola_tree.specs.design.Signals.{locals_height, height_inside}
use Rattle.lola_width.specs.Table.{found}
use Rattle.lola_unfold.specs.Slots.{capped}
use Rattle.lola_unfold.specs.Tables.{clocks_found, no_clock}
use Rattle.lola_unfold.specs.Measured.{size_inside, outline_of, outline_size, outline_height}
use Rattle.lola_unfold.proofs.Knowing.{locals_capped, both_capped, ports_same, kinds_same, capped_suc}
use Rattle.lola_unfold.proofs.measure.root_extent.Goals as goal

pub returns-clause-height : goal.returns-clause-height
returns-clause-height c = λ E known.
    let heights = λ (other : List ℕ). outline_height (outline_of c.args.known.now other) in
    c.saturating_add-2.ensures
    ∙ ap (λ (h : ℕ). capped (h + 1)) (c.inner_height.ensures ∙ ap (locals_height heights) c.items-3.ensures ∙ locals_capped heights (height_inside E) known.heights c.args.root.now.locals)
    ∙ capped_suc (locals_height (height_inside E) c.args.root.now.locals)

pub returns-clause-size : goal.returns-clause-size
returns-clause-size c = λ E known.
    let m = module_tree c.args.root.now in
    let sizes = λ (other : List ℕ). outline_size (outline_of c.args.known.now other) in
    c.saturating_add.ensures
    ∙ ap₂ (λ (a b : ℕ). capped (a + b))
    (c.ports_size-ports.ensures ∙ ports_same (found c.in_ok-names.names) (names_of m) (clocks_found c.new-none.result) no_clock c.items.result.now m.ports c.in_ok-names.ensures c.new-none.ensures c.items.ensures)
    (c.locals_size.ensures ∙ kinds_same sizes (found c.in_ok-names.names) (names_of m) c.items-2.result.now m.locals c.in_ok-names.ensures c.items-2.ensures)
    ∙ both_capped sizes (size_inside E) known.sizes (names_of m) no_clock m.ports m.locals

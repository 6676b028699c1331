use Rattle.std.proofs.Common.{◌≡◌, ℕ, ◌+◌, List, map, flat_map, ap, ap₂, ◌∙◌}
use Rattle.lola_bits.specs.Names.{is_among}
use Rattle.lola_tree.specs.declared.module.Port.{Port}
use Rattle.lola_tree.specs.declared.module.Local.{Local}
use Rattle.lola_tree.specs.Tree.{module_tree}
use Rattle.lola_tree.specs.Names.{names_of}
use Rattle.lola_tree.specs.design.Clocks.{clocks_in, clock_ports}
use Rattle.lola_tree.specs.design.Signals.{locals_height, height_inside}
use Rattle.lola_width.specs.Table.{found}
use Rattle.lola_unfold.specs.Slots.{capped}
use Rattle.lola_unfold.specs.Tables.{Among, Called, calls_in, args_or_none, clocks_found, clocks_with, clocks_by, no_clock}
use Rattle.lola_unfold.specs.Measured.{size_inside, outline_of, outline_ports, outline_size, outline_height}
use Rattle.lola_unfold.proofs.Tables.{called_args}
use Rattle.lola_unfold.proofs.Knowing.{module_clocks, locals_capped, both_capped, ports_same, kinds_same, capped_suc}
use Rattle.lola_unfold.proofs.measure.outline.Goals as goal

pub returns : goal.returns
returns c = λ E known.
    let m = module_tree c.args.«module».now in
    let ports = λ (other : List ℕ). outline_ports (outline_of c.args.known.now other) in
    let sizes = λ (other : List ℕ). outline_size (outline_of c.args.known.now other) in
    let heights = λ (other : List ℕ). outline_height (outline_of c.args.known.now other) in
    let args = λ (other : List ℕ). args_or_none (calls_in c.in_ok-calls.calls other) in
    let clocks : clocks_found c.in_ok-clocks.clocks ≡ is_among (clocks_in (clock_ports E) m) =
    c.in_ok-clocks.ensures ∙ ap (λ (ls : List Local). clocks_with no_clock (flat_map (λ (l : Local). clocks_by ports args l.name l.kind) ls)) c.items.ensures
    ∙ module_clocks E m ports args known.ports (λ name. ap (λ (f : Called). args_or_none (f name)) c.in_ok-calls.ensures ∙ called_args m.body name) in
    record {
      ports =
          c.in_ok-port_clocks.ensures ∙ ap (λ (a : Among). map (λ (p : Port). a p.name) c.items-3.result.now) clocks
          ∙ ap (λ (ps : List Port). map (λ (p : Port). is_among (clocks_in (clock_ports E) m) p.name) ps) c.items-3.ensures;
      size =
          c.saturating_add.ensures
          ∙ ap₂ (λ (a b : ℕ). capped (a + b))
          (c.ports_size-ports.ensures ∙ ports_same (found c.in_ok-names.names) (names_of m) (clocks_found c.in_ok-clocks.clocks) (is_among (clocks_in (clock_ports E) m)) c.items-2.result.now m.ports c.in_ok-names.ensures clocks c.items-2.ensures)
          (c.locals_size.ensures ∙ kinds_same sizes (found c.in_ok-names.names) (names_of m) c.items-4.result.now m.locals c.in_ok-names.ensures c.items-4.ensures)
          ∙ both_capped sizes (size_inside E) known.sizes (names_of m) (is_among (clocks_in (clock_ports E) m)) m.ports m.locals;
      height =
          c.saturating_add-2.ensures
          ∙ ap (λ (h : ℕ). capped (h + 1)) (c.inner_height.ensures ∙ ap (locals_height heights) c.items-5.ensures ∙ locals_capped heights (height_inside E) known.heights m.locals)
          ∙ capped_suc (locals_height (height_inside E) m.locals);
    }

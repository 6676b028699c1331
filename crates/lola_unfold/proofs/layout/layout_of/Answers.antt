use Rattle.std.proofs.Common.{List, flat_map, sym, ap, ap₂, ◌∙◌}
use Rattle.lola_tree.specs.declared.module.Port.{Port}
use Rattle.lola_tree.specs.declared.module.Local.{Local}
use Rattle.lola_unfold.specs.Slots.{Slots}
use Rattle.lola_unfold.specs.Tables.{clocks_found}
use Rattle.lola_unfold.specs.Offsets.{inner_in, Laid, no_laid, lay, port_items, local_items}
use Rattle.lola_unfold.proofs.Laying.{lay_append}
use Rattle.lola_unfold.proofs.layout.layout_of.Goals as goal

pub returns : goal.returns
returns c =
    let clocks = clocks_found c.args.clocks.now in
    let inners = inner_in c.args.inners.now in
    let m = c.args.«module».now in
    let start = ap (λ (s : Slots). record { slots = s; count = 0 }) c.new.ensures in
    c.in_ok-add_locals.ensures
    ∙ ap₂ (λ (k : Laid) (ls : List Local). lay k (flat_map (local_items inners) ls))
    (c.in_ok-add_ports.ensures ∙ ap₂ (λ (k : Laid) (ps : List Port). lay k (flat_map (port_items clocks) ps)) start c.items.ensures) c.items-2.ensures
    ∙ sym (lay_append no_laid (flat_map (port_items clocks) m.ports) (flat_map (local_items inners) m.locals))

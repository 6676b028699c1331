use Rattle.std.proofs.Common.{◌≤◌, ℕ, List, ◌∷◌, length, map, sym, ap, ap₂, ◌∙◌, subst}
use Rattle.std.specs.declared.alloc.Global.{Global}
use Rattle.std.specs.declared.vec.Vec.{Vec}
use Rattle.std.proofs.lemmas.List.{length-map}
use Rattle.lola_tree.specs.declared.module.Port.{Port}
use Rattle.lola_tree.specs.Tree.{module_tree}
use Rattle.lola_flat.specs.Tree.{signal_tree}
use Rattle.lola_unfold.specs.declared.slots.Slots.{Slots as SlotTable}
use Rattle.lola_unfold.specs.declared.part.Part.{Part}
use Rattle.lola_unfold.specs.Tables.{Among, no_clock}
use Rattle.lola_unfold.specs.Offsets.{IsTable, AreTables}
use Rattle.lola_unfold.specs.Parts.{AreParts}
use Rattle.lola_unfold.specs.Root.{first_clock, IsReady}
use Rattle.lola_unfold.proofs.Clockless.{root_clock_is}
use Rattle.lola_unfold.proofs.Rooted.{root_count_is, signals_count}
use Rattle.lola_unfold.proofs.root.root_signals.Goals as goal

pub returns : goal.returns
returns c = λ E is once.
    let m = module_tree c.args.root.now in
    let tables = c.as_slice-tables.result in
    let parts = c.as_slice-parts.result.now in
    let count = c.in_ok-count.count in
    let table = c.in_ok-count.ensures.tables E is.laid in
    let few : count ≤ 65536 = c.if-count-gt65536.false in
    let ready : IsReady tables.now parts c.in_ok-part.part c.number-at.result count E m = record {
      all_tables = subst (λ (ts : List SlotTable). AreTables ts E) (sym c.as_slice-tables.ensures.value) table.all_tables;
      all_parts = subst (λ (ps : List Part). AreParts ps E) (sym (c.as_slice-parts.ensures.value ∙ ap (λ (v : Vec Part Global). v.items) c.add_root.ensures.parts)) is.parts;
      is_part = c.in_ok-part.ensures E is.knows;
      is_at = c.number-at.ensures ∙ ap length c.as_slice.ensures.value ∙ is.laid.table_count;
      table = subst (λ (ts : List SlotTable). IsTable ts (length E) no_clock E m) (sym c.as_slice-tables.ensures.value) table.table;
      counts = table.counts;
      once = once;
    } in
    let signals = c.in_ok-signals.ensures E m ready few in
    record {
      clock_is = c.in_ok-clock.ensures ∙ ap₂ (λ (a : Among) (ps : List Port). first_clock a ps) (c.in_ok-part.ensures E is.knows).clocks c.items.ensures ∙ sym (root_clock_is E m);
      signals_are = signals;
      few =
          let long = sym (length-map c.in_ok-signals.signals.items signal_tree) ∙ signals_count count (m ∷ E) (map signal_tree c.in_ok-signals.signals.items) signals (root_count_is tables parts c.in_ok-part.part c.number-at.result count E m ready few) in
          subst (λ (n : ℕ). n ≤ 65536) (sym long) few;
    }

use Rattle.std.proofs.Common.{ℕ, suc, List, cond, bytes_eq, length, Some, ap, ap₂, ◌∙◌}
use Rattle.lola_bits.proofs.Places.{length_more}
use Rattle.lola_tree.specs.Tree.{module_tree}
use Rattle.lola_unfold.specs.declared.layout.Inner.{Inner}
use Rattle.lola_unfold.specs.Tables.{Among}
use Rattle.lola_unfold.specs.Offsets.{Inners, inner_in, Laid, laid_of}
use Rattle.lola_unfold.proofs.Surveying.{tables_more, inners_more}
use Rattle.lola_unfold.proofs.survey.add_table.Goals as goal

pub returns-clause-laid : goal.returns-clause-laid
returns-clause-laid c = λ E is clocks.
    let m = module_tree c.args.«module».now in
    let old = c.args.survey.now in
    let laid = c.in_ok-layout.ensures ∙ ap₂ (λ (a : Among) (f : Inners). laid_of a f m) clocks is.inners in
    let inner : Inner = record { at = length c.as_slice.result.now; count = c.in_ok-layout.layout.count } in
    let at = ap length c.as_slice.ensures.value ∙ is.table_count in
    let count = ap (λ (l : Laid). l.count) laid in
    record {
      inners = inners_more (inner_in old.inners) (inner_in c.add.new.self) E m inner is.inners
          (λ name. c.in_ok-add.ensures name ∙ ap (λ (n : List ℕ). cond (bytes_eq n name) (Some inner) (inner_in old.inners name)) c.text.ensures)
          (λ i. record { at = at i; count = count i });
      tables = tables_more old.tables.items c.push.new.self.items c.in_ok-layout.layout.slots E m c.in_ok-push.ensures.items is.table_count is.tables (ap (λ (l : Laid). l.slots) laid);
      table_count = ap length c.in_ok-push.ensures.items ∙ length_more old.tables.items c.in_ok-layout.layout.slots ∙ ap suc is.table_count;
    }

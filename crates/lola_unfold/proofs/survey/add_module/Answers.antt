use Rattle.std.proofs.Common.{suc, ◌∷◌, ◌++◌, [], length, sym, ap, ◌∙◌, subst}
use Rattle.std.specs.declared.alloc.Global.{Global}
use Rattle.std.specs.declared.vec.Vec.{Vec}
use Rattle.lola_bits.proofs.Places.{length_more}
use Rattle.lola_tree.specs.Tree.{module_tree}
use Rattle.lola_unfold.specs.declared.known.Known.{Known}
use Rattle.lola_unfold.specs.declared.part.Part.{Part}
use Rattle.lola_unfold.specs.declared.slots.Slots.{Slots as SlotTable}
use Rattle.lola_unfold.specs.Measured.{Knows}
use Rattle.lola_unfold.specs.Offsets.{inner_in, AreTables}
use Rattle.lola_unfold.proofs.Surveying.{parts_more}
use Rattle.lola_unfold.proofs.survey.add_module.Goals as goal

pub returns : goal.returns
returns c = λ E is.
    let m = module_tree c.args.«module».now in
    let part = c.in_ok-part.ensures E is.knows in
    let table = c.in_ok-add_table.ensures in
    let last = c.in_ok-add_part.ensures in
    let laid = table.laid E is.laid part.clocks in
    let more = last.parts ∙ ap (λ (v : Vec Part Global). v.items ++ c.in_ok-part.part ∷ []) table.parts in
    record {
      knows = last.known E (subst (λ (k : Known). Knows k E) (sym table.known) is.knows);
      parts = parts_more c.args.survey.now.parts.items c.add_part.new.survey.parts.items c.in_ok-part.part E m more is.part_count is.parts part;
      part_count = ap length more ∙ length_more c.args.survey.now.parts.items c.in_ok-part.part ∙ ap suc is.part_count;
      laid = record {
        inners = ap inner_in last.inners ∙ laid.inners;
        tables = subst (λ (v : Vec SlotTable Global). AreTables v.items (m ∷ E)) (sym last.tables) laid.tables;
        table_count = ap (λ (v : Vec SlotTable Global). length v.items) last.tables ∙ laid.table_count;
      };
    }

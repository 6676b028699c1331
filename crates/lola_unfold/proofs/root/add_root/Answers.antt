use Rattle.std.proofs.Common.{◌≡◌, ap, ap₂, ◌∙◌}
use Rattle.lola_tree.specs.Tree.{module_tree}
use Rattle.lola_unfold.specs.Tables.{Among, no_clock}
use Rattle.lola_unfold.specs.Offsets.{Inners, Laid, laid_in, inners_in, laid_of}
use Rattle.lola_unfold.proofs.Surveying.{table_there, tables_stay}
use Rattle.lola_unfold.proofs.root.add_root.Goals as goal

pub returns-clause-tables : goal.returns-clause-tables
returns-clause-tables c = λ E is.
    let m = module_tree c.args.root.now in
    let tables = c.args.survey.now.tables.items in
    let more = c.in_ok-push.ensures.items in
    let slots = c.in_ok-layout.layout.slots in
    let laid : laid_in c.in_ok-layout.layout ≡ laid_of no_clock (inners_in E) m = c.in_ok-layout.ensures ∙ ap₂ (λ (a : Among) (f : Inners). laid_of a f m) c.new-shown.ensures is.inners in
    record {
      all_tables = tables_stay tables c.push.new.self.items slots E more is.table_count is.tables;
      table = table_there tables c.push.new.self.items slots E m no_clock more is.table_count (ap (λ (l : Laid). l.slots) laid);
      counts = ap (λ (l : Laid). l.count) laid;
    }

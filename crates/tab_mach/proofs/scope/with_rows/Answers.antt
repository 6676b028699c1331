use Rattle.std.proofs.Common.{◌+◌, ap, sym, subst, ◌∙◌, arith, drop, map}
use Rattle.lola_bits.proofs.All.{all_more}
use Rattle.tab_tree.specs.Table.{let_tree}
use Rattle.tab_tree.specs.declared.value.StateValue.TheVariants.{One}
use Rattle.tab_tree.specs.Names.{mapped, with_name, with_rows}
use Rattle.tab_mach.specs.declared.known.Given.{Given}
use Rattle.tab_mach.specs.Known.{names_of}
use Rattle.tab_mach.specs.Vectors.{AreVectors}
use Rattle.tab_mach.specs.Begun.{AreGiven}
use Rattle.tab_mach.specs.Sound.{AreSound}
use Rattle.tab_mach.proofs.Rows.{names_more, rows_step}
use Rattle.tab_mach.proofs.Sound.{of_vector, with_sound}
use Rattle.tab_mach.proofs.scope.with_rows.Goals as goal

pub loop-row-preserved : goal.loop-row-preserved
loop-row-preserved c =
    let k = c.loop-row.known in
    let row = c.row-item.result in
    let value = c.vector_in-value.result in
    let items = c.in_ok-push.ensures.items in
    let more = names_more k c.push.new.self.items _ items in
    record {
      value =
          ap (with_rows (map let_tree (drop (c.loop-row.row-index + 1) c.args.rows.now))) (more ∙ ap (λ v. with_name (names_of k) row.name (mapped One v)) c.vector_in-value.ensures.value)
          ∙ sym (rows_step c.args.rows.now c.loop-row.row-index row (omega arith) c.row-item.is (names_of k))
          ∙ c.loop-row.invariant.value;
      sound = subst AreSound (sym more) (with_sound (names_of k) c.loop-row.invariant.sound row.name (mapped One value) (of_vector value c.vector_in-value.ensures.fits));
      base = c.loop-row.invariant.base;
      given = λ h. subst AreGiven (sym items) (all_more (λ (f : Given). AreVectors f.value) k.lets.items _ (c.loop-row.invariant.given h) c.vector_in-value.ensures.fits);
    }

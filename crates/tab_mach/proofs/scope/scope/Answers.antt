use Rattle.std.proofs.Common.{ap, sym, subst, ◌∙◌, map, List}
use Rattle.std.specs.List.{AllByRecursion}
use Rattle.std.proofs.lemmas.Result.{IfOk-weaker}
use Rattle.tab_tree.specs.declared.table.LetRow.{LetRow}
use Rattle.tab_tree.specs.declared.value.StateValue.{StateValue}
use Rattle.tab_tree.specs.Table.{let_tree, state_tree}
use Rattle.tab_tree.specs.declared.value.StateValue.TheVariants.{One}
use Rattle.tab_tree.specs.Names.{Names, mapped, with_rows}
use Rattle.tab_tree.specs.Step.{counted, first_of, state_value, field_values}
use Rattle.tab_mach.specs.Known.{slot}
use Rattle.tab_mach.specs.Vectors.{AreVectors}
use Rattle.tab_mach.specs.Begun.{AreGiven, table_of}
use Rattle.tab_mach.proofs.Rows.{names_with, names_by, slots_by, named_by}
use Rattle.tab_mach.proofs.Sound.{of_vector, slot_sound, last_sound, named_sound}
use Rattle.tab_mach.proofs.scope.scope.Goals as goal

pub with_rows-requires : goal.with_rows-requires
with_rows-requires c = record {
  word = c.requires.begun.word;
  count = of_vector c.count_vector.result c.count_vector.ensures.fits;
  loaded = slot_sound c.as_slice.result.now (subst (AllByRecursion AreVectors) (sym c.as_slice.ensures.value) c.requires.words.loaded);
  turned = slot_sound c.as_slice-2.result.now (subst (AllByRecursion AreVectors) (sym c.as_slice-2.ensures.value) c.requires.words.turned);
  named = λ name. last_sound c.new.result.items (subst AreGiven (sym c.new.ensures.items) tt) name _
      (named_sound (map state_tree c.items.result.now) c.args.begun.now.arch.now c.args.begun.now.fields.now c.requires.begun.arch c.requires.begun.given name);
  register = λ path. tt;
}

pub returns-clause-value : goal.returns-clause-value
returns-clause-value c =
    let g = c.args.begun.now in
    let T = table_of g in
    let names = names_by g.word _ _ _ _ _ _ _ _ c.count_vector.ensures.value
    (slots_by c.as_slice.result.now c.args.kept.now.loaded.items c.as_slice.ensures.value)
    (slots_by c.as_slice-2.result.now c.args.kept.now.turned.items c.as_slice-2.ensures.value)
    (named_by T g.arch.now g.word c.items.result.now g.fields.now c.new.result.items (ap (map state_tree) c.items.ensures) c.requires.begun.fields c.new.ensures.items) in
    let base : Names StateValue = names_with g.word (counted c.args.count) (λ j. mapped One (slot c.args.kept.now.loaded.items j)) (λ j. mapped One (slot c.args.kept.now.turned.items j))
    (λ name. first_of (state_value T.states g.arch.now name) (field_values T g.word name)) in
    IfOk-weaker c.with_rows.result _ _ (λ k is. is ∙ ap (with_rows (map let_tree c.items-2.result.now)) names ∙ ap (λ (rows : List LetRow). with_rows (map let_tree rows) base) c.items-2.ensures) c.with_rows.ensures.value

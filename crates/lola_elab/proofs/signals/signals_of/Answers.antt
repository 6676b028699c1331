use Rattle.std.proofs.Common.{◌+◌, ◌≤◌, List, ℕ, None, length, map, sym, ◌∙◌, ap, ap₂, subst, arith}
use Rattle.std.specs.BTreeMap.{get_by_text}
use Rattle.std.proofs.lemmas.Bool.{iff_false}
use Rattle.lola_tree.specs.declared.module.Port.{Port}
use Rattle.lola_tree.specs.declared.module.Const.{Const}
use Rattle.lola_tree.specs.declared.module.Local.{Local}
use Rattle.lola_tree.specs.Tree.{module_tree}
use Rattle.lola_elab.specs.declared.vector.Vector.{Vector}
use Rattle.lola_elab.specs.Tables.{updated, leaf_entries}
use Rattle.lola_elab.specs.Small.{Wide, wide_in}
use Rattle.lola_elab.specs.Declares.{names_in, first_clock, sized, sized_local, inputs_under, wide_of, const_entry, IsDeclaredUnder}
use Rattle.lola_elab.proofs.WellDeclared.{declared_of}
use Rattle.lola_elab.proofs.Declared.{constants_wide, distinct_entries, few_vectors}
use Rattle.lola_elab.proofs.signals.signals_of.Goals as goal

pub returns-then-not-branch-clause-none : goal.returns-then-not-branch-clause-none
returns-then-not-branch-clause-none c = λ was small.
    let m = module_tree c.args.root.now in
    let clock = c.first_clock-clock.ensures ∙ ap first_clock c.items.ensures in
    let wide = constants_wide m (get_by_text c.in-Ok.constants) c.items-2.result.now small.distinct small.constants c.items-2.ensures c.in-Ok.ensures.entered in
    iff_false c.in_ok-is_declared_under.ensures c.if-not-branch.true
    (subst (λ (w : Wide). IsDeclaredUnder w (names_in c.first_clock-clock.result) m) (sym wide) (subst (λ (k : List (List ℕ)). IsDeclaredUnder (wide_in m) k m) (sym clock) (declared_of m small)))

pub leaf_names-requires : goal.leaf_names-requires
leaf_names-requires c =
    let d = c.in_ok-is_declared_under.ensures.0 c.if-not-branch.false in
    let ports = ap (λ (l : List Port). length l) c.items-3.ensures in
    let locals = ap (λ (l : List Local). length l) c.items-4.ensures in
    let few : length c.items-3.result.now + length c.items-4.result.now ≤ 65536 = omega (arith, d.few_signals, ports, locals) in
    let n = few_vectors (wide_of (get_by_text c.in-Ok.constants)) (names_in c.first_clock-clock.result) c.items-3.result.now c.items-4.result.now c.in_ok-inputs.inputs.items c.in_ok-registers.registers.items
    c.in_ok-inputs.ensures c.in_ok-registers.ensures few in
    let inputs = ap (λ (l : List Vector). length l) c.as_slice.ensures.value in
    let registers = ap (λ (l : List Vector). length l) c.as_slice-2.ensures.value in
    omega (arith, n, inputs, registers)

pub returns-clause-ok : goal.returns-clause-ok
returns-clause-ok c =
    let m = module_tree c.args.root.now in
    let d = c.in_ok-is_declared_under.ensures.0 c.if-not-branch.false in
    let clock = c.first_clock-clock.ensures ∙ ap first_clock c.items.ensures in
    let wide = constants_wide m (get_by_text c.in-Ok.constants) c.items-2.result.now (distinct_entries m d.distinct) d.constants c.items-2.ensures c.in-Ok.ensures.entered in
    record {
      declared = subst (λ (w : Wide). IsDeclaredUnder w (first_clock m.locals) m) wide (subst (λ (k : List (List ℕ)). IsDeclaredUnder (wide_of (get_by_text c.in-Ok.constants)) k m) clock d);
      inputs = c.in_ok-inputs.ensures ∙ ap (λ (w : Wide). inputs_under w (names_in c.first_clock-clock.result) c.items-3.result.now) wide
          ∙ ap₂ (λ (k : List (List ℕ)) (ps : List Port). inputs_under (wide_in m) k ps) clock c.items-3.ensures;
      registers = c.in_ok-registers.ensures ∙ ap (λ (w : Wide). map (sized_local w) c.items-4.result.now) wide ∙ ap (λ (ls : List Local). map (sized_local (wide_in m)) ls) c.items-4.ensures;
      names = λ q. c.in_ok-names.ensures q
          ∙ ap₂ (λ (is rs : List Vector). updated (leaf_entries (length is) (map sized rs)) q (updated (leaf_entries 0 (map sized is)) q (get_by_text c.in-Ok.constants q))) c.as_slice.ensures.value c.as_slice-2.ensures.value
          ∙ ap (λ x. updated (leaf_entries (length c.in_ok-inputs.inputs.items) (map sized c.in_ok-registers.registers.items)) q (updated (leaf_entries 0 (map sized c.in_ok-inputs.inputs.items)) q x))
          (c.in-Ok.ensures.entered q ∙ ap (λ (ks : List Const). updated (map const_entry ks) q None) c.items-2.ensures);
    }

use Rattle.std.proofs.Common.{◌≡◌, ◌+◌, ◌-◌, ℕ, List, drop, IfOk, Err, sym, ◌∙◌, ap, subst, arith}
use Rattle.std.specs.BTreeMap.{get_by_text}
use Rattle.std.proofs.Math.Seq.{drop-length}
use Rattle.lola_tree.specs.declared.expr.Part.{Part}
use Rattle.lola_tree.specs.Tree.{tree, Tree, concat, parts_tree}
use Rattle.lola_tree.proofs.Parts.{concat_tree}
use Rattle.lola_elab.specs.declared.fault.ElabError.{ElabError}
use Rattle.lola_elab.specs.declared.fault.ElabError.TheVariants.{NotBuilt}
use Rattle.lola_elab.specs.declared.flatten.Typed.{Typed}
use Rattle.lola_elab.specs.Meanings.{IsFlatOf, HasNoFlat, ArePartsFlat}
use Rattle.lola_elab.proofs.FlatParts.{none_at, no_value}
use Rattle.lola_elab.proofs.flatten.+flat.Goals as goal

pub concat_flat-loop-left-init : goal.concat_flat-loop-left-init
concat_flat-loop-left-init t c = record {
  flat =
      subst (λ (ps : List Part). ArePartsFlat (get_by_text c.args.names.now) (parts_tree ps) c.no_part-behind.result.flat c.no_part-behind.result.width)
      (sym (drop-length c.args.parts.now)) (c.no_part-behind.ensures.flat (get_by_text c.args.names.now));
  at_most = let w : c.no_part-behind.result.width ≡ 0 = c.no_part-behind.ensures.width in omega arith;
}

pub concat_flat-returns-in-Err-clause-none : goal.concat_flat-returns-in-Err-clause-none
concat_flat-returns-in-Err-clause-none t c = λ was at.
    let fault : c.in-Err.fault ≡ NotBuilt = cc in
    let x = c.index-parts-left.result in
    none_at (get_by_text c.args.names.now) c.args.parts.now (c.loop-left.left - 1) x at (omega arith) c.index-parts-left.is
    (no_value (get_by_text c.args.names.now) (tree x.value) x.times (parts_tree (drop (c.loop-left.left - 1 + 1) c.args.parts.now)) (c.in-Err.ensures.none (ap (λ (e : ElabError). Err e) fault)))

pub concat_flat-returns-in-Err-before-clause-none : goal.concat_flat-returns-in-Err-before-clause-none
concat_flat-returns-in-Err-before-clause-none t c = λ was at.
    let fault : c.in-Err-before.fault ≡ NotBuilt = cc in
    let x = c.index-parts-left.result in
    let back : c.loop-left.left ≡ c.loop-left.left - 1 + 1 = omega arith in
    none_at (get_by_text c.args.names.now) c.args.parts.now (c.loop-left.left - 1) x at (omega arith) c.index-parts-left.is
    (c.in-Err-before.ensures.none (ap (λ (e : ElabError). Err e) fault) (get_by_text c.args.names.now) (tree x.value) x.times (parts_tree (drop (c.loop-left.left - 1 + 1) c.args.parts.now))
    (sym c.count_of.ensures) c.in-Ok.ensures.ok
    (subst (λ (n : ℕ). ArePartsFlat (get_by_text c.args.names.now) (parts_tree (drop n c.args.parts.now)) c.loop-left.behind.flat c.loop-left.behind.width) back c.loop-left.invariant.flat))

pub concat_flat-returns-clause-none : goal.concat_flat-returns-clause-none
concat_flat-returns-clause-none t c = λ was at.
    let front : c.loop-left.left ≡ 0 = omega arith in
    c.joined.ensures.none was (get_by_text c.args.names.now) (parts_tree c.args.parts.now) at
    (subst (λ (n : ℕ). ArePartsFlat (get_by_text c.args.names.now) (parts_tree (drop n c.args.parts.now)) c.loop-left.behind.flat c.loop-left.behind.width) front c.loop-left.invariant.flat)

pub flat_of-returns-in-Number-clause-none : goal.flat_of-returns-in-Number-clause-none
flat_of-returns-in-Number-clause-none t c = λ was. rw c.in-Number.is (c.number_flat.ensures.none was (get_by_text c.args.names.now) c.in-Number.at)

pub flat_of-returns-in-Bit-clause-none : goal.flat_of-returns-in-Bit-clause-none
flat_of-returns-in-Bit-clause-none t c = λ was. rw c.in-Bit.is (c.bit_flat.ensures.none was c.in-Bit.at)

pub flat_of-returns-in-Slice-clause-none : goal.flat_of-returns-in-Slice-clause-none
flat_of-returns-in-Slice-clause-none t c = λ was. rw c.in-Slice.is (c.slice_flat.ensures.none was c.in-Slice.at)

pub flat_of-returns-in-Concat-clause-ok : goal.flat_of-returns-in-Concat-clause-ok
flat_of-returns-in-Concat-clause-ok t c =
    let e : tree c.args.expr.now ≡ concat (parts_tree c.items.result.now) c.in-Concat.at =
    ap tree c.in-Concat.is ∙ concat_tree c.in-Concat.parts c.in-Concat.at ∙ ap (λ (ps : List Part). concat (parts_tree ps) c.in-Concat.at) (sym c.items.ensures) in
    subst (λ (x : Tree). IfOk c.concat_flat.result (λ (t : Typed). IsFlatOf (get_by_text c.args.names.now) x t.flat t.width)) (sym e) (c.concat_flat.ensures.ok c.in-Concat.at)

pub flat_of-returns-in-Concat-clause-none : goal.flat_of-returns-in-Concat-clause-none
flat_of-returns-in-Concat-clause-none t c = λ was.
    let e : tree c.args.expr.now ≡ concat (parts_tree c.items.result.now) c.in-Concat.at =
    ap tree c.in-Concat.is ∙ concat_tree c.in-Concat.parts c.in-Concat.at ∙ ap (λ (ps : List Part). concat (parts_tree ps) c.in-Concat.at) (sym c.items.ensures) in
    subst (λ (x : Tree). HasNoFlat (get_by_text c.args.names.now) x) (sym e) (c.concat_flat.ensures.none was c.in-Concat.at)

pub flat_of-returns-in-Ok-flat_of-2-clause-none : goal.flat_of-returns-in-Ok-flat_of-2-clause-none
flat_of-returns-in-Ok-flat_of-2-clause-none t c = λ was.
    rw (c.in-Binary.is, ← c.deref-in-Binary.ensures, ← c.deref-in-Binary-2.ensures)
    (c.both_flat.ensures.none was (get_by_text c.args.names.now) (tree c.deref-in-Binary.result.now) (tree c.deref-in-Binary-2.result.now) c.in-Binary.at c.in-Ok-flat_of.ensures.ok c.in-Ok-flat_of-2.ensures.ok)

pub flat_of-returns-in-Ok-flat_of-5-clause-none : goal.flat_of-returns-in-Ok-flat_of-5-clause-none
flat_of-returns-in-Ok-flat_of-5-clause-none t c = λ was.
    rw (c.in-Choice.is, ← c.deref-in-Choice.ensures, ← c.deref-in-Choice-2.ensures, ← c.deref-in-Choice-3.ensures)
    (c.choice_flat.ensures.none was (get_by_text c.args.names.now) (tree c.deref-in-Choice.result.now) (tree c.deref-in-Choice-2.result.now) (tree c.deref-in-Choice-3.result.now) c.in-Choice.at
    c.in-Ok-flat_of-3.ensures.ok c.in-Ok-flat_of-4.ensures.ok c.in-Ok-flat_of-5.ensures.ok)

use Rattle.std.proofs.Common.{◌≡◌, ◌+◌, drop, ap, ap₂, sym, ◌∙◌, refl, arith}
use Rattle.std.proofs.lemmas.List.{drop_more}
use Rattle.lola_tree.specs.Tree.{tree, parts_tree, concat, one_part}
use Rattle.lola_tree.proofs.Parts.{concat_tree}
use Rattle.tab_tree.specs.Names.{table_vector, look, fixed}
use Rattle.tab_mach.specs.Known.{names_of, parts_run}
use Rattle.tab_mach.specs.Vectors.{joined_run, repeated_run, whole_run, element_at}
use Rattle.tab_mach.proofs.Means.{bit_means, slice_means, index_means, both_means, concat_means, part_means, runs_of_three}
use Rattle.tab_mach.proofs.evaluate.+evaluate.Goals as goal

pub evaluate-returns-in-Bit-clause-value : goal.evaluate-returns-in-Bit-clause-value
evaluate-returns-in-Bit-clause-value t c =
    rw (c.bit_taken.ensures.value, c.read-in-Bit.ensures.value, c.fixed.ensures, c.in-Bit.is) (bit_means (names_of c.args.known.now) c.in-Bit.of c.in-Bit.index c.in-Bit.at)

pub evaluate-returns-in-Slice-clause-value : goal.evaluate-returns-in-Slice-clause-value
evaluate-returns-in-Slice-clause-value t c =
    rw (c.slice_taken.ensures.value, c.read-in-Slice.ensures.value, c.fixed-in-Slice.ensures, c.fixed-in-Slice-2.ensures, c.in-Slice.is) (slice_means (names_of c.args.known.now) c.in-Slice.of c.in-Slice.high c.in-Slice.low c.in-Slice.at)

pub evaluate-returns-in-Index-clause-value : goal.evaluate-returns-in-Index-clause-value
evaluate-returns-in-Index-clause-value t c =
    let names = names_of c.args.known.now in
    c.indexed.ensures.value
    ∙ ap (element_at (look names c.in-Index.of)) (c.evaluate-place.ensures.value ∙ ap (λ e. table_vector names (tree e)) c.deref.ensures)
    ∙ index_means names c.in-Index.of (tree c.in-Index.place.value) c.in-Index.at
    ∙ ap (λ e. table_vector names (tree e)) (sym c.in-Index.is)

pub evaluate-returns-in-Concat-clause-value : goal.evaluate-returns-in-Concat-clause-value
evaluate-returns-in-Concat-clause-value t c =
    let e : tree c.args.expr.now ≡ concat (parts_tree c.items.result.now) c.in-Concat.at =
    ap tree c.in-Concat.is ∙ concat_tree c.in-Concat.parts c.in-Concat.at ∙ ap (λ ps. concat (parts_tree ps) c.in-Concat.at) (sym c.items.ensures) in
    c.whole_run.ensures.value ∙ ap whole_run c.evaluate_parts.ensures.value ∙ concat_means (names_of c.args.known.now) (parts_tree c.items.result.now) c.in-Concat.at
    ∙ ap (table_vector (names_of c.args.known.now)) (sym e)

pub evaluate-returns-in-Binary-clause-value : goal.evaluate-returns-in-Binary-clause-value
evaluate-returns-in-Binary-clause-value t c =
    rw (c.both.ensures.value, c.evaluate-left.ensures.value, c.evaluate-right.ensures.value, c.deref-in-Binary.ensures, c.deref-in-Binary-2.ensures, c.in-Binary.is)
    (both_means (names_of c.args.known.now) c.in-Binary.op (tree c.in-Binary.left.value) (tree c.in-Binary.right.value) c.in-Binary.at)

pub evaluate_parts-loop-part-preserved : goal.evaluate_parts-loop-part-preserved
evaluate_parts-loop-part-preserved t c =
    let names = names_of c.args.known.now in
    let cut = drop_more c.args.parts.now c.loop-part.part-index c.part-item.result (omega arith) in
    let item = c.part-item.result in
    let rest = parts_tree (drop (c.loop-part.part-index + 1) c.args.parts.now) in
    let left : parts_tree (drop c.loop-part.part-index c.args.parts.now) ≡ one_part (tree item.value) item.times rest = rw (cut, ← c.part-item.is) refl in
    record {
      value =
          ap (λ r. joined_run r (parts_run names rest))
          (c.joined_run-run.ensures.value ∙ ap (joined_run c.loop-part.run) (c.repeated.ensures.value ∙ ap₂ repeated_run c.evaluate-value.ensures.value c.fixed.ensures))
          ∙ runs_of_three c.loop-part.run (repeated_run (table_vector names (tree item.value)) (fixed item.times)) (parts_run names rest)
          ∙ ap (joined_run c.loop-part.run) (part_means names (tree item.value) item.times rest ∙ ap (parts_run names) (sym left))
          ∙ c.loop-part.invariant.value;
      fits = c.joined_run-run.ensures.fits;
    }

use Rattle.std.proofs.Common.{◌+◌, ◌∙◌, ap, false, length, map, drop}
use Rattle.std.specs.Prelude.{slice_index_or}
use Rattle.lola_bits.specs.BitLists.{number_of}
use Rattle.lola_elab.specs.declared.flat.Flat.{Flat}
use Rattle.lola_elab.specs.Elaborated.{vector_widths}
use Rattle.lola_elab.specs.Flat.{flat_width, flat_number}
use Rattle.lola_app.specs.Trial.{seen}
use Rattle.lola_app.proofs.Trying.{not_one, some_left, next_at, next_behind, next_passed}
use Rattle.lola_app.proofs.cycle.next_bit.Goals as goal
use Rattle.lola_app.proofs.cycle.next_bit.Goals.{then-register-eq1+else-left-eq0, else-register-eq1}

pub loop-place-preserved : goal.loop-place-preserved
loop-place-preserved c =
    let wide = flat_width (map length c.args.vectors.now) in
    let value = λ (f : Flat). flat_number (map length c.args.vectors.now) f (map number_of c.args.vectors.now) in
    let registers = c.args.registers.now in
    let nexts = c.args.nexts.now in
    let place = c.loop-place.place in
    let next = next_at wide value registers nexts place c.index-registers-place.result c.loop-place-test.true c.index-registers-place.is c.loop-place.invariant.wide in
    elim c.if-register-eq1.branch [
      | then-register-eq1+else-left-eq0 w ↦ record {
        wide = next.later;
        same = ap (λ n. slice_index_or (seen (vector_widths (drop (place + 1) registers)) (map value (drop (place + 1) nexts))) n false) w.left-is
            ∙ next_behind wide value registers nexts place c.loop-place.left c.index-registers-place.result c.loop-place-test.true c.index-registers-place.is c.loop-place.invariant.wide
            w.if-register-eq1.true (some_left c.loop-place.left w.if-left-eq0.false)
            ∙ c.loop-place.invariant.same;
      }
      | else-register-eq1 w ↦ record {
        wide = next.later;
        same = ap (λ n. slice_index_or (seen (vector_widths (drop (place + 1) registers)) (map value (drop (place + 1) nexts))) n false) w.left-is
            ∙ next_passed wide value registers nexts place c.loop-place.left c.index-registers-place.result c.loop-place-test.true c.index-registers-place.is c.loop-place.invariant.wide
            (not_one c.index-registers-place.result.width w.if-register-eq1.false)
            ∙ c.loop-place.invariant.same;
      }
    ]

use Rattle.std.proofs.Common.{◌≡◌, ◌-◌, ◌∙◌, ℕ, List, Bool, false, ◌++◌, ap, ap₂, sym, length, map, take}
use Rattle.std.specs.Prelude.{min, slice_index_or}
use Rattle.lola_bits.specs.BitLists.{number_of}
use Rattle.lola_elab.specs.declared.flat.Flat.{Flat}
use Rattle.lola_elab.specs.Elaborated.{vector_widths, leaf_widths}
use Rattle.lola_elab.specs.Flat.{flat_number}
use Rattle.lola_app.specs.Trial.{seen, next_numbers, leaves_before}
use Rattle.lola_app.proofs.Trying.{behind_inputs}
use Rattle.lola_app.proofs.cycle.leaf_after.Goals as goal

pub returns : goal.returns
returns c =
    let subject = c.args.subject.now in
    let vectors = c.args.vectors.now in
    let numbers = map number_of vectors in
    let k = length subject.claim.face.inputs.items in
    let sized : map length vectors ≡ leaf_widths subject.design = c.requires.sized ∙ c.requires.triable.widths in
    let seen_before : c.args.before.now ≡ leaves_before subject numbers = c.requires.before ∙ ap (λ (ws : List ℕ). seen ws numbers) sized in
    let inputs : c.min-inputs.result ≡ min k (length c.args.before.now) = c.min-inputs.ensures ∙ ap (λ xs. min (length xs) (length c.args.before.now)) c.as_slice.ensures.value in
    let left = c.args.leaf - c.min-inputs.result in
    c.in_ok-bit.ensures
    ∙ ap₂ (λ registers nexts. slice_index_or (seen (vector_widths registers) (map (λ (f : Flat). flat_number (map length vectors) f numbers) nexts)) left false) c.as_slice-2.ensures.value c.as_slice-3.ensures.value
    ∙ ap (λ (ws : List ℕ). slice_index_or (seen (vector_widths subject.design.registers.items) (map (λ (f : Flat). flat_number ws f numbers) subject.design.nexts.items)) left false) sized
    ∙ sym (behind_inputs k c.args.before.now (seen (vector_widths subject.design.registers.items) (next_numbers subject numbers)) c.args.leaf c.min-inputs.result inputs c.if-leaf-inputs.false)
    ∙ ap (λ (bs : List Bool). slice_index_or (take k bs ++ seen (vector_widths subject.design.registers.items) (next_numbers subject numbers)) c.args.leaf false) seen_before

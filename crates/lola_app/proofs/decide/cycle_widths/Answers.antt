use Rattle.std.proofs.Common.{◌≡◌, ℕ, List, ◌++◌, ◌+◌, ap, ap₂, ◌∙◌, take, drop, length}
use Rattle.std.specs.Prelude.{min}
use Rattle.lola_elab.specs.declared.vector.Vector.{Vector}
use Rattle.lola_elab.specs.Elaborated.{vector_widths}
use Rattle.lola_app.proofs.Printed.{take_min, drop_min, map_take, map_drop, three_parts}
use Rattle.lola_app.proofs.decide.cycle_widths.Goals as goal

pub returns : goal.returns
returns c =
    let inputs = c.args.subject.now.design.inputs.items in
    let reset = c.args.subject.now.reset in
    let slice : c.as_slice-inputs.result.now ≡ inputs = c.as_slice-inputs.ensures.value in
    let count : c.min.result ≡ min reset (length inputs) = c.min.ensures ∙ ap (λ xs. min reset (length xs)) slice in
    let front : vector_widths c.split_at.result.0.now ≡ take reset (vector_widths inputs) =
    ap vector_widths (c.split_at.ensures.front ∙ ap₂ (λ n xs. take n xs) count slice ∙ take_min reset inputs) ∙ map_take (λ (v : Vector). v.width) reset inputs in
    let back : vector_widths c.behind_first.result.now ≡ drop (reset + 1) (vector_widths inputs) =
    ap vector_widths (c.behind_first.ensures ∙ ap (λ xs. drop 1 xs) (c.split_at.ensures.back ∙ ap₂ (λ n xs. drop n xs) count slice) ∙ drop_min reset inputs) ∙ map_drop (λ (v : Vector). v.width) (reset + 1) inputs in
    three_parts (take reset (vector_widths inputs)) (drop (reset + 1) (vector_widths inputs)) (vector_widths c.args.subject.now.design.registers.items) _ _ _
    (c.in_ok-add_widths.ensures ∙ ap₂ (λ (xs ys : List ℕ). xs ++ ys) c.new-widths.ensures.items front)
    (c.in_ok-add_widths-2.ensures ∙ ap (λ (ys : List ℕ). c.add_widths.new.widths.items ++ ys) back)
    (c.in_ok-add_widths-3.ensures ∙ ap (λ xs. c.add_widths-2.new.widths.items ++ vector_widths xs) c.as_slice.ensures.value)

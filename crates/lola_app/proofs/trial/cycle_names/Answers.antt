use Rattle.std.proofs.Common.{◌≡◌, ℕ, List, ◌++◌, ◌+◌, ap, ap₂, ◌∙◌, map, take, drop, length, string_bytes, codes}
use Rattle.std.specs.Prelude.{min}
use Rattle.lola_elab.specs.declared.vector.Vector.{Vector}
use Rattle.lola_elab.specs.Elaborated.{vector_names}
use Rattle.lola_app.proofs.Printed.{take_min, drop_min, map_take, map_drop, three_lists}
use Rattle.lola_app.proofs.trial.cycle_names.Goals as goal

pub returns : goal.returns
returns c =
    let inputs = c.args.subject.now.design.inputs.items in
    let reset = c.args.subject.now.reset in
    let slice : c.as_slice-inputs.result.now ≡ inputs = c.as_slice-inputs.ensures.value in
    let count : c.min.result ≡ min reset (length inputs) = c.min.ensures ∙ ap (λ xs. min reset (length xs)) slice in
    let front : vector_names c.split_at.result.0.now ≡ take reset (vector_names inputs) =
    ap vector_names (c.split_at.ensures.front ∙ ap₂ (λ n xs. take n xs) count slice ∙ take_min reset inputs) ∙ map_take (λ (v : Vector). string_bytes v.name) reset inputs in
    let back : vector_names c.behind_first.result.now ≡ drop (reset + 1) (vector_names inputs) =
    ap vector_names (c.behind_first.ensures ∙ ap (λ xs. drop 1 xs) (c.split_at.ensures.back ∙ ap₂ (λ n xs. drop n xs) count slice) ∙ drop_min reset inputs) ∙ map_drop (λ (v : Vector). string_bytes v.name) (reset + 1) inputs in
    three_lists (λ (name : List ℕ). codes "@" ++ name) (take reset (vector_names inputs)) (drop (reset + 1) (vector_names inputs)) (vector_names c.args.subject.now.design.registers.items)
    _ _ _
    (c.in_ok-add_names.ensures ∙ ap₂ (λ (xs ys : List (List ℕ)). xs ++ map (λ (name : List ℕ). codes "@" ++ name) ys) (ap (map string_bytes) c.new-names.ensures.items) front)
    (c.in_ok-add_names-2.ensures ∙ ap (λ (ys : List (List ℕ)). map string_bytes c.add_names.new.names.items ++ map (λ (name : List ℕ). codes "@" ++ name) ys) back)
    (c.in_ok-add_names-3.ensures ∙ ap (λ xs. map string_bytes c.add_names-2.new.names.items ++ map (λ (name : List ℕ). codes "@" ++ name) (vector_names xs)) c.as_slice.ensures.value)

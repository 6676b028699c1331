-- What is made, step by step.
use Rattle.std.proofs.Common.{◌≡◌, ℕ, suc, ◌+◌, List, ◌∷◌, drop, slice_get, Option, Some, sym, ap, ◌∙◌, arith}
use Rattle.lola_bits.proofs.Places.{drop_found}
use Rattle.veri_read.specs.declared.literal.Declared.{Declared}
use Rattle.veri_read.specs.Tables.{Names}
use Rattle.veri_read.specs.Made.{Made, with_input, with_inputs, with_register, with_registers}

-- what is left begins with the item here
pub left_here : {X : Type 0} (xs : List X) (n : ℕ) (x : X) → slice_get xs n ≡ Some x → drop n xs ≡ x ∷ drop (n + 1) xs
left_here {X = X} xs n x at = let e : suc n ≡ n + 1 = omega arith in drop_found xs n x at ∙ ap (λ k. x ∷ drop k xs) e

pub inputs_step : (clock : Option (List ℕ)) (m next end : Made) (ds : Names Declared) (n : ℕ) (d : List ℕ × Declared) → slice_get ds n ≡ Some d → next ≡ with_input clock m d → with_inputs clock m (drop n ds) ≡ end →
    with_inputs clock next (drop (n + 1) ds) ≡ end
inputs_step clock m next end ds n d at is so = ap (λ (x : Made). with_inputs clock x (drop (n + 1) ds)) is ∙ sym (ap (with_inputs clock m) (left_here ds n d at)) ∙ so

pub registers_step : (m next end : Made) (ds : Names Declared) (n : ℕ) (d : List ℕ × Declared) → slice_get ds n ≡ Some d → next ≡ with_register m d → with_registers m (drop n ds) ≡ end →
    with_registers next (drop (n + 1) ds) ≡ end
registers_step m next end ds n d at is so = ap (λ (x : Made). with_registers x (drop (n + 1) ds)) is ∙ sym (ap (with_registers m) (left_here ds n d at)) ∙ so

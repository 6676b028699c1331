-- Vectors one behind another: how long they are, and their number.
use Rattle.std.proofs.Common.{◌≡◌, ℕ, ◌+◌, ◌*◌, ◌^◌, Bool, List, [], ◌∷◌, length, map, refl, ap, ap₂, ◌∙◌, arith, mul_comm}
use Rattle.std.proofs.lemmas.List.{length-append, length-map, map-append}
use Rattle.lola_bits.specs.BitLists.{number_of}
use Rattle.lola_bits.proofs.BitLists.{number_append}
use Rattle.lola_flat.specs.Value.{sum_of, joined_all}
use Rattle.lola_eval.specs.Steps.{joined_bits}

pub joined_long : {B : Type 0} (xs : List (List B)) → length (joined_bits xs) ≡ sum_of (map length xs)
joined_long [] = refl
joined_long (x ∷ xs) = let h = joined_long xs in let l = length-append (joined_bits xs) x in omega arith

pub joined_number : {B : Type 0} (f : B → Bool) (xs : List (List B)) → number_of (map f (joined_bits xs)) ≡ joined_all (map length xs) (map (λ x. number_of (map f x)) xs)
joined_number f [] = refl
joined_number f (x ∷ xs) =
    let h = joined_number f xs in
    let long : length (map f (joined_bits xs)) ≡ sum_of (map length xs) = length-map (joined_bits xs) f ∙ joined_long xs in
    ap number_of (map-append f (joined_bits xs) x) ∙ number_append (map f (joined_bits xs)) (map f x)
    ∙ ap₂ (λ a k. a + 2 ^ k * number_of (map f x)) h long ∙ turned (joined_all (map length xs) (map (λ x. number_of (map f x)) xs)) (2 ^ sum_of (map length xs)) (number_of (map f x))
  where
    turned : (a p n : ℕ) → a + p * n ≡ n * p + a
    turned a p n = let h = mul_comm p n in omega arith

-- The vectors of one bit of a list, one by one.
use Rattle.std.proofs.Common.{◌≡◌, ℕ, ◌+◌, ◌<◌, true, List, ◌∷◌, length, drop, get_or, Some, refl, sym, ap, ◌∙◌}
use Rattle.std.specs.Prelude.{nat_eq, string_bytes, slice_get}
use Rattle.std.specs.Option.{option_map}
use Rattle.std.proofs.lemmas.Option.{slice_get_read, slice_get-map}
use Rattle.lola_bits.specs.Lists.{IsAt}
use Rattle.lola_bits.proofs.Places.{drop_item}
use Rattle.lola_elab.specs.declared.vector.Vector.{Vector}
use Rattle.lola_elab.specs.Elaborated.{vector_widths}
use Rattle.lola_app.specs.Vectors.{bit_names}

-- one more of them
pub one_more_bit : (vs : List Vector) (i : ℕ) (v : Vector) → i < length vs → v ≡ get_or vs i v → v.width ≡ 1 → bit_names (drop i vs) ≡ string_bytes v.name ∷ bit_names (drop (i + 1) vs)
one_more_bit vs i v within is one =
    let on : nat_eq v.width 1 ≡ true = ap (λ (n : ℕ). nat_eq n 1) one in
    let step : bit_names (v ∷ drop (i + 1) vs) ≡ string_bytes v.name ∷ bit_names (drop (i + 1) vs) = rw on refl in
    ap bit_names (drop_item vs i v within is) ∙ step

-- the first of them, and its width
pub at_head : (names : List (List ℕ)) (x name : List ℕ) (rest : List (List ℕ)) → names ≡ x ∷ rest → IsAt names 0 name → x ≡ name
at_head names x name rest e at = let f : Some x ≡ Some name = ap (λ (ns : List (List ℕ)). slice_get ns 0) (sym e) ∙ at in cc

pub width_at : (vs : List Vector) (i : ℕ) (v : Vector) → i < length vs → v ≡ get_or vs i v → v.width ≡ 1 → slice_get (vector_widths vs) i ≡ Some 1
width_at vs i v within is one =
    slice_get-map (λ (w : Vector). w.width) vs i ∙ ap (option_map (λ (w : Vector). w.width)) (slice_get_read vs (length vs) i v refl within is) ∙ ap (λ (n : ℕ). Some n) one

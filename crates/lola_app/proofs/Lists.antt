-- Lists of named obligations, put together.
use Rattle.std.proofs.Common.{◌≡◌, ℕ, List, [], ◌∷◌, ◌++◌, ap, ap₂, ◌∙◌, append_assoc}
use Rattle.lola_app.specs.declared.obligation.Which.{Which}
use Rattle.lola_app.specs.Listing.{Named}

-- two obligations, and then some more
pub two_and_more : (old one two three more : List Named) (x y a b : List ℕ) (p q : Which) → x ≡ a → y ≡ b → one ≡ old ++ (x, p) ∷ [] → two ≡ one ++ (y, q) ∷ [] → three ≡ two ++ more → three ≡ old ++ (a, p) ∷ (b, q) ∷ more
two_and_more old one two three more x y a b p q e f first second third =
    third
    ∙ ap (λ (l : List Named). l ++ more) (second ∙ ap (λ (l : List Named). l ++ (y, q) ∷ []) first)
    ∙ append_assoc (old ++ (x, p) ∷ []) ((y, q) ∷ []) more ∙ append_assoc old ((x, p) ∷ []) ((y, q) ∷ more)
    ∙ ap₂ (λ (m n : List ℕ). old ++ (m, p) ∷ (n, q) ∷ more) e f

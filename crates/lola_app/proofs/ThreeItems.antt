-- Three words.
use Rattle.std.proofs.Common.{◌≡◌, ◌≤◌, ◌<◌, List, [], ◌∷◌, length, get_or, arith}

pub three_items : {X : Type 0} (words : List X) (a b c : X) → 3 ≤ length words → length words < 4 → a ≡ get_or words 0 a → b ≡ get_or words 1 b → c ≡ get_or words 2 c → words ≡ a ∷ b ∷ c ∷ []
three_items [] a b c least below e f g = absurd (omega arith)
three_items (x ∷ []) a b c least below e f g = absurd (omega arith)
three_items (x ∷ y ∷ []) a b c least below e f g = absurd (omega arith)
three_items (x ∷ y ∷ z ∷ []) a b c least below e f g = cc
three_items (x ∷ y ∷ z ∷ w ∷ ws) a b c least below e f g = absurd (omega arith)

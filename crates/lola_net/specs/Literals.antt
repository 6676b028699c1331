-- Literals: twice a node's number, and 1 more for its negation; node 0 is false.
use Rattle.std.specs.Prelude.{ℕ, zero, suc, ◌/◌, ◌%◌, Bool, false, not, cond, nat_eq, List, [], ◌∷◌}

-- the bit at a place, and false past the end
abbrev pub at_place : List Bool → ℕ → Bool
at_place [] n = false
at_place (x ∷ xs) zero = x
at_place (x ∷ xs) (suc n) = at_place xs n

-- the value of a node among values from node 1 on
abbrev pub at_node : List Bool → ℕ → Bool
at_node xs zero = false
at_node xs (suc n) = at_place xs n

-- the value of a literal, where nodes have these values
abbrev pub literal_of : (ℕ → Bool) → ℕ → Bool
literal_of v l = cond (nat_eq (l % 2) 0) (v (l / 2)) (not (v (l / 2)))

abbrev pub at_literal : List Bool → ℕ → Bool
at_literal xs l = literal_of (at_node xs) l

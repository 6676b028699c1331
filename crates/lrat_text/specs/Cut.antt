-- Bytes that are cut where a byte stands.
use Rattle.std.specs.Prelude.{ℕ, nat_eq, cond, List, [], ◌∷◌, ◌++◌, Option, None, Some}
use Rattle.std.specs.List.{slice_split}

-- with a byte, or bytes, before the front
abbrev pub with_front : List ℕ → Option (List ℕ × List ℕ) → Option (List ℕ × List ℕ)
with_front front None = None
with_front front (Some p) = Some (front ++ p.0, p.1)

-- what stands before the first such byte, and what stands behind it
abbrev pub cut : ℕ → List ℕ → Option (List ℕ × List ℕ)
cut byte [] = None
cut byte (b ∷ bs) = cond (nat_eq b byte) (Some ([], bs)) (with_front (b ∷ []) (cut byte bs))

-- the items of a line: what stands between its blanks
abbrev pub items_of : List ℕ → List (List ℕ)
items_of line = slice_split (λ b. nat_eq b 32) line

-- the items of what stands behind a blank, if anything does
abbrev pub items_in : Option (List ℕ) → List (List ℕ)
items_in None = []
items_in (Some rest) = items_of rest

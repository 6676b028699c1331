-- Numbers of given widths as one number that counts, and their order.
use Rattle.std.specs.Prelude.{◌≡◌, ◌⊎◌, ℕ, ◌<◌, ◌^◌, ◌/◌, ◌%◌, List, [], ◌∷◌}
use Rattle.lola_flat.specs.Value.{sum_of, joined_all}
use Rattle.lola_cases.specs.Cases.{AreWithin}

-- the numbers of these widths whose bits, one behind the other, are those of one number, the first the highest
abbrev pub numbers_of : List ℕ → ℕ → List ℕ
numbers_of [] n = []
numbers_of (w ∷ ws) n = n / 2 ^ sum_of ws ∷ numbers_of ws (n % 2 ^ sum_of ws)

-- one list of numbers comes before another: at the first place where they differ it has the smaller
abbrev pub ComesBefore : List ℕ → List ℕ → Type 0
ComesBefore [] ys = ⊥
ComesBefore (x ∷ xs) [] = ⊥
ComesBefore (x ∷ xs) (y ∷ ys) = (x < y) ⊎ ((x ≡ y) × ComesBefore xs ys)

-- a number that counts, below 2 to the sum of the widths, is that of its numbers
pub record IsCounted (ws : List ℕ) (n : ℕ) : Type 0 where
  pub within : AreWithin ws (numbers_of ws n)
  pub back : joined_all ws (numbers_of ws n) ≡ n

-- numbers of these widths are met by counting, and only there
pub record IsMet (ws ns : List ℕ) : Type 0 where
  pub below : joined_all ws ns < 2 ^ sum_of ws
  pub there : numbers_of ws (joined_all ws ns) ≡ ns

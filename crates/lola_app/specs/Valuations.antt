-- Numbers of given widths in their order, and a test at all of them.
use Rattle.std.specs.Prelude.{◌≡◌, ℕ, ◌<◌, ◌^◌, ◌/◌, ◌%◌, Bool, true, false, List, [], ◌∷◌}
use Rattle.lola_app.specs.Obligations.{total, ComesBefore}

-- a number for each width, below 2 to it
abbrev pub AreWithin : List ℕ → List ℕ → Type 0
AreWithin [] [] = Unit {0}
AreWithin [] (n ∷ ns) = ⊥
AreWithin (w ∷ ws) [] = ⊥
AreWithin (w ∷ ws) (n ∷ ns) = (n < 2 ^ w) × AreWithin ws ns

-- the numbers of these widths whose bits, one behind the other, are those of one number
abbrev pub numbers_of : List ℕ → ℕ → List ℕ
numbers_of [] n = []
numbers_of (w ∷ ws) n = n / 2 ^ total ws ∷ numbers_of ws (n % 2 ^ total ws)

-- a test passes at all numbers of these widths
abbrev pub Always : (List ℕ → Bool) → List ℕ → Type 0
Always test ws = (ns : List ℕ) → AreWithin ws ns → test ns ≡ true

-- the least numbers of these widths at which a test fails
pub record IsLeast (test : List ℕ → Bool) (ws ns : List ℕ) : Type 0 where
  pub within : AreWithin ws ns
  pub fails : test ns ≡ false
  pub least : (ms : List ℕ) → AreWithin ws ms → ComesBefore ms ns → test ms ≡ true

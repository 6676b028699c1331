-- Sums of lists.
use Rattle.std.proofs.Common.{◌≡◌, ℕ, ◌+◌, sum, List, [], ◌∷◌, ◌∙◌, arith}
use Rattle.std.specs.List.{fold}

sum_from : (n : ℕ) (ns : List ℕ) → fold ◌+◌ n ns ≡ n + fold ◌+◌ 0 ns
sum_from n [] = omega arith
sum_from n (m ∷ ns) = sum_from (n + m) ns ∙ (let e = sum_from (0 + m) ns in omega arith)

-- one number more
pub sum_cons : (n : ℕ) (ns : List ℕ) → sum (n ∷ ns) ≡ n + sum ns
sum_cons n ns = sum_from (0 + n) ns ∙ (omega arith)

-- Marks by stamps: a literal is set false where its place holds the stamp of the present line.
use Rattle.std.specs.Prelude.{ℕ, suc, ◌+◌, ◌*◌, ◌<◌, ◌≤◌, unsigned_abs, ⊤, ℤ, pos, negsuc, nat_eq, List, slice_index_or}
use Rattle.lrat_check.specs.Hints.{Falses}
use Rattle.lrat_check.specs.declared.hint.Hint.{Hint}
use Rattle.lrat_check.specs.declared.hint.Hint.TheVariants.{Conflict, Forces, Idle}

-- the place of a literal's mark
abbrev pub place : ℤ → ℕ
place (pos n) = 2 * n
place (negsuc n) = 2 * suc n + 1

abbrev pub marked : List ℕ → ℕ → Falses
marked stamps stamp l = nat_eq (slice_index_or stamps (place l) 0) stamp

-- no stamp is later than this one
pub record IsLatest (stamps : List ℕ) (stamp : ℕ) : Type 0 where
  pub at : (k : ℕ) → slice_index_or stamps k 0 ≤ stamp

-- the literal that is to be set true has a place
abbrev pub ForcesWithin : ℕ → Hint → Type 0
ForcesWithin n Conflict = ⊤
ForcesWithin n (Forces l) = 2 * unsigned_abs l + 1 < n
ForcesWithin n Idle = ⊤

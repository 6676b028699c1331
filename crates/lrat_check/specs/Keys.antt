-- Ids with the keys of their slots.
use Rattle.std.specs.Prelude.{ℕ, ◌<◌, ◌≤◌, nat_eq, cond, List, [], ◌∷◌, Option, None, Some}
use Rattle.lrat_check.specs.declared.keys.Entry.{Entry}

-- ids rise, from above one number up to another
abbrev pub Rises : ℕ → List Entry → ℕ → Type 0
Rises low [] high = low ≤ high
Rises low (e ∷ es) high = (low < e.id) × Rises e.id es high

-- the key of an id
abbrev pub key_of : List Entry → ℕ → Option ℕ
key_of [] id = None
key_of (e ∷ es) id = cond (nat_eq id e.id) (Some e.key) (key_of es id)

-- Tables from names to what is known of them.
use Rattle.std.specs.Prelude.{ℕ, Bool, List, bytes_eq, Option}
use Rattle.std.specs.Map.{lookup}
use Rattle.std.specs.Option.{is_some}
use Rattle.indexmap.specs.IndexMap.{insert_entry}

-- names with what is known of each, in the order in which they came
abbrev pub Names : Type 0 → Type 0
Names V = List (List ℕ × V)

abbrev pub find : {V : Type 0} → Names V → List ℕ → Option V
find names name = lookup (bytes_eq name) names

abbrev pub has : {V : Type 0} → Names V → List ℕ → Bool
has names name = is_some (find names name)

-- a new name stands behind the others, and one that is there takes the new value
abbrev pub put : {V : Type 0} → Names V → List ℕ → V → Names V
put names name v = insert_entry bytes_eq names name v

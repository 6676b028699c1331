-- Rows of a list, taken one by one, and faults that are handed on.
use Rattle.std.proofs.Common.{◌≡◌, ℕ, ◌+◌, ◌<◌, List, length, map, take, get_or, sym, subst}
use Rattle.std.specs.Prelude.{Result, Err}
use Rattle.std.specs.List.{AllByRecursion}
use Rattle.lola_bits.proofs.All.{of_all, all_more}
use Rattle.lola_bits.proofs.Lists.{to_map}
use Rattle.lola_bits.proofs.Places.{item_in, map_item}

-- what all rows have, the row at an index has
pub all_at : {X Y : Type 0} (P : Y → Type 0) (f : X → Y) (xs : List X) (i : ℕ) (x : X) → i < length xs → x ≡ get_or xs i x → AllByRecursion P (map f xs) → P (f x)
all_at P f xs i x within is all = of_all P (f x) (map f xs) all (to_map f x xs (item_in xs i x within is))

pub fault_is : {A E : Type 0} (f g : E) → ◌≡◌ {A = Result A E} (Err f) (Err g) → f ≡ g
fault_is f g e = cc

-- one more row that has it
pub all_row : {X Y : Type 0} (P : Y → Type 0) (f : X → Y) (xs : List X) (i : ℕ) (x : X) → i < length xs → x ≡ get_or xs i x → AllByRecursion P (map f (take i xs)) → P (f x) → AllByRecursion P (map f (take (i + 1) xs))
all_row P f xs i x within is all one = subst (AllByRecursion P) (sym (map_item f xs i x within is)) (all_more P (map f (take i xs)) (f x) all one)

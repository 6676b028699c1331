-- Bytes of names are ASCII.
use Rattle.std.proofs.Common.{◌≡◌, ◌<◌, ℕ, zero, suc, Bool, true, false, ◌&&◌, List, [], ◌∷◌, refl, sym, true≢false, arith, rules}
use Rattle.std.specs.List.{list_all}
use Rattle.std.specs.Str.{IsAscii}
use Rattle.veri_read.specs.Tokens.{is_name_byte}

pub small_byte : (b : ℕ) → is_name_byte b ≡ true → b < 128
small_byte b is = search rules

pub both_pass : (a b : Bool) → (a && b) ≡ true → (a ≡ true) × (b ≡ true)
both_pass true b is = (refl, is)
both_pass false b is = absurd (true≢false (sym is))

pub names_are_ascii : (bs : List ℕ) → list_all is_name_byte bs ≡ true → IsAscii bs
names_are_ascii [] all i = omega arith
names_are_ascii (b ∷ bs) all zero = small_byte b (both_pass (is_name_byte b) (list_all is_name_byte bs) all).0
names_are_ascii (b ∷ bs) all (suc i) = names_are_ascii bs (both_pass (is_name_byte b) (list_all is_name_byte bs) all).1 i

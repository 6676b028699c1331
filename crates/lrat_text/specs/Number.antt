-- Numbers in decimal without leading zeros, as they are read digit by digit.
use Rattle.std.specs.Prelude.{ℕ, ◌+◌, ◌-◌, ◌*◌, ◌^◌, ℤ, pos, neg_ℤ, Bool, cond, nat_eq, nat_lt, not, ◌&&◌, unsigned_abs, List, [], ◌∷◌, Option, None, Some}

abbrev pub is_digit : ℕ → Bool
is_digit b = not (nat_lt b 48) && not (nat_lt 57 b)

-- a number with one more digit, where it is one and 64 bits hold it
abbrev pub next_value : ℕ → ℕ → Option ℕ
next_value value digit = cond (is_digit digit && nat_lt (value * 10 + (digit - 48)) (2 ^ 64)) (Some (value * 10 + (digit - 48))) None

-- the number that digits write behind another, where each is one and 64 bits hold it
abbrev pub value_from : ℕ → List ℕ → Option ℕ
value_from value [] = Some value
value_from value (d ∷ ds) = cond (is_digit d && nat_lt (value * 10 + (d - 48)) (2 ^ 64)) (value_from (value * 10 + (d - 48)) ds) None

abbrev pub read_number : List ℕ → Option ℕ
read_number [] = None
read_number (d ∷ []) = value_from 0 (d ∷ [])
read_number (d ∷ e ∷ ds) = cond (nat_eq d 48) None (value_from 0 (d ∷ e ∷ ds))

-- a number in the range of ids
abbrev pub ranged : Option ℕ → Option ℕ
ranged None = None
ranged (Some n) = cond (nat_eq n 0) None (cond (nat_lt n (2 ^ 63)) (Some n) None)

abbrev pub read_id : List ℕ → Option ℕ
read_id item = ranged (read_number item)

abbrev pub positive : Option ℕ → Option ℤ
positive None = None
positive (Some n) = Some (pos n)

abbrev pub negative : Option ℕ → Option ℤ
negative None = None
negative (Some n) = Some (neg_ℤ (pos n))

abbrev pub read_hint : List ℕ → Option ℤ
read_hint [] = None
read_hint (b ∷ bs) = cond (nat_eq b 45) (negative (read_id bs)) (positive (read_id (b ∷ bs)))

abbrev pub small : Option ℤ → Option ℤ
small None = None
small (Some l) = cond (nat_lt (unsigned_abs l) (2 ^ 31)) (Some l) None

abbrev pub read_literal : List ℕ → Option ℤ
read_literal item = small (read_hint item)

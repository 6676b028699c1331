-- The ranges of ids, literals and hints in a certificate.
use Rattle.std.specs.Prelude.{◌≤◌, ◌<◌, ◌^◌, ◌&&◌, ℕ, ℤ, Bool, nat_eq, nat_lt, not, unsigned_abs}
use Rattle.std.specs.List.{AllByRecursion}
use Rattle.lrat_check.specs.declared.clause.Cnf.{Cnf}
use Rattle.lrat_check.specs.declared.line.Line.{Line}
use Rattle.lrat_check.specs.declared.line.Line.TheVariants.{Add, Delete}

pub record IsId (n : ℕ) : Type 0 where
  pub positive : 1 ≤ n
  pub below : n < 2 ^ 63

pub record IsLiteral (l : ℤ) : Type 0 where
  pub positive : 1 ≤ unsigned_abs l
  pub below : unsigned_abs l < 2 ^ 31

pub record IsHint (h : ℤ) : Type 0 where
  pub positive : 1 ≤ unsigned_abs h
  pub below : unsigned_abs h < 2 ^ 63

-- the ids, literals and hints of a line are in their ranges
abbrev pub LineFits : Line → Type 0
LineFits (Add id clause hints) = IsId id × (AllByRecursion IsLiteral clause.literals × AllByRecursion IsHint hints)
LineFits (Delete id ids) = IsId id × AllByRecursion IsId ids

-- the literals of a Cnf are in their range
abbrev pub HasLiterals : Cnf → Type 0
HasLiterals cnf = AllByRecursion (λ c. AllByRecursion IsLiteral c.literals) cnf.clauses

-- the same as tests
abbrev pub is_literal : ℤ → Bool
is_literal l = not (nat_eq (unsigned_abs l) 0) && nat_lt (unsigned_abs l) 2147483648

abbrev pub is_hint : ℤ → Bool
is_hint h = not (nat_eq (unsigned_abs h) 0) && nat_lt (unsigned_abs h) 9223372036854775808

-- an id above those of a Cnf of so many clauses
abbrev pub is_later : ℕ → ℕ → Bool
is_later clauses id = nat_lt clauses id && nat_lt id 9223372036854775808

-- What an algebra of bits is. Its data are plain; what each call answers, and the data after it, are
-- functions of the data and the arguments.
use Rattle.std.specs.Prelude.{◌≡◌, ℕ, Bool, true, not, ◌&&◌, Option, Some, None, Result, Ok, Err}
use Rattle.lola_alg.specs.declared.algebra.AlgError.{AlgError}
use Rattle.lola_alg.specs.declared.algebra.AlgError.TheVariants.{Full, Memory}

-- the calls: a constant, the other value of a bit, and both of two bits, or no place for that
pub record Calls (D B : Type 0) : Type 0 where
  pub constant : D → Bool → D × B
  pub negated : D → B → D × B
  pub both : D → B → B → Option (D × B)

-- which bits are known, and the value of a bit under an assignment of what is free
pub record Meaning (D B : Type 0) : Type 0 where
  pub knows : D → B → Bool
  pub value : D → (ℕ → Bool) → B → Bool

-- what is known in some data stays known in others, with its value
abbrev pub Stays : {D B : Type 0} → Meaning D B → D → D → Type 0
Stays {B = B} m before now = (b : B) → m.knows before b ≡ true → (m.knows now b ≡ true) × ((v : ℕ → Bool) → m.value now v b ≡ m.value before v b)

-- all that was known stays so, and the bit that was made is known
abbrev pub Keeps : {D B : Type 0} → Meaning D B → D → D → B → Type 0
Keeps m before now bit = Stays m before now × (m.knows now bit ≡ true)

-- the same of a call that may fail
abbrev pub Kept : {D B : Type 0} → Meaning D B → D → D → Result B AlgError → Type 0
Kept m before now (Ok bit) = Keeps m before now bit
Kept m before now (Err error) = Unit {0}

-- a call answers a known bit with this value, and what was known stays
pub record Answers {D B : Type 0} (m : Meaning D B) (before : D) (made : D × B) (value : (ℕ → Bool) → Bool) : Type 0 where
  pub stays : Stays m before made.0
  pub known : m.knows made.0 made.1 ≡ true
  pub means : (v : ℕ → Bool) → m.value made.0 v made.1 ≡ value v

-- the law of an algebra
pub record IsAlgebra {D B : Type 0} (c : Calls D B) (m : Meaning D B) : Type 0 where
  pub constant : (d : D) (b : Bool) → Answers m d (c.constant d b) (λ v. b)
  pub negated : (d : D) (a : B) → m.knows d a ≡ true → Answers m d (c.negated d a) (λ v. not (m.value d v a))
  pub both : (d : D) (a b : B) (made : D × B) → m.knows d a ≡ true → m.knows d b ≡ true → c.both d a b ≡ Some made → Answers m d made (λ v. m.value d v a && m.value d v b)

-- what a call that may have no place for a gate answers: what it should, or Full where there is none
abbrev pub Fits : {D B : Type 0} → Option (D × B) → D → D → Result B AlgError → Type 0
Fits should before now (Ok bit) = should ≡ Some (now, bit)
Fits should before now (Err Full) = (should ≡ None) × (now ≡ before)
Fits should before now (Err Memory) = now ≡ before

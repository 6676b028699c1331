-- What vectors of bits mean: numbers.
use Rattle.std.specs.Prelude.{◌≡◌, ℕ, ◌-◌, ◌^◌, ◌≤◌, Bool, true, cond, nat_eq, List, [], ◌∷◌, map, length}
use Rattle.std.specs.List.{AllByRecursion}
use Rattle.lola_bits.specs.declared.op.Op.{Op}
use Rattle.lola_bits.specs.declared.op.Op.TheVariants as op
use Rattle.lola_bits.specs.Number.{inverted, operate}
use Rattle.lola_bits.specs.BitLists.{number_of}
use Rattle.lola_alg.specs.Algebra.{Meaning, Stays}

abbrev pub IsWidth : ℕ → Type 0
IsWidth width = (1 ≤ width) × (width ≤ 128)

-- arguments of these widths suit an operator: one for `~`, a bit and two of one width for a choice, a vector
-- and any other for a shift, and else two of one width
abbrev pub Suits : Op → List ℕ → Type 0
Suits op.Not (w ∷ []) = IsWidth w
Suits op.Mux (t ∷ w ∷ v ∷ []) = (t ≡ 1) × (IsWidth w × (v ≡ w))
Suits op.Shl (w ∷ k ∷ []) = IsWidth w × IsWidth k
Suits op.Shr (w ∷ k ∷ []) = IsWidth w × IsWidth k
Suits op.Asr (w ∷ k ∷ []) = IsWidth w × IsWidth k
Suits op.Ror (w ∷ k ∷ []) = IsWidth w × IsWidth k
Suits op.And (w ∷ v ∷ []) = IsWidth w × (v ≡ w)
Suits op.Or (w ∷ v ∷ []) = IsWidth w × (v ≡ w)
Suits op.Xor (w ∷ v ∷ []) = IsWidth w × (v ≡ w)
Suits op.Add (w ∷ v ∷ []) = IsWidth w × (v ≡ w)
Suits op.Sub (w ∷ v ∷ []) = IsWidth w × (v ≡ w)
Suits op.Eq (w ∷ v ∷ []) = IsWidth w × (v ≡ w)
Suits op.Ne (w ∷ v ∷ []) = IsWidth w × (v ≡ w)
Suits op.Lt (w ∷ v ∷ []) = IsWidth w × (v ≡ w)
Suits op.Le (w ∷ v ∷ []) = IsWidth w × (v ≡ w)
Suits op.Gt (w ∷ v ∷ []) = IsWidth w × (v ≡ w)
Suits op.Ge (w ∷ v ∷ []) = IsWidth w × (v ≡ w)
Suits o other = ⊥

-- the width of what it makes
abbrev pub op_width : Op → List ℕ → ℕ
op_width op.Eq (w ∷ more) = 1
op_width op.Ne (w ∷ more) = 1
op_width op.Lt (w ∷ more) = 1
op_width op.Le (w ∷ more) = 1
op_width op.Gt (w ∷ more) = 1
op_width op.Ge (w ∷ more) = 1
op_width op.Mux (t ∷ w ∷ more) = w
op_width o (w ∷ more) = w
op_width o [] = 0

-- the width of the vectors that it works on
abbrev pub op_works : Op → List ℕ → ℕ
op_works op.Mux (t ∷ w ∷ more) = w
op_works o (w ∷ more) = w
op_works o [] = 0

-- its number, of the numbers of its arguments
abbrev pub op_number : Op → ℕ → List ℕ → ℕ
op_number op.Not width (x ∷ []) = inverted width x
op_number op.Mux width (t ∷ x ∷ y ∷ []) = cond (nat_eq t 1) x y
op_number o width (x ∷ y ∷ []) = operate o width x y
op_number o width other = 0

-- the elements of an array have this width, or one that isn't said
abbrev pub AreWide : {B : Type 0} → ℕ → List (List B) → Type 0
AreWide width elements = AllByRecursion (λ e. length e ≡ width) elements

abbrev pub HasWidth : {B : Type 0} → List (List B) → Type 0
HasWidth elements = (width : ℕ) × AreWide width elements

module _ {D B : Type 0} (m : Meaning D B) where
  -- each bit of a vector is known
  abbrev pub AreKnown : D → List B → Type 0
  AreKnown d bits = AllByRecursion (λ b. m.knows d b ≡ true) bits

  -- the number that a vector means under an assignment
  abbrev pub number_at : D → (ℕ → Bool) → List B → ℕ
  number_at d v bits = number_of (map (m.value d v) bits)

  -- a vector of a width means this number under each assignment, and all before stays
  pub record MeansNumber (before now : D) (bits : List B) (width : ℕ) (value : (ℕ → Bool) → ℕ) : Type 0 where
    pub stays : Stays m before now
    pub known : AreKnown now bits
    pub long : length bits ≡ width
    pub means : (v : ℕ → Bool) → number_at now v bits ≡ value v

  -- the vectors of an array mean these numbers, each in that width
  pub record MeansNumbers (before now : D) (elements : List (List B)) (width : ℕ) (value : (ℕ → Bool) → List ℕ) : Type 0 where
    pub stays : Stays m before now
    pub known : AllByRecursion (AreKnown now) elements
    pub wide : AreWide width elements
    pub means : (v : ℕ → Bool) → map (number_at now v) elements ≡ value v

  -- what an operator should make
  abbrev pub MeansOp : Op → List (List B) → D → D × List B → Type 0
  MeansOp o args d made =
      MeansNumber d made.0 made.1 (op_width o (map length args)) (λ v. op_number o (op_works o (map length args)) (map (number_at d v) args))

-- the elements of an array suit a place: 2 to the length of the place, each of one width
pub record IsArray {B : Type 0} (elements : List (List B)) (place : List B) (width : ℕ) : Type 0 where
  pub wide : IsWidth width
  pub places : (1 ≤ length place) × (length place ≤ 10)
  pub count : length elements ≡ 2 ^ length place
  pub each : AreWide width elements

-- they do, in some width
abbrev pub HasArray : {B : Type 0} → List (List B) → List B → Type 0
HasArray elements place = (width : ℕ) × IsArray elements place width

-- the number at a place of a list, and the list with another number there
abbrev pub number_in : List ℕ → ℕ → ℕ
number_in [] n = 0
number_in (x ∷ xs) n = cond (nat_eq n 0) x (number_in xs (n - 1))

abbrev pub with_number : List ℕ → ℕ → ℕ → List ℕ
with_number [] n y = []
with_number (x ∷ xs) n y = cond (nat_eq n 0) (y ∷ xs) (x ∷ with_number xs (n - 1) y)

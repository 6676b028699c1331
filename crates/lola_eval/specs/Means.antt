-- What the bits of expressions and of signals mean: the numbers of a flat design.
use Rattle.std.specs.Prelude.{◌≡◌, ℕ, ◌≤◌, ◌^◌, Bool, List, [], map, length, get_or, replicate, Option, Some, None}
use Rattle.std.specs.List.{AllByRecursion}
use Rattle.lola_alg.specs.Algebra.{Meaning, Stays}
use Rattle.lola_alg.specs.Means.{IsWidth, AreWide, AreKnown, number_at, MeansNumber}
use Rattle.lola_flat.specs.declared.design.SigKind.{SigKind}
use Rattle.lola_flat.specs.declared.design.SigKind.TheVariants.{Input, Pad, Wire, Register}
use Rattle.lola_flat.specs.Tree.{ExprTree, ExprTrees, SignalTree, FlatTree}
use Rattle.lola_flat.specs.Value.{Env, mapped, width, widths, value, values, Fits}
use Rattle.lola_flat.specs.Signals.{IsSignal, widths_of, IsClock}
use Rattle.lola_flat.specs.Cycle.{IsCycle, next_elements, IsNextOf, IsNext}

-- a vector of the signal's width for each of its elements
abbrev pub IsWideAs : {B : Type 0} → SignalTree → List (List B) → Type 0
IsWideAs s vectors = map length vectors ≡ replicate s.count s.width

-- each input but the clock and each register has its elements, and each pad a vector from outside
abbrev pub IsGivenBits : {B : Type 0} → FlatTree → SignalTree → SigKind → List (List B) → List B → Type 0
IsGivenBits F s Input vectors outside = (IsClock F s → ⊥) → IsWideAs s vectors
IsGivenBits F s Register vectors outside = IsWideAs s vectors
IsGivenBits F s Pad vectors outside = length outside ≡ s.width
IsGivenBits F s Wire vectors outside = Unit {0}

pub record AreGivenBits {B : Type 0} (F : FlatTree) (E : Env (List B)) : Type 0 where
  pub long : length E.signals ≡ length F.signals
  pub each : (n : ℕ) (s : SignalTree) → IsSignal F n s → IsGivenBits F s s.kind (get_or E.signals n []) (get_or E.outside n [])

-- each signal but the clock has its elements
pub record AreSignalBits {B : Type 0} (F : FlatTree) (table : List (List (List B))) : Type 0 where
  pub long : length table ≡ length F.signals
  pub each : (n : ℕ) (s : SignalTree) → IsSignal F n s → (IsClock F s → ⊥) → IsWideAs s (get_or table n [])

-- the place and the value of a register suit a table and its elements there
pub record SuitsArray {B : Type 0} (E : Env (List B)) (place value : ExprTree) (old : List (List B)) : Type 0 where
  pub place_fits : Fits (mapped length E) place
  pub value_fits : Fits (mapped length E) value
  pub wide : IsWidth (width (mapped length E) value)
  pub places : (1 ≤ width (mapped length E) place) × (width (mapped length E) place ≤ 10)
  pub count : length old ≡ 2 ^ width (mapped length E) place
  pub each : AreWide (width (mapped length E) value) old

abbrev pub SuitsNext : {B : Type 0} → Env (List B) → Option ExprTree → Option ExprTree → List (List B) → Type 0
SuitsNext E place None old = Unit {0}
SuitsNext E None (Some value) old = Fits (mapped length E) value
SuitsNext E (Some place) (Some value) old = SuitsArray E place value old

module _ {D B : Type 0} (m : Meaning D B) where
  -- all bits of a table are known
  pub record EnvKnown (d : D) (E : Env (List B)) : Type 0 where
    pub signals : AllByRecursion (AllByRecursion (AreKnown m d)) E.signals
    pub outside : AllByRecursion (AreKnown m d) E.outside

  -- the numbers that the vectors of a table mean under an assignment
  abbrev pub numbers : D → (ℕ → Bool) → Env (List B) → Env ℕ
  numbers d v E = mapped (number_at m d v) E

  -- the bits of an expression mean its number, in its width
  abbrev pub MeansValue : Env (List B) → ExprTree → D → D × List B → Type 0
  MeansValue E t d made = MeansNumber m d made.0 made.1 (width (mapped length E) t) (λ v. value (mapped length E) (numbers d v E) t)

  -- vectors mean numbers in these widths, and all before stays
  pub record MeansAll (before now : D) (vectors : List (List B)) (ws : List ℕ) (ns : (ℕ → Bool) → List ℕ) : Type 0 where
    pub stays : Stays m before now
    pub known : AllByRecursion (AreKnown m now) vectors
    pub long : map length vectors ≡ ws
    pub means : (v : ℕ → Bool) → map (number_at m now v) vectors ≡ ns v

  abbrev pub MeansValues : Env (List B) → ExprTrees → D → D × List (List B) → Type 0
  MeansValues E ts d made = MeansAll d made.0 made.1 (widths (mapped length E) ts) (λ v. values (mapped length E) (numbers d v E) ts)

  -- the bits of signals mean, under each assignment, the values of the cycle that is given what the bits before meant
  pub record MeansCycle (F : FlatTree) (E : Env (List B)) (before now : D) (table : List (List (List B))) : Type 0 where
    pub stays : Stays m before now
    pub known : AllByRecursion (AllByRecursion (AreKnown m now)) table
    pub wide : AreSignalBits F table
    pub means : (v : ℕ → Bool) → IsCycle F (numbers before v E).signals (numbers before v E).outside (map (map (number_at m now v)) table)

  -- the bits of a register mean, under each assignment, its next value behind the cycle that the signals mean
  pub record MeansNext (F : FlatTree) (E : Env (List B)) (n : ℕ) (s : SignalTree) (before now : D) (vectors : List (List B)) : Type 0 where
    pub stays : Stays m before now
    pub known : AllByRecursion (AreKnown m now) vectors
    pub wide : IsWideAs s vectors
    pub means : (v : ℕ → Bool) → map (number_at m now v) vectors ≡ next_elements (widths_of F) (numbers before v E) s.place s.equation (get_or (numbers before v E).signals n [])

  -- what stands behind the cycle for a signal means, under each assignment, its next value, and nothing where it is no
  -- register
  pub record MeansBehind (F : FlatTree) (E : Env (List B)) (n : ℕ) (s : SignalTree) (before now : D) (vectors : List (List B)) : Type 0 where
    pub wide : s.kind ≡ Register → IsWideAs s vectors
    pub means : (v : ℕ → Bool) →
        IsNextOf s.kind (next_elements (widths_of F) (numbers before v E) s.place s.equation (get_or (numbers before v E).signals n [])) (map (number_at m now v) vectors)

  -- the bits of all registers mean, under each assignment, the state behind the cycle that these signals mean
  pub record MeansState (F : FlatTree) (signals : List (List (List B))) (before now : D) (table : List (List (List B))) : Type 0 where
    pub stays : Stays m before now
    pub known : AllByRecursion (AllByRecursion (AreKnown m now)) table
    pub wide : (n : ℕ) (s : SignalTree) → IsSignal F n s → s.kind ≡ Register → IsWideAs s (get_or table n [])
    pub means : (v : ℕ → Bool) → IsNext F (map (map (number_at m before v)) signals) (map (map (number_at m now v)) table)

-- Equations on paths and the same by the numbers of their signals.
use Rattle.std.specs.Prelude.{◌≡◌, ◌⊎◌, ℕ, ◌≤◌, List, Option, Some, slice_get}
use Rattle.lola_bits.specs.Lists.{IsIn}
use Rattle.lola_tree.specs.Value.{Path, Values}
use Rattle.lola_tree.specs.design.Equations.{Equation, Meets}
use Rattle.lola_tree.specs.design.Chains.{right_paths, right_arrays}
use Rattle.lola_order.specs.Graph.{Graph, Uses, IsWanted}
use Rattle.lola_design.specs.Paths.{count, lefts}

-- what a state or an input gives to a path
pub data Given : Type 0 where
  vector : (n : ℕ) → Given
  array : (elements : ℕ → ℕ) → Given

-- a value is the given one
abbrev pub IsGivenAs : Given → (ℕ → ℕ) → Type 0
IsGivenAs (vector n) x = x 0 ≡ n
IsGivenAs (array elements) x = (n : ℕ) → x n ≡ elements n

abbrev pub given_at : Given → ℕ → ℕ
given_at (vector n) m = n
given_at (array elements) m = elements m

-- what a state and an input give to paths
abbrev pub Fixed : Type 0
Fixed = Path → Option Given

abbrev pub IsFixed : Fixed → Path → Type 0
IsFixed fixed x = (g : Given) × (fixed x ≡ Some g)

abbrev pub IsStored : Fixed → Path → Type 0
IsStored fixed x = (elements : ℕ → ℕ) × (fixed x ≡ Some (array elements))

-- a path that is read has an equation, and its number is among those that are used
pub record IsUsed (E : List Equation) (paths : List Path) (us : List ℕ) (y : Path) : Type 0 where
  pub equation : Equation
  pub there : IsIn equation E
  pub left : equation.left ≡ y
  pub number : ℕ
  pub is : slice_get paths number ≡ Some y
  pub among : IsIn number us

-- an equation has a number, under which the graph has what it uses
pub record IsNumbered (E : List Equation) (fixed : Fixed) (paths : List Path) (g : Graph) (e : Equation) : Type 0 where
  pub number : ℕ
  pub is : slice_get paths number ≡ Some e.left
  pub uses : List ℕ
  pub graph : Uses g number uses
  pub vectors : (y : Path) → IsIn y (right_paths e.right) → IsFixed fixed y ⊎ IsUsed E paths uses y
  pub arrays : (y : Path) → IsIn y (right_arrays e.right) → IsStored fixed y

-- paths in order, and a graph of their equations
pub record AreNumbered (E : List Equation) (fixed : Fixed) (paths : List Path) (g : Graph) : Type 0 where
  pub each : (e : Equation) → IsIn e E → IsNumbered E fixed paths g e
  pub only : (i : ℕ) → IsWanted g i → (e : Equation) × IsIn e E × (slice_get paths i ≡ Some e.left)
  pub distinct : (i j : ℕ) (x : Path) → slice_get paths i ≡ Some x → slice_get paths j ≡ Some x → i ≡ j
  pub once : (e f : Equation) → IsIn e E → IsIn f E → e.left ≡ f.left → e.right ≡ f.right
  pub apart : (e : Equation) → IsIn e E → IsFixed fixed e.left → ⊥

-- each signal stands once, each equation is one of a signal that isn't fixed, and what it reads is fixed or
-- has an equation
pub record AreEquations (E : List Equation) (fixed : Fixed) (paths : List Path) : Type 0 where
  pub paths_once : (x : Path) → count x paths ≤ 1
  pub lefts_once : (x : Path) → count x (lefts E) ≤ 1
  pub signals : (e : Equation) → IsIn e E → IsIn e.left paths
  pub apart : (e : Equation) → IsIn e E → IsFixed fixed e.left → ⊥
  pub vectors : (e : Equation) → IsIn e E → (y : Path) → IsIn y (right_paths e.right) → IsFixed fixed y ⊎ ((d : Equation) × IsIn d E × (d.left ≡ y))
  pub arrays : (e : Equation) → IsIn e E → (y : Path) → IsIn y (right_arrays e.right) → IsStored fixed y

-- a solution of equations
pub record Solves (E : List Equation) (fixed : Fixed) (outside v : Values) : Type 0 where
  pub meets : (e : Equation) → IsIn e E → Meets outside v e
  pub agrees : (x : Path) (g : Given) → fixed x ≡ Some g → IsGivenAs g (v x)

-- there is one, and any two agree on what has an equation
pub record HasOneSolution (E : List Equation) (fixed : Fixed) (outside : Values) : Type 0 where
  pub solution : (v : Values) × Solves E fixed outside v
  pub same : (v w : Values) → Solves E fixed outside v → Solves E fixed outside w → (e : Equation) → IsIn e E → v e.left 0 ≡ w e.left 0

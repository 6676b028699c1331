-- Equations as a graph, by the numbers of their signals: which signals each equation uses. What has no
-- equation, or whose equation no cycle depends on, is given.
use Rattle.std.specs.Prelude.{◌≡◌, ℕ, ◌≤◌, List, [], ◌∷◌, ◌++◌, Option, Some, slice_get}
use Rattle.std.specs.List.{AllByRecursion}
use Rattle.lola_bits.specs.Lists.{IsIn, AreDistinct}
use Rattle.lola_order.specs.declared.ordering.Ordered.{Ordered}
use Rattle.lola_order.specs.declared.ordering.Ordered.TheVariants.{Order, Loop}

-- for each signal what its equation uses, or nothing where it is given
abbrev pub Graph : Type 0
Graph = List (Option (List ℕ))

-- the equation of a signal uses these
abbrev pub Uses : Graph → ℕ → List ℕ → Type 0
Uses g i us = slice_get g i ≡ Some (Some us)

-- a signal that isn't given
pub record IsWanted (g : Graph) (i : ℕ) : Type 0 where
  pub uses : List ℕ
  pub equation : Uses g i uses

-- a signal occurs in the equation of another
pub record IsUse (g : Graph) (j i : ℕ) : Type 0 where
  pub uses : List ℕ
  pub equation : Uses g i uses
  pub among : IsIn j uses

-- a signal isn't placed, and its equation uses only given and placed signals
pub record IsReady (g : Graph) (placed : List ℕ) (i : ℕ) : Type 0 where
  pub wanted : IsWanted g i
  pub new : IsIn i placed → ⊥
  pub met : (j : ℕ) → IsUse g j i → IsWanted g j → IsIn j placed

-- and it is the first such
pub record IsFirstReady (g : Graph) (placed : List ℕ) (i : ℕ) : Type 0 where
  pub ready : IsReady g placed i
  pub first : (j : ℕ) → IsReady g placed j → i ≤ j

-- behind what is placed, each is the first that is ready at its place
abbrev pub ArePlaced : Graph → List ℕ → List ℕ → Type 0
ArePlaced g placed [] = Unit {0}
ArePlaced g placed (i ∷ is) = IsFirstReady g placed i × ArePlaced g (placed ++ i ∷ []) is

-- the order of equations: at each place the first that is ready, and no equation is left
pub record IsOrder (g : Graph) (order : List ℕ) : Type 0 where
  pub placed : ArePlaced g [] order
  pub all : (i : ℕ) → IsWanted g i → IsIn i order

-- a chain from a signal through others to one: each occurs in the equation of the next
abbrev pub IsChain : Graph → ℕ → List ℕ → ℕ → Type 0
IsChain g x [] y = IsUse g x y
IsChain g x (z ∷ zs) y = IsUse g x z × IsChain g z zs y

-- a closed chain
pub record HasLoop (g : Graph) : Type 0 where
  pub first : ℕ
  pub others : List ℕ
  pub closed : IsChain g first others first

-- distinct signals, each of which occurs in the equation of the next and the last in that of the first,
-- which is the earliest of them
pub record IsLoop (g : Graph) (names : List ℕ) : Type 0 where
  pub first : ℕ
  pub others : List ℕ
  pub is : names ≡ first ∷ others
  pub closed : IsChain g first others first
  pub distinct : AreDistinct names
  pub earliest : AllByRecursion (λ (n : ℕ). first ≤ n) names

-- what an answer says of a graph
abbrev pub Answers : Graph → Ordered → Type 0
Answers g (Order order) = IsOrder g order
Answers g (Loop names) = IsLoop g names

-- Combinational loops: closed chains of signals each of which occurs in the equation of the next. Registers have
-- no equation in a cycle, so no chain goes through one.
use Rattle.std.specs.Prelude.{◌≡◌, cond, List, [], ◌∷◌, ◌++◌, map}
use Rattle.std.specs.Option.{is_none}
use Rattle.std.specs.List.{AllByRecursion}
use Rattle.lola_tree.specs.declared.named.Ref.{Ref}
use Rattle.lola_tree.specs.Tree.{Tree, number, whole, bit, slice, index, concat, negation, binary, choice, Parts, no_part, one_part, SourceTree}
use Rattle.lola_tree.specs.Width.{Scope, scope_of}
use Rattle.lola_tree.specs.Value.{Path}
use Rattle.lola_bits.specs.Lists.{IsIn, AreDistinct}
use Rattle.lola_tree.specs.design.Signals.{signal_paths}
use Rattle.lola_tree.specs.design.Equations.{Right, expression, copied, driven, Equation, equations}

-- a name that isn't a constant's
abbrev pub name_in : Scope → Ref → List Ref
name_in scope r = cond (is_none (scope.number r)) (r ∷ []) []

-- the vectors that occur in an expression, by their names; of an array only what stands in its place
abbrev mutual
  pub names_in : Scope → Tree → List Ref
  names_in scope (number n written at) = []
  names_in scope (whole of) = name_in scope of
  names_in scope (bit of place at) = name_in scope of
  names_in scope (slice of high low at) = name_in scope of
  names_in scope (index of place at) = names_in scope place
  names_in scope (concat parts at) = part_names_in scope parts
  names_in scope (negation e at) = names_in scope e
  names_in scope (binary o a b at) = names_in scope a ++ names_in scope b
  names_in scope (choice test first second at) = names_in scope test ++ (names_in scope first ++ names_in scope second)

  pub part_names_in : Scope → Parts → List Ref
  part_names_in scope no_part = []
  part_names_in scope (one_part e times behind) = names_in scope e ++ part_names_in scope behind

-- the elements of arrays that are read in it, each by the name of the array and its place
abbrev mutual
  pub elements_in : Tree → List (Ref × Tree)
  elements_in (number n written at) = []
  elements_in (whole of) = []
  elements_in (bit of place at) = []
  elements_in (slice of high low at) = []
  elements_in (index of place at) = (of, place) ∷ elements_in place
  elements_in (concat parts at) = part_elements_in parts
  elements_in (negation e at) = elements_in e
  elements_in (binary o a b at) = elements_in a ++ elements_in b
  elements_in (choice test first second at) = elements_in test ++ (elements_in first ++ elements_in second)

  pub part_elements_in : Parts → List (Ref × Tree)
  part_elements_in no_part = []
  part_elements_in (one_part e times behind) = elements_in e ++ part_elements_in behind

-- the arrays themselves
abbrev pub arrays_in : Tree → List Ref
arrays_in e = map (λ (a : Ref × Tree). a.0) (elements_in e)

-- the paths of what is read at a path
abbrev pub paths_of : Path → List Ref → List Path
paths_of p refs = map (λ (r : Ref). p ++ r.path) refs

-- the vectors that occur in a right side, and the arrays that are read there
abbrev pub right_paths : Right → List Path
right_paths (expression m p e) = paths_of p (names_in (scope_of m) e)
right_paths (copied other) = other ∷ []
right_paths (driven m p drive release io) = paths_of p (names_in (scope_of m) release) ++ paths_of p (names_in (scope_of m) drive)

abbrev pub right_arrays : Right → List Path
right_arrays (expression m p e) = paths_of p (arrays_in e)
right_arrays (copied other) = []
right_arrays (driven m p drive release io) = paths_of p (arrays_in release) ++ paths_of p (arrays_in drive)

-- one equation for each signal that has one: that of a pad of the root is the statement that drives it, wherever
-- it stands, while an INOUT port of an instance has the value of its argument
abbrev pub flat_left : Path → Right → Path
flat_left left (expression m p e) = left
flat_left left (copied other) = left
flat_left left (driven m p drive release io) = io

abbrev pub flat_equation : Equation → Equation
flat_equation e = record { left = flat_left e.left e.right; right = e.right }

abbrev pub flat_equations : SourceTree → List Equation
flat_equations S = map flat_equation (equations S)

-- a signal occurs in the equation of another
pub record Occurs (S : SourceTree) (x y : Path) : Type 0 where
  pub equation : Equation
  pub there : IsIn equation (flat_equations S)
  pub left : equation.left ≡ y
  pub among : IsIn x (right_paths equation.right)

-- a chain from a signal through others to one: each occurs in the equation of the next
abbrev pub IsChain : SourceTree → Path → List Path → Path → Type 0
IsChain S x [] y = Occurs S x y
IsChain S x (z ∷ zs) y = Occurs S x z × IsChain S z zs y

-- there is a closed chain
pub record HasLoop (S : SourceTree) : Type 0 where
  pub first : Path
  pub others : List Path
  pub closed : IsChain S first others first

-- a signal is the earliest of some
pub record IsEarliest (S : SourceTree) (first : Path) (names : List Path) : Type 0 where
  pub before : List Path
  pub behind : List Path
  pub stands : signal_paths S ≡ before ++ first ∷ behind
  pub each : AllByRecursion (λ (x : Path). IsIn x (first ∷ behind)) names

-- distinct signals, each of which occurs in the equation of the next and the last in that of the first, which is
-- the earliest of them
pub record IsLoop (S : SourceTree) (names : List Path) : Type 0 where
  pub first : Path
  pub others : List Path
  pub is : names ≡ first ∷ others
  pub closed : IsChain S first others first
  pub distinct : AreDistinct names
  pub earliest : IsEarliest S first names

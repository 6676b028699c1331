-- What a well sized design keeps to, in the words of its signals and equations: names and assignments come once,
-- pads are passed on and driven as such, what is read is a signal, and values fit their signals.
use Rattle.std.specs.Prelude.{◌≡◌, ◌≢◌, ◌⊎◌, ◌<◌, ℕ, List, [], ◌++◌, reverse, Option, Some, None, IsSome}
use Rattle.lola_bits.specs.Lists.{IsIn}
use Rattle.lola_tree.specs.declared.named.Shape.{Shape}
use Rattle.lola_tree.specs.declared.named.Shape.TheVariants as shape
use Rattle.lola_tree.specs.declared.named.Ref.{Ref}
use Rattle.lola_tree.specs.Tree.{Tree, ActualTree, ModuleTree, SourceTree}
use Rattle.lola_tree.specs.Names.{Names}
use Rattle.lola_tree.specs.Width.{vector_width, element_width, scope_of}
use Rattle.lola_tree.specs.Value.{Path, Values, value}
use Rattle.lola_tree.specs.Cycle.{names_at, FitsIn}
use Rattle.lola_tree.specs.design.Signals.{clock, pad, register, Signal, signals, elements}
use Rattle.lola_tree.specs.design.Equations.{Right, expression, copied, driven, Equation, right_value, Update, updates}
use Rattle.lola_tree.specs.design.Cycle.{IsSignal, Suits}
use Rattle.lola_tree.specs.design.Chains.{names_in, elements_in, arrays_in, paths_of, right_paths, right_arrays, flat_equations}
use Rattle.lola_design.specs.Assigned.{AreAssigned}
use Rattle.lola_design.specs.Once.{AllOnce}
use Rattle.lola_design.specs.Drives.{PadsFit}

-- a type is a vector, or an array
abbrev pub IsVector : Shape → Type 0
IsVector (shape.Vector width) = Unit {0}
IsVector (shape.Array count width) = ⊥

abbrev pub IsArray : Shape → Type 0
IsArray (shape.Vector width) = ⊥
IsArray (shape.Array count width) = Unit {0}

-- the vectors and the arrays that an update reads
abbrev pub place_paths : Path → (Tree → List Path) → Option ActualTree → List Path
place_paths p in_tree None = []
place_paths p in_tree (Some place) = in_tree place.value

abbrev pub update_paths : Update → List Path
update_paths u =
    place_paths u.path (λ (e : Tree). paths_of u.path (names_in (scope_of u.module_) e)) u.place ++ paths_of u.path (names_in (scope_of u.module_) u.value)

abbrev pub update_arrays : Update → List Path
update_arrays u = place_paths u.path (λ (e : Tree). paths_of u.path (arrays_in e)) u.place ++ paths_of u.path (arrays_in u.value)

-- what is read: as vectors those signals but the clock that are vectors, and as arrays registers that are arrays
pub record AreRead (S : SourceTree) (vectors arrays : List Path) : Type 0 where
  pub vector : (y : Path) → IsIn y vectors → (x : Signal) × IsIn x (signals S) × (x.kind ≢ clock) × IsVector x.type × (x.path ≡ y)
  pub array : (y : Path) → IsIn y arrays → (x : Signal) × IsSignal S register x × IsArray x.type × (x.path ≡ y)

-- a number fits what has this type, or each of its elements
abbrev pub FitsType : Names → Shape → ℕ → Type 0
FitsType names (shape.Vector width) n = FitsIn (vector_width names (Some (shape.Vector width))) n
FitsType names (shape.Array count width) n = FitsIn (element_width names (Some (shape.Array count width))) n

-- what is read has values of its types
abbrev pub ReadsSuit : SourceTree → List Path → List Path → Values → Type 0
ReadsSuit S vectors arrays v = (x : Signal) → IsIn x (signals S) → IsIn x.path vectors ⊎ IsIn x.path arrays → Suits x.names x.type (v x.path)

-- the places of the elements that an expression reads at a path are those of elements
abbrev pub AreWithin : SourceTree → ModuleTree → Path → Values → Tree → Type 0
AreWithin S m p v e =
    (a : Ref × Tree) → IsIn a (elements_in e) → (x : Signal) → IsSignal S register x → x.path ≡ p ++ a.0.path → value (scope_of m) a.1 (names_at p v) < elements x.names x.type

abbrev pub IsRightWithin : SourceTree → Values → Right → Type 0
IsRightWithin S v (expression m p e) = AreWithin S m p v e
IsRightWithin S v (copied from) = Unit {0}
IsRightWithin S v (driven m p drive release io) = AreWithin S m p v release × AreWithin S m p v drive

-- so are those in the place of an update, and the place itself
abbrev pub IsPlaceWithin : SourceTree → ModuleTree → Path → Values → Signal → Option ActualTree → Type 0
IsPlaceWithin S m p v x None = Unit {0}
IsPlaceWithin S m p v x (Some place) = AreWithin S m p v place.value × (value (scope_of m) place.value (names_at p v) < elements x.names x.type)

-- then what an equation or an update gives has them too, and no place is past an array
pub record ValuesFit (S : SourceTree) : Type 0 where
  pub by_equation : (e : Equation) → IsIn e (flat_equations S) → (x : Signal) → IsIn x (signals S) → x.path ≡ e.left → (outside v : Values) →
      ((y : Signal) → IsSignal S pad y → Suits y.names y.type (outside y.path)) → ReadsSuit S (right_paths e.right) (right_arrays e.right) v →
      FitsType x.names x.type (right_value outside v e.right) × IsRightWithin S v e.right
  pub by_update : (u : Update) → IsIn u (updates S) → (x : Signal) → IsIn x (signals S) → x.path ≡ u.left → (v : Values) → ReadsSuit S (update_paths u) (update_arrays u) v →
      FitsType x.names x.type (value (scope_of u.module_) u.value (names_at u.path v)) × AreWithin S u.module_ u.path v u.value × IsPlaceWithin S u.module_ u.path v x u.place

pub record IsRegular (S : SourceTree) : Type 0 where
  pub names : AllOnce (reverse S.modules)
  pub assigned : AreAssigned (reverse S.modules)
  pub pads : PadsFit S
  pub vectors : (x : Signal) → IsIn x (signals S) → x.kind ≢ register → IsVector x.type
  pub equation_reads : (e : Equation) → IsIn e (flat_equations S) → AreRead S (right_paths e.right) (right_arrays e.right)
  pub update_reads : (u : Update) → IsIn u (updates S) → AreRead S (update_paths u) (update_arrays u)
  pub array_places : (u : Update) → IsIn u (updates S) → (x : Signal) → IsIn x (signals S) → x.path ≡ u.left → IsArray x.type → IsSome u.place
  pub values : ValuesFit S

-- What the statements of a module assign.
use Rattle.std.specs.Prelude.{◌≡◌, ℕ, Bool, true, List, [], ◌∷◌, ◌++◌, map, filter, Option, Some, None}
use Rattle.std.specs.Option.{IsSome, option_map}
use Rattle.std.specs.Borrow.{Bor}
use Rattle.std.specs.List.{AllByRecursion}
use Rattle.lola_bits.specs.Lists.{IsIn, AreDistinct}
use Rattle.lola_bits.specs.Names.{is_among}
use Rattle.lola_tree.specs.Signals.{is_outward}
use Rattle.lola_tree.specs.declared.module.Port.{Port}
use Rattle.lola_tree.specs.declared.module.Local.{Local}
use Rattle.lola_tree.specs.declared.expr.Expr.{Expr}
use Rattle.lola_tree.specs.Tree.{Tree, tree, StmtTree, assignment, call, pad, ModuleTree}
use Rattle.lola_tree.specs.Width.{Scope as Widths, width}
use Rattle.lola_elab.specs.declared.flat.Flat.{Flat}
use Rattle.lola_elab.specs.Meanings.{Meanings, HasMeaning, AreOf, IsFlatOf}
use Rattle.lola_elab.specs.Small.{IsBuilt, target_of}
use Rattle.lola_elab.specs.Declares.{port_names, local_names}

-- the names of the OUT ports and of the locals
abbrev pub target_names : List Port → List Local → List (List ℕ)
target_names ports locals = port_names (filter (λ (p : Port). is_outward p.way) ports) ++ local_names locals

-- the statement is a whole assignment of a value to a name
pub record Assigns (t : StmtTree) (name : List ℕ) (e : Tree) : Type 0 where
  pub at : ℕ
  pub equals : ℕ
  pub is : t ≡ assignment name None e at equals

-- a whole assignment
abbrev pub IsWhole : StmtTree → Type 0
IsWhole (assignment name None e at equals) = Unit {0}
IsWhole (assignment name (Some place) e at equals) = ⊥
IsWhole (call name args at) = ⊥
IsWhole (pad io inner drive release at) = ⊥

-- whole assignments, of which each name that is wanted has one, and no other name
pub record AssignsOnce (wanted : List ℕ → Bool) (ts : List StmtTree) : Type 0 where
  pub whole : AllByRecursion IsWhole ts
  pub once : AreDistinct (map target_of ts)
  pub only : (name : List ℕ) → IsIn name (map target_of ts) → wanted name ≡ true
  pub each : (name : List ℕ) → wanted name ≡ true → IsIn name (map target_of ts)

-- a whole assignment of an expression whose width is the one of its target
abbrev pub IsSizedStmt : Meanings → (List ℕ → Option ℕ) → Widths → StmtTree → Type 0
IsSizedStmt names targets scope (assignment name None e at equals) =
    IsBuilt (HasMeaning names) e × ((wide : ℕ) × (targets name ≡ Some wide) × (width scope e ≡ Some wide))
IsSizedStmt names targets scope (assignment name (Some place) e at equals) = ⊥
IsSizedStmt names targets scope (call name args at) = ⊥
IsSizedStmt names targets scope (pad io inner drive release at) = ⊥

-- where the names are those of a scope, all statements are such
abbrev pub AreSized : Meanings → (List ℕ → Option ℕ) → Widths → List StmtTree → Type 0
AreSized names targets scope ts = AllByRecursion (IsSizedStmt names targets scope) ts

-- a value is what one of the statements assigns to a name
pub record IsValueOf (ts : List StmtTree) (name : List ℕ) (e : Tree) : Type 0 where
  pub statement : StmtTree
  pub there : IsIn statement ts
  pub assigns : Assigns statement name e

-- what the statements assign, by name: each value is what one of them assigns to its name, and each name to
-- which one assigns a value has one
pub record AreValuesOf (ts : List StmtTree) (values : List ℕ → Option Tree) : Type 0 where
  pub assigned : (name : List ℕ) (e : Tree) → values name ≡ Some e → IsValueOf ts name e
  pub each : (name : List ℕ) (e : Tree) → IsValueOf ts name e → IsSome (values name)

-- the trees of expressions that are known by name
abbrev pub trees_of : (List ℕ → Option (Bor Expr)) → List ℕ → Option Tree
trees_of values name = option_map (λ (e : Bor Expr). tree e.now) (values name)

-- an expression over leaves is what one of the statements assigns to a name
pub record IsNextOf (names : Meanings) (ts : List StmtTree) (name : List ℕ) (flat : Flat) : Type 0 where
  pub statement : StmtTree
  pub value : Tree
  pub wide : ℕ
  pub there : IsIn statement ts
  pub assigns : Assigns statement name value
  pub means : IsFlatOf names value flat wide

-- the same, name by name
abbrev pub AreNexts : Meanings → List StmtTree → List (List ℕ) → List Flat → Type 0
AreNexts names ts [] [] = Unit {0}
AreNexts names ts [] (flat ∷ flats) = ⊥
AreNexts names ts (name ∷ more) [] = ⊥
AreNexts names ts (name ∷ more) (flat ∷ flats) = IsNextOf names ts name flat × AreNexts names ts more flats

-- a module's statements are sized, assign each target once, and some registers
pub record IsWellAssigned (m : ModuleTree) (names : Meanings) (targets : List ℕ → Option ℕ) (scope : Widths) (registers : List (List ℕ)) : Type 0 where
  pub values : AreSized names targets scope m.body
  pub once : AssignsOnce (is_among (target_names m.ports m.locals)) m.body
  pub registers_there : AllByRecursion (λ (name : List ℕ). IsIn name (map target_of m.body)) registers

-- a module's statements, and the values that some registers have behind a clock edge
pub record HasNexts (m : ModuleTree) (names : Meanings) (targets : List ℕ → Option ℕ) (registers : List (List ℕ)) (flats : List Flat) : Type 0 where
  pub values : (scope : Widths) (widths : List ℕ) → AreOf names scope widths → AreSized names targets scope m.body
  pub once : AssignsOnce (is_among (target_names m.ports m.locals)) m.body
  pub nexts : AreNexts names m.body registers flats

-- What sources that texts spell have: a name of a design is one name, each concatenation has a part, and what is
-- `~` or a choice is no operator between two.
use Rattle.std.specs.Prelude.{◌≡◌, ℕ, List, [], ◌∷◌, Option, Some, None}
use Rattle.std.specs.List.{AllByRecursion}
use Rattle.lola_bits.specs.declared.op.Op.{Op}
use Rattle.lola_bits.specs.declared.op.Op.TheVariants as op
use Rattle.lola_tree.specs.declared.named.Ref.{Ref}
use Rattle.lola_tree.specs.Tree.{Tree, number, whole, bit, slice, index, concat, negation, binary, choice, Parts, no_part, one_part, ActualTree, StmtTree, assignment, call, pad, ModuleTree, SourceTree}

-- a path of one name
abbrev pub IsOneName : Ref → Type 0
IsOneName r = (name : List ℕ) × (r.path ≡ name ∷ [])

-- an operator that stands between two expressions, or is a shift
abbrev pub IsBetween : Op → Type 0
IsBetween op.Not = ⊥
IsBetween op.Mux = ⊥
IsBetween other = Unit {0}

-- an expression
abbrev mutual
  pub IsWrittenTree : Tree → Type 0
  IsWrittenTree (number n width at) = Unit {0}
  IsWrittenTree (whole of) = IsOneName of
  IsWrittenTree (bit of place at) = IsOneName of
  IsWrittenTree (slice of high low at) = IsOneName of
  IsWrittenTree (index of place at) = IsOneName of × IsWrittenTree place
  IsWrittenTree (concat no_part at) = ⊥
  IsWrittenTree (concat (one_part e times behind) at) = IsWrittenTree e × AreWrittenParts behind
  IsWrittenTree (negation e at) = IsWrittenTree e
  IsWrittenTree (binary o a b at) = IsBetween o × IsWrittenTree a × IsWrittenTree b
  IsWrittenTree (choice test first second at) = IsWrittenTree test × IsWrittenTree first × IsWrittenTree second

  pub AreWrittenParts : Parts → Type 0
  AreWrittenParts no_part = Unit {0}
  AreWrittenParts (one_part e times behind) = IsWrittenTree e × AreWrittenParts behind

-- a statement
abbrev pub IsWrittenPlace : Option ActualTree → Type 0
IsWrittenPlace None = Unit {0}
IsWrittenPlace (Some place) = IsWrittenTree place.value

abbrev pub IsWrittenArgument : ActualTree → Type 0
IsWrittenArgument a = IsWrittenTree a.value

abbrev pub IsWrittenStmt : StmtTree → Type 0
IsWrittenStmt (assignment name place e at equals) = IsWrittenPlace place × IsWrittenTree e
IsWrittenStmt (call name args at) = AllByRecursion IsWrittenArgument args
IsWrittenStmt (pad io inner drive release at) = IsWrittenTree drive.value × IsWrittenTree release.value

abbrev pub IsWrittenModule : ModuleTree → Type 0
IsWrittenModule m = AllByRecursion IsWrittenStmt m.body

-- all statements of a source
pub record IsWritten (S : SourceTree) : Type 0 where
  pub modules : AllByRecursion IsWrittenModule S.modules

-- The forms of well sized designs that are built: one module of IN and OUT ports and registers that are
-- vectors, whose values are over IN ports, registers and constants.
use Rattle.std.specs.Prelude.{◌≡◌, ◌≢◌, ◌+◌, ◌≤◌, [], ◌∷◌, length}
use Rattle.std.specs.List.{AllByRecursion}
use Rattle.lola_bits.specs.declared.op.Op.{Op}
use Rattle.lola_bits.specs.declared.op.Op.TheVariants as op
use Rattle.lola_tree.specs.declared.named.Shape.{Shape}
use Rattle.lola_tree.specs.declared.named.Shape.TheVariants as shape
use Rattle.lola_tree.specs.declared.module.Way.TheVariants.{Both}
use Rattle.lola_tree.specs.declared.module.Port.{Port}
use Rattle.lola_tree.specs.declared.module.LocalKind.{LocalKind}
use Rattle.lola_tree.specs.declared.module.LocalKind.TheVariants.{Reg, Var, Inst}
use Rattle.lola_tree.specs.declared.module.Local.{Local}
use Rattle.lola_tree.specs.Tree.{Tree, number, whole, bit, slice, index, concat, negation, binary, choice, Parts, no_part, one_part, StmtTree, assignment, call, pad, ModuleTree, SourceTree}
use Rattle.lola_elab.specs.Small.{IsLeaf, IsBuilt}

-- an operator that stands between two expressions, or is a shift
abbrev pub IsBetween : Op → Type 0
IsBetween op.Not = ⊥
IsBetween op.Mux = ⊥
IsBetween other = Unit {0}

-- a tree as texts have them: each concatenation has a part, and what is `~` or a choice is no operator
-- between two
abbrev mutual
  pub IsWritten : Tree → Type 0
  IsWritten (number n width at) = Unit {0}
  IsWritten (whole of) = Unit {0}
  IsWritten (bit of place at) = Unit {0}
  IsWritten (slice of high low at) = Unit {0}
  IsWritten (index of place at) = IsWritten place
  IsWritten (concat no_part at) = ⊥
  IsWritten (concat (one_part e times behind) at) = IsWritten e × AreWritten behind
  IsWritten (negation e at) = IsWritten e
  IsWritten (binary o a b at) = IsBetween o × IsWritten a × IsWritten b
  IsWritten (choice test first second at) = IsWritten test × IsWritten first × IsWritten second

  pub AreWritten : Parts → Type 0
  AreWritten no_part = Unit {0}
  AreWritten (one_part e times behind) = IsWritten e × AreWritten behind

-- a vector, and a register that is one
abbrev pub IsPlain : Shape → Type 0
IsPlain (shape.Vector width) = Unit {0}
IsPlain (shape.Array count width) = ⊥

abbrev pub IsPlainKind : LocalKind → Type 0
IsPlainKind (Reg clock type) = IsPlain type
IsPlainKind (Var type) = ⊥
IsPlainKind (Inst of) = ⊥

-- what is assigned is over IN ports but the clock, registers and constants
abbrev pub IsBuiltStmt : ModuleTree → StmtTree → Type 0
IsBuiltStmt m (assignment name place e at equals) = IsWritten e × IsBuilt (IsLeaf m) e
IsBuiltStmt m (call name args at) = Unit {0}
IsBuiltStmt m (pad io inner drive release at) = Unit {0}

-- a module without pads, variables, instances and arrays, whose values are over IN ports, registers and
-- constants, with at most 65,536 ports and registers
pub record IsBuiltModule (m : ModuleTree) : Type 0 where
  pub ports : AllByRecursion (λ (p : Port). p.way ≢ Both) m.ports
  pub locals : AllByRecursion (λ (l : Local). IsPlainKind l.kind) m.locals
  pub values : AllByRecursion (IsBuiltStmt m) m.body
  pub few_signals : length m.ports + length m.locals ≤ 65536

-- a design of one such module
pub record IsBuiltSource (S : SourceTree) : Type 0 where
  pub root : ModuleTree
  pub only : S.modules ≡ root ∷ []
  pub built : IsBuiltModule root

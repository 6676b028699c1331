-- The small form of a design: one module of ports, constants and registers that are vectors.
use Rattle.std.specs.Prelude.{◌≡◌, ◌≢◌, ◌⊎◌, ℕ, ◌+◌, ◌≤◌, false, List, [], ◌∷◌, length, map, Option, Some, None}
use Rattle.std.specs.List.{AllByRecursion}
use Rattle.lola_bits.specs.Lists.{AreDistinct, IsIn}
use Rattle.lola_bits.specs.declared.op.Op.{Op}
use Rattle.lola_bits.specs.declared.op.Op.TheVariants as op
use Rattle.lola_tree.specs.declared.named.Count.TheVariants as count
use Rattle.lola_tree.specs.declared.named.Ref.{Ref}
use Rattle.lola_tree.specs.declared.named.Shape.{Shape}
use Rattle.lola_tree.specs.declared.named.Shape.TheVariants as shape
use Rattle.lola_tree.specs.declared.module.Way.TheVariants.{Inward, Outward, Both}
use Rattle.lola_tree.specs.declared.module.Port.{Port}
use Rattle.lola_tree.specs.declared.module.Const.{Const}
use Rattle.lola_tree.specs.declared.module.LocalKind.{LocalKind}
use Rattle.lola_tree.specs.declared.module.LocalKind.TheVariants.{Reg, Var, Inst}
use Rattle.lola_tree.specs.declared.module.Local.{Local}
use Rattle.lola_tree.specs.Tree.{Tree, number, whole, bit, slice, index, concat, negation, binary, choice, Parts, no_part, one_part, StmtTree, assignment, call, pad, ModuleTree, SourceTree}
use Rattle.lola_tree.specs.Names.{entry_name, entries, names_of}
use Rattle.lola_tree.specs.Width.{number_width, vector_width, entry_width, width, scope_of}
use Rattle.lola_tree.specs.Cycle.{IsRegisterOf, IsInputOf}

-- a vector of one bit
abbrev pub IsBit : Shape → Type 0
IsBit (shape.Vector (count.Fixed width at)) = width ≡ 1
IsBit (shape.Vector (count.Const name)) = ⊥
IsBit (shape.Array items width) = ⊥

-- `& | ^`
abbrev pub IsLogic : Op → Type 0
IsLogic op.And = Unit {0}
IsLogic op.Or = Unit {0}
IsLogic op.Xor = Unit {0}
IsLogic other = ⊥

-- `~ & | ^`, the numbers 0 and 1 without a width, and names that may stand there
abbrev pub IsSmallExpr : (Ref → Type 0) → Tree → Type 0
IsSmallExpr Names (number n width at) = (n ≤ 1) × (width ≡ None)
IsSmallExpr Names (whole of) = Names of
IsSmallExpr Names (negation e at) = IsSmallExpr Names e
IsSmallExpr Names (binary o a b at) = IsLogic o × IsSmallExpr Names a × IsSmallExpr Names b
IsSmallExpr Names (choice test first second at) = ⊥
IsSmallExpr Names (bit of place at) = ⊥
IsSmallExpr Names (slice of high low at) = ⊥
IsSmallExpr Names (index of place at) = ⊥
IsSmallExpr Names (concat parts at) = ⊥

-- an expression over some names, whatever its widths are, without elements of arrays
abbrev mutual
  pub IsBuilt : (Ref → Type 0) → Tree → Type 0
  IsBuilt Names (number n width at) = Unit {0}
  IsBuilt Names (whole of) = Names of
  IsBuilt Names (bit of place at) = Names of
  IsBuilt Names (slice of high low at) = Names of
  IsBuilt Names (index of place at) = ⊥
  IsBuilt Names (concat parts at) = AreBuilt Names parts
  IsBuilt Names (negation e at) = IsBuilt Names e
  IsBuilt Names (binary o a b at) = IsBuilt Names a × IsBuilt Names b
  IsBuilt Names (choice test first second at) = IsBuilt Names test × IsBuilt Names first × IsBuilt Names second

  pub AreBuilt : (Ref → Type 0) → Parts → Type 0
  AreBuilt Names no_part = Unit {0}
  AreBuilt Names (one_part e times behind) = IsBuilt Names e × AreBuilt Names behind

-- the widths of the types that are vectors
abbrev pub Wide : Type 0
Wide = Shape → Option ℕ

abbrev pub wide_in : ModuleTree → Wide
wide_in m type = vector_width (names_of m) (Some type)

-- a type of 1 to 128 bits
pub record IsVector (wide : Wide) (type : Shape) : Type 0 where
  pub width : ℕ
  pub is : wide type ≡ Some width

-- a vector port, IN or OUT
abbrev pub IsSmallPort : Wide → Port → Type 0
IsSmallPort wide p = (p.way ≢ Both) × IsVector wide p.shape

-- a register that is a vector
abbrev pub IsSmallKind : Wide → LocalKind → Type 0
IsSmallKind wide (Reg clock type) = IsVector wide type
IsSmallKind wide (Var type) = ⊥
IsSmallKind wide (Inst of) = ⊥

-- a constant below 2 to its width
pub record IsSmallConst (c : Const) : Type 0 where
  pub width : ℕ
  pub is : number_width c.value c.width ≡ Some width

-- an input or a register of the module
abbrev pub IsReadable : ModuleTree → List ℕ → Type 0
IsReadable m name = ((type : Shape) × IsInputOf m name type) ⊎ ((clock : List ℕ) × (type : Shape) × IsRegisterOf m name clock type)

-- a constant of the module
abbrev pub IsConstantOf : ModuleTree → List ℕ → Type 0
IsConstantOf m name = (c : Const) × IsIn c m.consts × (name ≡ c.name)

-- a bare name of one of these
abbrev pub IsLeaf : ModuleTree → Ref → Type 0
IsLeaf m r = (r.source ≡ false) × ((name : List ℕ) × (r.path ≡ name ∷ []) × (IsReadable m name ⊎ IsConstantOf m name))

-- an OUT port or a register of the module
abbrev pub IsTarget : ModuleTree → List ℕ → Type 0
IsTarget m name =
    ((p : Port) × IsIn p m.ports × (p.way ≡ Outward) × (name ≡ p.name)) ⊎ ((clock : List ℕ) × (type : Shape) × IsRegisterOf m name clock type)

-- a name and an expression of one width
pub record HaveOneWidth (m : ModuleTree) (name : List ℕ) (e : Tree) : Type 0 where
  pub wide : ℕ
  pub name_is : entry_width (names_of m) (names_of m name) ≡ Some wide
  pub value_is : width (scope_of m) e ≡ Some wide

-- a whole assignment to a target, of an expression of its width over inputs, registers and constants
abbrev pub IsSmallStmt : ModuleTree → StmtTree → Type 0
IsSmallStmt m (assignment name None e at equals) = IsTarget m name × IsBuilt (IsLeaf m) e × HaveOneWidth m name e
IsSmallStmt m (assignment name (Some place) e at equals) = ⊥
IsSmallStmt m (call name args at) = ⊥
IsSmallStmt m (pad io inner drive release at) = ⊥

-- what a statement assigns
abbrev pub target_of : StmtTree → List ℕ
target_of (assignment name place e at equals) = name
target_of (call name args at) = name
target_of (pad io inner drive release at) = []

-- a module of vector ports, constants, and vector registers under one clock of one bit, each OUT port and
-- register assigned once, with at most 65,536 ports and registers
pub record IsSmallModule (m : ModuleTree) : Type 0 where
  pub ends : m.ends.name ≡ m.name
  pub distinct : AreDistinct (map entry_name (entries m))
  pub constants : AllByRecursion IsSmallConst m.consts
  pub ports : AllByRecursion (IsSmallPort (wide_in m)) m.ports
  pub registers : AllByRecursion (λ (l : Local). IsSmallKind (wide_in m) l.kind) m.locals
  pub one_clock : (a b c d : List ℕ) (t u : Shape) → IsRegisterOf m a c t → IsRegisterOf m b d u → c ≡ d
  pub clock_port : (name clock : List ℕ) (type : Shape) → IsRegisterOf m name clock type →
      (p : Port) × IsIn p m.ports × (p.way ≡ Inward) × (clock ≡ p.name) × (wide_in m p.shape ≡ Some 1)
  pub statements : AllByRecursion (IsSmallStmt m) m.body
  pub once : AreDistinct (map target_of m.body)
  pub each : (name : List ℕ) → IsTarget m name → IsIn name (map target_of m.body)
  pub few_signals : length m.ports + length m.locals ≤ 65536

-- a design of one such module
pub record IsSmallSource (S : SourceTree) : Type 0 where
  pub root : ModuleTree
  pub only : S.modules ≡ root ∷ []
  pub small : IsSmallModule root

-- The trees that definitions read. They hold no pointers, so two designs that are spelled alike have
-- one tree; each node keeps its place. Names are lists of bytes. What contains no expression is read
-- as the code has it.
use Rattle.std.specs.Prelude.{ℕ, List, [], ◌∷◌, map, Option, Some, None}
use Rattle.lola_bits.specs.declared.op.Op.{Op}
use Rattle.lola_tree.specs.declared.named.Named.{Named}
use Rattle.lola_tree.specs.declared.named.Count.{Count}
use Rattle.lola_tree.specs.declared.named.Ref.{Ref}
use Rattle.lola_tree.specs.declared.expr.Expr.{Expr}
use Rattle.lola_tree.specs.declared.expr.Expr.TheVariants.{Number, Whole, Bit, Slice, Index', Concat', Not', Binary', Choice'}
use Rattle.lola_tree.specs.declared.expr.Expr.TheBlock.{Row_of-Part, end_of-Part, more_of-Part}
use Rattle.lola_tree.specs.declared.expr.Part.{Part}
use Rattle.lola_tree.specs.declared.expr.Actual.{Actual}
use Rattle.lola_tree.specs.declared.module.Port.{Port}
use Rattle.lola_tree.specs.declared.module.Const.{Const}
use Rattle.lola_tree.specs.declared.module.Local.{Local}
use Rattle.lola_tree.specs.declared.module.Stmt.{Stmt}
use Rattle.lola_tree.specs.declared.module.Stmt.TheVariants.{Assign, Call, Pad}
use Rattle.lola_tree.specs.declared.module.Module.{Module}
use Rattle.lola_tree.specs.declared.module.Source.{Source}

mutual
  -- an expression
  pub data Tree : Type 0 where
    number : (value : ℕ) (width : Option ℕ) (at : ℕ) → Tree
    whole : (of : Ref) → Tree
    bit : (of : Ref) (index : Count) (at : ℕ) → Tree
    slice : (of : Ref) (high low : Count) (at : ℕ) → Tree
    index : (of : Ref) (place : Tree) (at : ℕ) → Tree
    concat : (parts : Parts) (at : ℕ) → Tree
    negation : (arg : Tree) (at : ℕ) → Tree
    binary : (op : Op) (left right : Tree) (at : ℕ) → Tree
    choice : (test first second : Tree) (at : ℕ) → Tree

  -- the parts of a concatenation, each with how often it stands there
  pub data Parts : Type 0 where
    no_part : Parts
    one_part : (value : Tree) (times : Count) (behind : Parts) → Parts

-- the tree of an expression as the code holds it
abbrev mutual
  pub tree : Expr → Tree
  tree (Number value width at) = number value width at
  tree (Whole of) = whole of
  tree (Bit of place at) = bit of place at
  tree (Slice of high low at) = slice of high low at
  tree (Index' of pointer place at) = index of (tree place) at
  tree (Concat' shape parts at) = concat (part_trees parts) at
  tree (Not' pointer arg at) = negation (tree arg) at
  tree (Binary' op p left q right at) = binary op (tree left) (tree right) at
  tree (Choice' p test q first r second at) = choice (tree test) (tree first) (tree second) at

  pub part_trees : {count : _} → Row_of-Part count → Parts
  part_trees end_of-Part = no_part
  part_trees (more_of-Part value times behind) = one_part (tree value) times (part_trees behind)

-- the same over the list of parts, as the code holds them
abbrev pub parts_tree : List Part → Parts
parts_tree [] = no_part
parts_tree (p ∷ more) = one_part (tree p.value) p.times (parts_tree more)

-- an argument, with the place of its first token
pub record ActualTree : Type 0 where
  pub value : Tree
  pub at : ℕ

abbrev pub actual_tree : Actual → ActualTree
actual_tree a = record { value = tree a.value; at = a.at }

abbrev pub place_tree : Option Actual → Option ActualTree
place_tree None = None
place_tree (Some a) = Some (actual_tree a)

-- a statement
pub data StmtTree : Type 0 where
  assignment : (name : List ℕ) (place : Option ActualTree) (value : Tree) (at equals : ℕ) → StmtTree
  call : (name : List ℕ) (args : List ActualTree) (at : ℕ) → StmtTree
  pad : (io inner : Named) (value release : ActualTree) (at : ℕ) → StmtTree

abbrev pub stmt_tree : Stmt → StmtTree
stmt_tree (Assign name place value at equals) = assignment name (place_tree place) (tree value) at equals
stmt_tree (Call name args at) = call name (map actual_tree args) at
stmt_tree (Pad io inner value release at) = pad io inner (actual_tree value) (actual_tree release) at

pub record ModuleTree : Type 0 where
  pub name : List ℕ
  pub ports : List Port
  pub consts : List Const
  pub locals : List Local
  pub body : List StmtTree
  pub ends : Named
  pub at : ℕ

abbrev pub module_tree : Module → ModuleTree
module_tree m = record {
  name = m.name;
  ports = m.ports;
  consts = m.consts;
  locals = m.locals;
  body = map stmt_tree m.body;
  ends = m.ends;
  at = m.at;
}

-- a design is its modules in text order, the root last
pub record SourceTree : Type 0 where
  pub modules : List ModuleTree

abbrev pub source_tree : Source → SourceTree
source_tree s = record { modules = map module_tree s.modules }

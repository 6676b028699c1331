-- The trees of flat designs that definitions read. They hold no pointers, and names are lists of bytes.
use Rattle.std.specs.Prelude.{ℕ, List, [], ◌∷◌, map, Option, Some, None}
use Rattle.lola_bits.specs.declared.op.Op.{Op}
use Rattle.lola_flat.specs.declared.expr.FExpr.{FExpr}
use Rattle.lola_flat.specs.declared.expr.FExpr.TheVariants.{Number, Signal, Outside, Element', Slice', Join', Repeat', Apply'}
use Rattle.lola_flat.specs.declared.expr.FExpr.TheBlock.{Row_of-FExpr, end_of-FExpr, more_of-FExpr}
use Rattle.lola_flat.specs.declared.design.SigKind.{SigKind}
use Rattle.lola_flat.specs.declared.design.Signal.{Signal as FlatSignal}
use Rattle.lola_flat.specs.declared.design.Flat.{Flat}

mutual
  -- an expression over signals by their numbers
  pub data ExprTree : Type 0 where
    number : (width value : ℕ) → ExprTree
    signal : (of : ℕ) → ExprTree
    from_outside : (of : ℕ) → ExprTree
    element : (of : ℕ) (place : ExprTree) → ExprTree
    slice : (of : ExprTree) (high low : ℕ) → ExprTree
    join : (parts : ExprTrees) → ExprTree
    repeat : (part : ExprTree) (times : ℕ) → ExprTree
    apply : (o : Op) (args : ExprTrees) → ExprTree

  pub data ExprTrees : Type 0 where
    no_expr : ExprTrees
    one_expr : (first : ExprTree) (behind : ExprTrees) → ExprTrees

-- the tree of an expression as the code holds it
abbrev mutual
  pub expr_tree : FExpr → ExprTree
  expr_tree (Number value) = number value.width value.value
  expr_tree (Signal of) = signal of
  expr_tree (Outside of) = from_outside of
  expr_tree (Element' of pointer place) = element of (expr_tree place)
  expr_tree (Slice' pointer of high low) = slice (expr_tree of) high low
  expr_tree (Join' shape parts) = join (row_trees parts)
  expr_tree (Repeat' pointer part times) = repeat (expr_tree part) times
  expr_tree (Apply' o shape args) = apply o (row_trees args)

  pub row_trees : {count : _} → Row_of-FExpr count → ExprTrees
  row_trees end_of-FExpr = no_expr
  row_trees (more_of-FExpr first behind) = one_expr (expr_tree first) (row_trees behind)

-- the same over a list, as the code holds it
abbrev pub expr_trees : List FExpr → ExprTrees
expr_trees [] = no_expr
expr_trees (e ∷ es) = one_expr (expr_tree e) (expr_trees es)

abbrev pub some_tree : Option FExpr → Option ExprTree
some_tree None = None
some_tree (Some e) = Some (expr_tree e)

-- a signal
pub record SignalTree : Type 0 where
  pub path : List (List ℕ)
  pub kind : SigKind
  pub width : ℕ
  pub count : ℕ
  pub place : Option ExprTree
  pub equation : Option ExprTree

abbrev pub signal_tree : FlatSignal → SignalTree
signal_tree s = record { path = s.path; kind = s.kind; width = s.width; count = s.count; place = some_tree s.place; equation = some_tree s.equation }

-- a flat design
pub record FlatTree : Type 0 where
  pub root : List ℕ
  pub clock : Option (List ℕ)
  pub ports : List ℕ
  pub signals : List SignalTree
  pub order : List ℕ

abbrev pub flat_tree : Flat → FlatTree
flat_tree f = record { root = f.root; clock = f.clock; ports = f.ports; signals = map signal_tree f.signals; order = f.order }

-- What each part of a design adds to its flat design: signals, and what gives some of them their values, by their
-- numbers.
use Rattle.std.specs.Prelude.{ℕ, zero, suc, Bool, true, false, if◌then◌else◌, List, [], ◌∷◌, ◌++◌, map, flat_map, Option, Some, None}
use Rattle.std.specs.Option.{is_none}
use Rattle.lola_bits.specs.declared.op.Op.TheVariants as op
use Rattle.lola_bits.specs.Names.{is_among}
use Rattle.lola_tree.specs.declared.named.Shape.{Shape}
use Rattle.lola_tree.specs.declared.module.Way.{Way}
use Rattle.lola_tree.specs.declared.module.Way.TheVariants.{Inward, Outward, Both}
use Rattle.lola_tree.specs.declared.module.Port.{Port}
use Rattle.lola_tree.specs.Tree.{Tree, ActualTree, StmtTree, assignment, call, pad}
use Rattle.lola_tree.specs.Names.{Names, names_of}
use Rattle.lola_tree.specs.Signals.{register_names}
use Rattle.lola_tree.specs.Value.{Path}
use Rattle.lola_tree.specs.design.Calls.{bare_path}
use Rattle.lola_tree.specs.design.Places.{pad_of, Place}
use Rattle.lola_tree.specs.design.Signals.{Signal}
use Rattle.lola_tree.specs.design.Equations.{Equation, place_equations, Update, place_updates}
use Rattle.lola_tree.specs.design.Chains.{flat_equation}
use Rattle.lola_flat.specs.declared.design.SigKind.{SigKind}
use Rattle.lola_flat.specs.declared.design.SigKind.TheVariants.{Input, Pad, Wire}
use Rattle.lola_flat.specs.Tree.{ExprTree, signal, from_outside, apply, no_expr, one_expr, expr_tree, some_tree}
use Rattle.lola_unfold.specs.declared.made.Head.{Head}
use Rattle.lola_unfold.specs.declared.made.Next.{Next}
use Rattle.lola_unfold.specs.declared.made.Made.{Made}
use Rattle.lola_unfold.specs.Translated.{Numbers, translated}
use Rattle.lola_unfold.specs.Flat.{flat_kind, flat_width, flat_count, seen_from, flat_right, actual_place}
use Rattle.lola_unfold.specs.Tables.{Among}
use Rattle.lola_unfold.specs.Measured.{is_hidden}

-- the next value of a register, and the place that it is written to
pub record NextTree : Type 0 where
  pub place : Option ExprTree
  pub value : ExprTree

abbrev pub next_tree : Next → NextTree
next_tree n = record { place = some_tree n.place; value = expr_tree n.value }

abbrev pub some_next : Option Next → Option NextTree
some_next None = None
some_next (Some n) = Some (next_tree n)

-- signals without equations, and for each number what gives its value or its next value
pub record MadeTree : Type 0 where
  pub heads : List Head
  pub equations : List (Option ExprTree)
  pub nexts : List (Option NextTree)

abbrev pub made_tree : Made → MadeTree
made_tree m = record { heads = m.heads.items; equations = map some_tree m.equations.items; nexts = map some_next m.nexts.items }

-- nothing was put to a place that is there
abbrev pub is_free : {X : Type 0} → Option (Option X) → Bool
is_free None = false
is_free (Some o) = is_none o

-- the first that is put to a number stays
abbrev pub first_put : {X : Type 0} → Option X → X → Option X
first_put None x = Some x
first_put (Some y) x = Some y

abbrev pub put_first : {X : Type 0} → List (Option X) → ℕ → X → List (Option X)
put_first [] n x = []
put_first (o ∷ os) zero x = first_put o x ∷ os
put_first (o ∷ os) (suc n) x = o ∷ put_first os n x

abbrev pub put_all : {X : Type 0} → List (Option X) → List (ℕ × X) → List (Option X)
put_all os [] = os
put_all os (p ∷ ps) = put_all (put_first os p.0 p.1) ps

-- what is added
pub record Piece : Type 0 where
  pub heads : List Head
  pub equations : List (ℕ × ExprTree)
  pub nexts : List (ℕ × NextTree)

abbrev pub grow : MadeTree → Piece → MadeTree
grow f p = record { heads = f.heads ++ p.heads; equations = put_all f.equations p.equations; nexts = put_all f.nexts p.nexts }

abbrev pub joined : Piece → Piece → Piece
joined a b = record { heads = a.heads ++ b.heads; equations = a.equations ++ b.equations; nexts = a.nexts ++ b.nexts }

-- what is known at a place: what its names stand for, which are registers and which are clocks, the numbers of paths
-- from there, those of the pads that INOUT ports stand for, and its path
pub record View : Type 0 where
  pub names : Names
  pub registers : Among
  pub clocks : Among
  pub here : Numbers
  pub pads : List ℕ → ℕ
  pub path : Path

abbrev pub view_at : Numbers → Place → View
view_at N a = record {
  names = names_of a.module_;
  registers = is_among (register_names a.module_.locals);
  clocks = is_among a.clocks;
  here = seen_from N a.path;
  pads = λ name. N (pad_of a.pads name);
  path = a.path;
}

-- what drives a pad, and its inner name
abbrev pub pad_puts : View → List ℕ → List ℕ → Tree → Tree → List (ℕ × ExprTree)
pad_puts w io inner drive release =
    (w.pads io, apply op.Mux (one_expr (translated w.names w.here release) (one_expr (from_outside (w.pads io)) (one_expr (translated w.names w.here drive) no_expr))))
    ∷ (w.here (inner ∷ []), signal (w.here (io ∷ []))) ∷ []

-- what is assigned: a register has it as its next value, and anything else as its value
abbrev pub assigned_puts : View → List ℕ → Tree → List (ℕ × ExprTree)
assigned_puts w name e = if w.registers name then [] else (w.here (name ∷ []), translated w.names w.here e) ∷ []

abbrev pub assigned_nexts : View → List ℕ → Option ActualTree → Tree → List (ℕ × NextTree)
assigned_nexts w name place e =
    if w.registers name then (w.here (name ∷ []), record { place = actual_place w.names w.here place; value = translated w.names w.here e }) ∷ [] else []

abbrev pub assigned_piece : View → List ℕ → Option ActualTree → Tree → Piece
assigned_piece w name place e = record { heads = []; equations = assigned_puts w name e; nexts = assigned_nexts w name place e }

-- what a statement gives values to
abbrev pub stmt_puts : View → StmtTree → List (ℕ × ExprTree)
stmt_puts w (assignment name place e at equals) = assigned_puts w name e
stmt_puts w (call name args at) = []
stmt_puts w (pad io inner drive release at) = pad_puts w io.name inner.name drive.value release.value

-- and next values
abbrev pub stmt_nexts : View → StmtTree → List (ℕ × NextTree)
stmt_nexts w (assignment name place e at equals) = assigned_nexts w name place e
stmt_nexts w (call name args at) = []
stmt_nexts w (pad io inner drive release at) = []

abbrev pub pad_piece : View → List ℕ → List ℕ → Tree → Tree → Piece
pad_piece w io inner drive release = record { heads = []; equations = pad_puts w io inner drive release; nexts = [] }

abbrev pub stmt_piece : View → StmtTree → Piece
stmt_piece w t = record { heads = []; equations = stmt_puts w t; nexts = stmt_nexts w t }

abbrev pub body_piece : View → List StmtTree → Piece
body_piece w body = record { heads = []; equations = flat_map (stmt_puts w) body; nexts = flat_map (stmt_nexts w) body }

-- what an argument gives values to, over the names of the module that calls
abbrev pub way_puts : Way → Bool → View → View → List ℕ → Tree → List (ℕ × ExprTree)
way_puts Inward true w c port arg = []
way_puts Inward false w c port arg = (w.here (port ∷ []), translated c.names c.here arg) ∷ []
way_puts Outward is_clock w c port arg = (c.here (bare_path arg), signal (w.here (port ∷ []))) ∷ []
way_puts Both is_clock w c port arg = (w.here (port ∷ []), signal (c.here (bare_path arg))) ∷ []

abbrev pub way_piece : View → View → Port → Tree → Piece
way_piece w c port arg = record { heads = []; equations = way_puts port.way (w.clocks port.name) w c port.name arg; nexts = [] }

abbrev pub arg_puts : View → View → List Port → List ActualTree → List (ℕ × ExprTree)
arg_puts w c [] args = []
arg_puts w c (port ∷ ports) [] = []
arg_puts w c (port ∷ ports) (a ∷ args) = way_puts port.way (w.clocks port.name) w c port.name a.value ++ arg_puts w c ports args

abbrev pub args_piece : View → View → List Port → List ActualTree → Piece
args_piece w c ports args = record { heads = []; equations = arg_puts w c ports args; nexts = [] }

-- a signal
abbrev pub head_of : View → List ℕ → SigKind → Shape → Head
head_of w name kind type = record { path = w.path ++ name ∷ []; kind = kind; width = flat_width w.names type; count = flat_count w.names type }

abbrev pub head_piece : Head → Piece
head_piece h = record { heads = h ∷ []; equations = []; nexts = [] }

-- those of the ports of an instance
abbrev pub port_heads : View → Port → List Head
port_heads w p = if is_hidden p.way (w.clocks p.name) then [] else head_of w p.name Wire p.shape ∷ []

abbrev pub ports_piece : View → List Port → Piece
ports_piece w ports = record { heads = flat_map (port_heads w) ports; equations = []; nexts = [] }

-- and of the root
abbrev pub root_kind_of : Way → SigKind
root_kind_of Inward = Input
root_kind_of Outward = Wire
root_kind_of Both = Pad

abbrev pub root_piece : View → List Port → Piece
root_piece w ports = record { heads = map (λ (p : Port). head_of w p.name (root_kind_of p.way) p.shape) ports; equations = []; nexts = [] }

-- the same of the signals and places of a design
abbrev pub head : Signal → Head
head x = record { path = x.path; kind = flat_kind x.kind; width = flat_width x.names x.type; count = flat_count x.names x.type }

abbrev pub equation_put : Numbers → Equation → ℕ × ExprTree
equation_put N e = (N (flat_equation e).left, flat_right N (flat_equation e).right)

abbrev pub update_put : Numbers → Update → ℕ × NextTree
update_put N u =
    (N u.left, record { place = actual_place (names_of u.module_) (seen_from N u.path) u.place; value = translated (names_of u.module_) (seen_from N u.path) u.value })

abbrev pub place_puts : Numbers → Place → List (ℕ × ExprTree)
place_puts N a = map (equation_put N) (place_equations a)

abbrev pub place_nexts : Numbers → Place → List (ℕ × NextTree)
place_nexts N a = map (update_put N) (place_updates a)

abbrev pub piece : Numbers → List Signal → List Place → Piece
piece N xs places = record { heads = map head xs; equations = flat_map (place_puts N) places; nexts = flat_map (place_nexts N) places }

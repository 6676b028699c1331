-- The flat design of a source: its signals in signal order, each with the expression that gives its value or its
-- next value, over the numbers of signals.
use Rattle.std.specs.Prelude.{◌≡◌, ℕ, if◌then◌else◌, List, [], ◌∷◌, ◌++◌, map, flat_map, length, reverse, Option, Some, None}
use Rattle.lola_bits.specs.declared.op.Op.TheVariants as op
use Rattle.lola_tree.specs.declared.named.Shape.{Shape}
use Rattle.lola_tree.specs.declared.named.Shape.TheVariants as shape
use Rattle.lola_tree.specs.Tree.{ActualTree, ModuleTree, SourceTree}
use Rattle.lola_tree.specs.Names.{Names, names_of, first_name}
use Rattle.lola_tree.specs.Value.{Path}
use Rattle.lola_tree.specs.design.Signals.{Kind, clock, input, pad, wire, register, Signal, signals, signal_paths}
use Rattle.lola_tree.specs.design.Equations.{Right, expression, copied, driven, Update, updates}
use Rattle.lola_tree.specs.design.Chains.{flat_equations}
use Rattle.lola_design.specs.Paths.{path_eq}
use Rattle.lola_design.specs.Graph.{number_of, right_of}
use Rattle.lola_order.specs.Graph.{Graph, IsOrder}
use Rattle.lola_flat.specs.declared.design.SigKind.{SigKind}
use Rattle.lola_flat.specs.declared.design.SigKind.TheVariants.{Input, Pad, Wire, Register}
use Rattle.lola_flat.specs.Numbers.{first_numbers}
use Rattle.lola_flat.specs.Tree.{ExprTree, signal, from_outside, apply, no_expr, one_expr, SignalTree, FlatTree}
use Rattle.lola_flat.specs.Value.{Read, vector_of, array_of, outside_of, reads}
use Rattle.lola_unfold.specs.Translated.{Numbers, counted, translated}

-- the clock of the root is an input
abbrev pub flat_kind : Kind → SigKind
flat_kind clock = Input
flat_kind input = Input
flat_kind pad = Pad
flat_kind wire = Wire
flat_kind register = Register

-- the width of a type and how many elements it has
abbrev pub flat_width : Names → Shape → ℕ
flat_width names (shape.Vector width) = counted names width
flat_width names (shape.Array count width) = counted names width

abbrev pub flat_count : Names → Shape → ℕ
flat_count names (shape.Vector width) = 1
flat_count names (shape.Array count width) = counted names count

-- the numbers of the names that a module sees at a path
abbrev pub seen_from : Numbers → Path → Numbers
seen_from numbers p x = numbers (p ++ x)

-- the right side of an equation. What drives a pad is a choice: where its release is 1 the pad carries the outside
-- value of the root's pad that it stands for
abbrev pub flat_right : Numbers → Right → ExprTree
flat_right numbers (expression m p e) = translated (names_of m) (seen_from numbers p) e
flat_right numbers (copied other) = signal (numbers other)
flat_right numbers (driven m p drive release io) =
    apply op.Mux (one_expr (translated (names_of m) (seen_from numbers p) release) (one_expr (from_outside (numbers io))
    (one_expr (translated (names_of m) (seen_from numbers p) drive) no_expr)))

abbrev pub flat_rights : Numbers → Option Right → Option ExprTree
flat_rights numbers None = None
flat_rights numbers (Some r) = Some (flat_right numbers r)

-- the update of a register, by its path
abbrev pub update_of : List Update → Path → Option Update
update_of [] x = None
update_of (u ∷ us) x = if path_eq u.left x then Some u else update_of us x

-- the place that an update writes, and the value
abbrev pub actual_place : Names → Numbers → Option ActualTree → Option ExprTree
actual_place names numbers None = None
actual_place names numbers (Some a) = Some (translated names numbers a.value)

abbrev pub flat_place : Numbers → Option Update → Option ExprTree
flat_place numbers None = None
flat_place numbers (Some u) = actual_place (names_of u.module_) (seen_from numbers u.path) u.place

abbrev pub flat_next : Numbers → Option Update → Option ExprTree
flat_next numbers None = None
flat_next numbers (Some u) = Some (translated (names_of u.module_) (seen_from numbers u.path) u.value)

-- what gives a signal its value or next value: an equation for a wire or a pad, an update for a register
abbrev pub place_by : Kind → Option Right → Option Update → Numbers → Option ExprTree
place_by clock right update numbers = None
place_by input right update numbers = None
place_by pad right update numbers = None
place_by wire right update numbers = None
place_by register right update numbers = flat_place numbers update

abbrev pub equation_by : Kind → Option Right → Option Update → Numbers → Option ExprTree
equation_by clock right update numbers = None
equation_by input right update numbers = None
equation_by pad right update numbers = flat_rights numbers right
equation_by wire right update numbers = flat_rights numbers right
equation_by register right update numbers = flat_next numbers update

-- the number of a path: its place in signal order
abbrev pub numbers_of : SourceTree → Numbers
numbers_of S = number_of (signal_paths S)

abbrev pub flat_signal : SourceTree → Signal → SignalTree
flat_signal S x = record {
  path = x.path;
  kind = flat_kind x.kind;
  width = flat_width x.names x.type;
  count = flat_count x.names x.type;
  place = place_by x.kind (right_of (flat_equations S) x.path) (update_of (updates S) x.path) (numbers_of S);
  equation = equation_by x.kind (right_of (flat_equations S) x.path) (update_of (updates S) x.path) (numbers_of S);
}

-- the name of the clock, where a signal is the clock
abbrev pub named_clock : Kind → Path → Option (List ℕ) → Option (List ℕ)
named_clock clock path others = Some (first_name path)
named_clock input path others = others
named_clock pad path others = others
named_clock wire path others = others
named_clock register path others = others

abbrev pub clock_name : List Signal → Option (List ℕ)
clock_name [] = None
clock_name (x ∷ xs) = named_clock x.kind x.path (clock_name xs)

-- the name of the root, which is the last module, and how many ports it has
abbrev pub root_name : List ModuleTree → List ℕ
root_name [] = []
root_name (m ∷ earlier) = m.name

abbrev pub port_count : List ModuleTree → ℕ
port_count [] = 0
port_count (m ∷ earlier) = length m.ports

-- the flat design of a source, with an order
abbrev pub flat_design : SourceTree → List ℕ → FlatTree
flat_design S order = record {
  root = root_name (reverse S.modules);
  clock = clock_name (signals S);
  ports = first_numbers (port_count (reverse S.modules));
  signals = map (flat_signal S) (signals S);
  order = order;
}

-- the vectors that are read
abbrev pub vector_read : Read → List ℕ
vector_read (vector_of n) = n ∷ []
vector_read (array_of n) = []
vector_read (outside_of n) = []

abbrev pub vectors_read : ExprTree → List ℕ
vectors_read e = flat_map vector_read (reads e)

-- what the equation of a wire or a pad uses; other signals are given
abbrev pub some_uses : Option ExprTree → Option (List ℕ)
some_uses None = None
some_uses (Some e) = Some (vectors_read e)

abbrev pub kind_uses : SigKind → Option ExprTree → Option (List ℕ)
kind_uses Input equation = None
kind_uses Register equation = None
kind_uses Pad equation = some_uses equation
kind_uses Wire equation = some_uses equation

abbrev pub flat_graph : List SignalTree → Graph
flat_graph signals = map (λ (s : SignalTree). kind_uses s.kind s.equation) signals

-- a flat design is that of a source, in the order of its equations
pub record IsElaborated (S : SourceTree) (F : FlatTree) : Type 0 where
  pub is : F ≡ flat_design S F.order
  pub order : IsOrder (flat_graph F.signals) F.order

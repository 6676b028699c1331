-- The equations of a design: what each signal but the inputs and registers has to be in a cycle.
use Rattle.std.specs.Prelude.{◌≡◌, ℕ, Bool, true, false, cond, if◌then◌else◌, nat_eq, List, [], ◌∷◌, ◌++◌, flat_map, Option, Some, None}
use Rattle.lola_tree.specs.declared.module.Way.{Way}
use Rattle.lola_tree.specs.declared.module.Way.TheVariants.{Inward, Outward, Both}
use Rattle.lola_tree.specs.declared.module.Port.{Port}
use Rattle.lola_tree.specs.Tree.{Tree, ActualTree, StmtTree, assignment, call, pad, ModuleTree, SourceTree}
use Rattle.lola_tree.specs.Width.{scope_of}
use Rattle.lola_tree.specs.Value.{Path, Values, value}
use Rattle.lola_bits.specs.Lists.{IsIn}
use Rattle.lola_tree.specs.Cycle.{names_at}
use Rattle.lola_bits.specs.Names.{is_among}
use Rattle.lola_tree.specs.Signals.{register_names}
use Rattle.lola_tree.specs.design.Calls.{bare_path}
use Rattle.lola_tree.specs.design.Places.{pad_of, Caller, Place, places}

-- the right side of an equation: an expression over the names of a module at a path; the value of another
-- path; or what a pad carries that is driven there, where `outside` is the pad of the root that it stands for
pub data Right : Type 0 where
  expression : (m : ModuleTree) (p : Path) (e : Tree) → Right
  copied : (from : Path) → Right
  driven : (m : ModuleTree) (p : Path) (drive release : Tree) (outside : Path) → Right

pub record Equation : Type 0 where
  pub left : Path
  pub right : Right

-- its value, where the outside gives each pad of the root a value. A driven pad carries what drives it where
-- it isn't released, and else the outside value
abbrev pub right_value : Values → Values → Right → ℕ
right_value outside v (expression m p e) = value (scope_of m) e (names_at p v)
right_value outside v (copied other) = v other 0
right_value outside v (driven m p drive release io) =
    cond (nat_eq (value (scope_of m) release (names_at p v)) 1) (outside io 0) (value (scope_of m) drive (names_at p v))

-- a port and its argument: an IN port but the clock has the value of the argument, the argument of an OUT port
-- has that of the port, and an INOUT port has that of the argument
abbrev pub way_equations : Way → Bool → Path → ModuleTree → Path → Tree → List Equation
way_equations Inward true port m p arg = []
way_equations Inward false port m p arg = record { left = port; right = expression m p arg } ∷ []
way_equations Outward is_clock port m p arg = record { left = p ++ bare_path arg; right = copied port } ∷ []
way_equations Both is_clock port m p arg = record { left = port; right = copied (p ++ bare_path arg) } ∷ []

abbrev pub arg_equations : List (List ℕ) → Path → ModuleTree → Path → List Port → List ActualTree → List Equation
arg_equations clocks q m p [] args = []
arg_equations clocks q m p (port ∷ ports) [] = []
arg_equations clocks q m p (port ∷ ports) (a ∷ args) =
    way_equations port.way (is_among clocks port.name) (q ++ port.name ∷ []) m p a.value ++ arg_equations clocks q m p ports args

-- those of the arguments of an instance
abbrev pub caller_equations : Place → Option Caller → List Equation
caller_equations a None = []
caller_equations a (Some c) = arg_equations a.clocks a.path c.module_ c.path a.module_.ports c.args

-- those of a statement: what is assigned and is no register has the assigned value; a pad carries what drives
-- it or the outside value, and the inner name is what the pad carries
abbrev pub stmt_equations : Place → StmtTree → List Equation
stmt_equations a (assignment name place e at equals) =
    if is_among (register_names a.module_.locals) name then [] else record { left = a.path ++ name ∷ []; right = expression a.module_ a.path e } ∷ []
stmt_equations a (call name args at) = []
stmt_equations a (pad io inner drive release at) =
    record { left = a.path ++ io.name ∷ []; right = driven a.module_ a.path drive.value release.value (pad_of a.pads io.name) }
    ∷ record { left = a.path ++ inner.name ∷ []; right = copied (a.path ++ io.name ∷ []) } ∷ []

abbrev pub place_equations : Place → List Equation
place_equations a = caller_equations a a.caller ++ flat_map (stmt_equations a) a.module_.body

-- all equations of a design
abbrev pub equations : SourceTree → List Equation
equations S = flat_map place_equations (places S)

-- a valuation satisfies an equation
abbrev pub Meets : Values → Values → Equation → Type 0
Meets outside v e = v e.left 0 ≡ right_value outside v e.right

-- and all of a design
abbrev pub Holds : SourceTree → Values → Values → Type 0
Holds S outside v = (e : Equation) → IsIn e (equations S) → Meets outside v e

-- what an assignment to a register makes of it behind the clock edge: an expression over the names of a module
-- at a path, of a whole register or of the element of an array at a place
pub record Update : Type 0 where
  pub left : Path
  pub module_ : ModuleTree
  pub path : Path
  pub place : Option ActualTree
  pub value : Tree

abbrev pub stmt_updates : Place → StmtTree → List Update
stmt_updates a (assignment name place e at equals) =
    if is_among (register_names a.module_.locals) name then record { left = a.path ++ name ∷ []; module_ = a.module_; path = a.path; place = place; value = e } ∷ [] else []
stmt_updates a (call name args at) = []
stmt_updates a (pad io inner drive release at) = []

abbrev pub place_updates : Place → List Update
place_updates a = flat_map (stmt_updates a) a.module_.body

-- the updates of all registers of a design
abbrev pub updates : SourceTree → List Update
updates S = flat_map place_updates (places S)

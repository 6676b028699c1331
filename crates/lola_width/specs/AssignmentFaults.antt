-- The faults of assignments: what must be set or called once is so never, or twice.
use Rattle.std.specs.Prelude.{ℕ, Bool, false, cond, ◌||◌, bytes_eq, List, [], ◌∷◌, ◌++◌, Option, Some, None}
use Rattle.lola_tree.specs.declared.named.Named.{Named}
use Rattle.lola_tree.specs.declared.named.Ref.{Ref}
use Rattle.lola_tree.specs.declared.module.Port.{Port}
use Rattle.lola_tree.specs.declared.module.Local.{Local}
use Rattle.lola_tree.specs.Tree.{Tree, ActualTree, StmtTree, assignment, call, pad, ModuleTree}
use Rattle.lola_tree.specs.Names.{Names, ref_name}
use Rattle.lola_tree.specs.Signals.{is_inward}
use Rattle.lola_width.specs.declared.fault.SourceFault.{SourceFault}
use Rattle.lola_width.specs.declared.fault.SourceFault.TheVariants.{NotAssigned, AssignedTwice}
use Rattle.lola_width.specs.declared.interface.Pin.{Pin}
use Rattle.lola_width.specs.Interface.{Seen, bare_name, instance_pins, listed, first_pin, later_pins}

-- the argument of an OUT or INOUT port is a target where it is a bare name
abbrev pub bare_target : Option Ref → List Named
bare_target None = []
bare_target (Some of) = record { name = ref_name of; at = of.at } ∷ []

abbrev pub arg_targets : Option Pin → Tree → List Named
arg_targets None e = []
arg_targets (Some pin) e = cond (is_inward pin.way) [] (bare_target (bare_name e))

abbrev pub args_targets : List ActualTree → List Pin → List Named
args_targets [] pins = []
args_targets (a ∷ args) pins = arg_targets (first_pin pins) a.value ++ args_targets args (later_pins pins)

-- what a statement sets or calls, in text order
abbrev pub stmt_targets : Names → Seen → StmtTree → List Named
stmt_targets names seen (assignment name place value at equals) = record { name = name; at = at } ∷ []
stmt_targets names seen (call name args at) = record { name = name; at = at } ∷ args_targets args (listed (instance_pins seen (names name)))
stmt_targets names seen (pad io inner value release at) = io ∷ inner ∷ []

abbrev pub body_targets : Names → Seen → List StmtTree → List Named
body_targets names seen [] = []
body_targets names seen (t ∷ body) = stmt_targets names seen t ++ body_targets names seen body

-- the names that were targets
abbrev pub Taken : Type 0
Taken = List ℕ → Bool

abbrev pub none_taken : Taken
none_taken name = false

abbrev pub taken_with : Taken → List ℕ → Taken
taken_with taken name other = bytes_eq name other || taken other

abbrev pub taken_with_all : Taken → List Named → Taken
taken_with_all taken [] = taken
taken_with_all taken (t ∷ targets) = taken_with_all (taken_with taken t.name) targets

-- targets of names that were targets before
abbrev pub again : Taken → ℕ → List ℕ → List SourceFault
again taken at name = cond (taken name) (AssignedTwice at name ∷ []) []

abbrev pub twice : Taken → List Named → List SourceFault
twice taken [] = []
twice taken (t ∷ targets) = again taken t.at t.name ++ twice (taken_with taken t.name) targets

-- a name that never was a target
abbrev pub never_taken : Taken → ℕ → List ℕ → List SourceFault
never_taken taken at name = cond (taken name) [] (NotAssigned at name ∷ [])

-- OUT and INOUT ports, and all local names, must be targets
abbrev pub port_never : Taken → Port → List SourceFault
port_never taken p = cond (is_inward p.way) [] (never_taken taken p.at p.name)

abbrev pub ports_never : Taken → List Port → List SourceFault
ports_never taken [] = []
ports_never taken (p ∷ ports) = port_never taken p ++ ports_never taken ports

abbrev pub locals_never : Taken → List Local → List SourceFault
locals_never taken [] = []
locals_never taken (l ∷ locals) = never_taken taken l.at l.name ++ locals_never taken locals

-- the faults of assignments of a module, whose names these are
abbrev pub assignment_faults : Names → Seen → ModuleTree → List SourceFault
assignment_faults names seen m =
    twice none_taken (body_targets names seen m.body)
    ++ (ports_never (taken_with_all none_taken (body_targets names seen m.body)) m.ports
    ++ locals_never (taken_with_all none_taken (body_targets names seen m.body)) m.locals)

-- Well sized sources: no rule of names, widths and assignments is broken.
use Rattle.std.specs.Prelude.{◌≡◌, ℕ, List, [], ◌∷◌, ◌++◌, Option, None}
use Rattle.lola_tree.specs.Tree.{ModuleTree, SourceTree}
use Rattle.lola_tree.specs.Names.{names_of}
use Rattle.lola_width.specs.declared.fault.SourceFault.{SourceFault}
use Rattle.lola_width.specs.declared.interface.Pin.{Pin}
use Rattle.lola_width.specs.Order.{first_after}
use Rattle.lola_width.specs.Interface.{Seen, no_module, module_clock, pins_of, seen_with}
use Rattle.lola_width.specs.NameFaults.{name_faults}
use Rattle.lola_width.specs.WidthFaults.{width_faults}
use Rattle.lola_width.specs.AssignmentFaults.{assignment_faults}

-- the clock of a module behind some others
abbrev pub clock_in : Seen → ModuleTree → Option (List ℕ)
clock_in seen m = module_clock (names_of m) seen m

-- its faults
abbrev pub faults_in : Seen → ModuleTree → List SourceFault
faults_in seen m =
    name_faults (names_of m) seen (clock_in seen m) m ++ (width_faults (names_of m) seen m ++ assignment_faults (names_of m) seen m)

-- its ports, as those behind it see them
abbrev pub pins_in : Seen → ModuleTree → List Pin
pins_in seen m = pins_of (names_of m) (clock_in seen m) m.ports

-- the modules that were seen behind it
abbrev pub seen_after : Seen → ModuleTree → Seen
seen_after seen m = seen_with seen m.name (pins_in seen m)

-- the faults of modules, each behind those before it
abbrev pub faults_from : Seen → List ModuleTree → List SourceFault
faults_from seen [] = []
faults_from seen (m ∷ modules) = faults_in seen m ++ faults_from (seen_after seen m) modules

-- all faults of a source
abbrev pub source_faults : SourceTree → List SourceFault
source_faults S = faults_from no_module S.modules

-- no fault holds
pub record IsWellSized (S : SourceTree) : Type 0 where
  pub none : source_faults S ≡ []

-- the fault that is answered
abbrev pub first_fault : SourceTree → Option SourceFault
first_fault S = first_after None (source_faults S)

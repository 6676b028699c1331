-- The clock of a module: the name that its registers stand under, or that it passes to the clock port of an
-- instance. In a well sized design that is one name, an IN port; in a definition it is a list of names.
use Rattle.std.specs.Prelude.{ℕ, Bool, if◌then◌else◌, bytes_eq, List, [], ◌∷◌, ◌++◌, map, flat_map}
use Rattle.lola_tree.specs.declared.module.Port.{Port}
use Rattle.lola_tree.specs.declared.module.LocalKind.{LocalKind}
use Rattle.lola_tree.specs.declared.module.LocalKind.TheVariants.{Reg, Var, Inst}
use Rattle.lola_tree.specs.declared.module.Local.{Local}
use Rattle.lola_tree.specs.Tree.{ActualTree, StmtTree, ModuleTree}
use Rattle.lola_bits.specs.Names.{is_among}
use Rattle.lola_tree.specs.design.Calls.{args_of, bare_name}

-- the names that stand as arguments of clock ports, where it is known which ports are clocks
abbrev pub passed_clocks : List Bool → List ActualTree → List (List ℕ)
passed_clocks [] args = []
passed_clocks (is_clock ∷ ports) [] = []
passed_clocks (is_clock ∷ ports) (a ∷ args) = (if is_clock then bare_name a.value ∷ [] else []) ++ passed_clocks ports args

-- the clocks that a local name has: a register its own, an instance those that are passed to it. `ports` says
-- which ports of an earlier module are clocks
abbrev pub kind_clocks : (List ℕ → List Bool) → List StmtTree → List ℕ → LocalKind → List (List ℕ)
kind_clocks ports body name (Reg clock type) = clock.name ∷ []
kind_clocks ports body name (Var type) = []
kind_clocks ports body name (Inst of) = passed_clocks (ports of.name) (args_of body name)

-- the clocks of a module
abbrev pub clocks_in : (List ℕ → List Bool) → ModuleTree → List (List ℕ)
clocks_in ports m = flat_map (λ (l : Local). kind_clocks ports m.body l.name l.kind) m.locals

-- which ports of a module are clocks, by its name; the modules stand in reverse order, the nearest first
abbrev pub clock_ports : List ModuleTree → List ℕ → List Bool
clock_ports [] name = []
clock_ports (m ∷ earlier) name =
    if bytes_eq m.name name then map (λ (p : Port). is_among (clocks_in (clock_ports earlier) m) p.name) m.ports else clock_ports earlier name

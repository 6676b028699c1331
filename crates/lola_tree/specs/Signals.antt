-- The signals of a design in their order, as lists of names. So far a design is its root.
use Rattle.std.specs.Prelude.{◌≡◌, ℕ, Bool, true, false, not, ◌&&◌, List, [], ◌∷◌, ◌++◌, map, filter}
use Rattle.lola_bits.specs.Lists.{IsIn}
use Rattle.lola_bits.specs.Names.{is_among}
use Rattle.lola_tree.specs.declared.named.Shape.{Shape}
use Rattle.lola_tree.specs.declared.module.Way.{Way}
use Rattle.lola_tree.specs.declared.module.Way.TheVariants.{Inward, Outward, Both}
use Rattle.lola_tree.specs.declared.module.Port.{Port}
use Rattle.lola_tree.specs.declared.module.LocalKind.{LocalKind}
use Rattle.lola_tree.specs.declared.module.LocalKind.TheVariants.{Reg, Var, Inst}
use Rattle.lola_tree.specs.declared.module.Local.{Local}
use Rattle.lola_tree.specs.Tree.{ModuleTree, SourceTree}
use Rattle.lola_tree.specs.Value.{Path, Values}
use Rattle.lola_tree.specs.Cycle.{IsRoot, IsRegister, IsInput}

-- the name of the clock of a register
abbrev pub clock_of : LocalKind → List (List ℕ)
clock_of (Reg clock type) = clock.name ∷ []
clock_of (Var type) = []
clock_of (Inst of) = []

-- the names that registers have as their clock
abbrev pub clock_names : List Local → List (List ℕ)
clock_names [] = []
clock_names (local ∷ locals) = clock_of local.kind ++ clock_names locals

abbrev pub is_inward : Way → Bool
is_inward Inward = true
is_inward Outward = false
is_inward Both = false

abbrev pub is_outward : Way → Bool
is_outward Inward = false
is_outward Outward = true
is_outward Both = false

-- the IN ports but the clock, in text order
abbrev pub input_names : ModuleTree → List (List ℕ)
input_names m = map (λ (p : Port). p.name) (filter (λ (p : Port). is_inward p.way && not (is_among (clock_names m.locals) p.name)) m.ports)

-- the name of a register
abbrev pub name_of_register : LocalKind → List ℕ → List (List ℕ)
name_of_register (Reg clock type) name = name ∷ []
name_of_register (Var type) name = []
name_of_register (Inst of) name = []

-- the registers, in text order
abbrev pub register_names : List Local → List (List ℕ)
register_names [] = []
register_names (local ∷ locals) = name_of_register local.kind local.name ++ register_names locals

-- the values of a module's names in a valuation
abbrev pub values_of : Values → List (List ℕ) → List ℕ
values_of v names = map (λ (name : List ℕ). v (name ∷ []) 0) names

-- the inputs and the registers of the root, which is the last module
abbrev pub root_inputs : List ModuleTree → List (List ℕ)
root_inputs [] = []
root_inputs (m ∷ []) = input_names m
root_inputs (m ∷ n ∷ more) = root_inputs (n ∷ more)

abbrev pub root_registers : List ModuleTree → List (List ℕ)
root_registers [] = []
root_registers (m ∷ []) = register_names m.locals
root_registers (m ∷ n ∷ more) = root_registers (n ∷ more)

-- the path leads to an OUT port of the root
pub record IsOutput (S : SourceTree) (path : Path) : Type 0 where
  pub root : ModuleTree
  pub is_root : IsRoot S root
  pub port : Port
  pub declared : IsIn port root.ports
  pub outward : port.way ≡ Outward
  pub leads : path ≡ port.name ∷ []

-- the path leads to what has a value in a cycle: a register, or a port but the clock
pub data IsSignal (S : SourceTree) (path : Path) : Type 0 where
  register : (type : Shape) → IsRegister S path type → IsSignal S path
  input : (type : Shape) → IsInput S path type → IsSignal S path
  output : IsOutput S path → IsSignal S path

-- What the maker of a net holds, as the definitions speak of it.
use Rattle.std.specs.Prelude.{◌≡◌, ◌≤◌, ◌/◌, true, length, Option, Some, None, Result, Ok, Err}
use Rattle.std.specs.List.{AllByRecursion}
use Rattle.lola_alg.specs.declared.algebra.AlgError.{AlgError}
use Rattle.lola_alg.specs.declared.algebra.AlgError.TheVariants.{Full, Memory}
use Rattle.lola_net.specs.Equations.{is_ordered}
use Rattle.veri_read.specs.declared.maker.Maker.{Maker}
use Rattle.veri_read.specs.Made.{Made}
use Rattle.veri_read.specs.Held.{listed}

-- the nodes and literals of a maker
abbrev pub made_of : Maker → Made
made_of m = record { nodes = m.gates; literals = listed m.literals }

-- each node uses only smaller ones, and names stand for literals of nodes
pub record IsSound (m : Made) : Type 0 where
  pub ordered : is_ordered m.nodes ≡ true
  pub known : AllByRecursion (λ e. e.1 / 2 ≤ length m.nodes) m.literals

-- what is due was made; Full comes exactly where nothing is due
abbrev pub Makes : Option Made → Made → Result (Unit {0}) AlgError → Type 0
Makes due now (Ok u) = (due ≡ Some now) × IsSound now
Makes due now (Err Full) = due ≡ None
Makes due now (Err Memory) = Unit {0}

-- the same of a maker that is handed out
abbrev pub Gives : Option Made → Result Maker AlgError → Type 0
Gives due (Ok maker) = (due ≡ Some (made_of maker)) × IsSound (made_of maker)
Gives due (Err Full) = due ≡ None
Gives due (Err Memory) = Unit {0}

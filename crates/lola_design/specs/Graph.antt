-- The graph of the equations of a design, by the numbers of its signals.
use Rattle.std.specs.Prelude.{ℕ, suc, if◌then◌else◌, List, [], ◌∷◌, map, get_or, Option, Some, None}
use Rattle.lola_tree.specs.Tree.{SourceTree}
use Rattle.lola_tree.specs.Value.{Path}
use Rattle.lola_tree.specs.design.Signals.{signal_paths}
use Rattle.lola_tree.specs.design.Equations.{Equation, Right}
use Rattle.lola_tree.specs.design.Chains.{right_paths, flat_equations}
use Rattle.lola_order.specs.Graph.{Graph}
use Rattle.lola_design.specs.Paths.{path_eq}

-- the number of a path among some
abbrev pub number_of : List Path → Path → ℕ
number_of [] x = 0
number_of (y ∷ ys) x = if path_eq y x then 0 else suc (number_of ys x)

-- the right side of a path's equation
abbrev pub right_of : List Equation → Path → Option Right
right_of [] x = None
right_of (e ∷ es) x = if path_eq e.left x then Some e.right else right_of es x

-- what it uses
abbrev pub uses_of : List Path → Option Right → Option (List ℕ)
uses_of paths None = None
uses_of paths (Some r) = Some (map (number_of paths) (right_paths r))

abbrev pub graph_of : List Equation → List Path → Graph
graph_of E paths = map (λ (x : Path). uses_of paths (right_of E x)) paths

-- for each signal of a design the numbers of those that occur in its equation
abbrev pub design_graph : SourceTree → Graph
design_graph S = graph_of (flat_equations S) (signal_paths S)

-- the paths of some numbers
abbrev pub paths_at : List Path → List ℕ → List Path
paths_at paths numbers = map (λ (i : ℕ). get_or paths i []) numbers

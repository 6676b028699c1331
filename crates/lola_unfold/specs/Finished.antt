-- From signals and what gives them their values to a flat design, and what elaboration answers.
use Rattle.std.specs.Prelude.{◌≡◌, ℕ, ◌<◌, ◌≤◌, codes, List, [], ◌∷◌, ◌++◌, map, drop, get_or, Option, Some, None, Result, Ok, Err}
use Rattle.lola_tree.specs.Tree.{SourceTree}
use Rattle.lola_tree.specs.Value.{Path}
use Rattle.lola_tree.specs.design.Signals.{height, size, signals, signal_paths}
use Rattle.lola_tree.specs.design.Chains.{IsLoop}
use Rattle.lola_flat.specs.declared.design.SigKind.{SigKind}
use Rattle.lola_flat.specs.declared.design.SigKind.TheVariants.{Input, Pad, Wire, Register}
use Rattle.lola_flat.specs.declared.design.Flat.{Flat}
use Rattle.lola_flat.specs.declared.design.Signal.{Signal as FlatSignal}
use Rattle.lola_order.specs.declared.ordering.Ordered.{Ordered}
use Rattle.lola_order.specs.declared.ordering.Ordered.TheVariants.{Order, Loop}
use Rattle.lola_order.specs.Graph.{Answers as OrderAnswers, IsLoop as IsGraphLoop}
use Rattle.lola_flat.specs.Tree.{ExprTree, SignalTree, FlatTree, flat_tree}
use Rattle.lola_design.specs.Graph.{paths_at}
use Rattle.lola_design.specs.Regular.{IsRegular}
use Rattle.lola_unfold.specs.declared.made.Head.{Head}
use Rattle.lola_unfold.specs.declared.unfolding.ElabError.{ElabError}
use Rattle.lola_unfold.specs.declared.unfolding.ElabError.TheVariants as error
use Rattle.lola_unfold.specs.Pieces.{NextTree}
use Rattle.lola_unfold.specs.Slots.{capped}
use Rattle.lola_unfold.specs.Flat.{flat_graph, flat_signal, IsElaborated}

-- what gives a signal its value or next value: for a wire or a pad its equation, for a register its next value
abbrev pub next_place : Option NextTree → Option ExprTree
next_place None = None
next_place (Some n) = n.place

abbrev pub next_value : Option NextTree → Option ExprTree
next_value None = None
next_value (Some n) = Some n.value

abbrev pub place_for : SigKind → Option NextTree → Option ExprTree
place_for Input next = None
place_for Pad next = None
place_for Wire next = None
place_for Register next = next_place next

abbrev pub equation_for : SigKind → Option ExprTree → Option NextTree → Option ExprTree
equation_for Input equation next = None
equation_for Pad equation next = equation
equation_for Wire equation next = equation
equation_for Register equation next = next_value next

abbrev pub signal_from : Head → Option ExprTree → Option NextTree → SignalTree
signal_from h equation next = record { path = h.path; kind = h.kind; width = h.width; count = h.count; place = place_for h.kind next; equation = equation_for h.kind equation next }

-- all of them, by their numbers
abbrev pub signals_from : List Head → List (Option ExprTree) → List (Option NextTree) → List SignalTree
signals_from [] equations nexts = []
signals_from (h ∷ hs) equations nexts = signal_from h (get_or equations 0 None) (get_or nexts 0 None) ∷ signals_from hs (drop 1 equations) (drop 1 nexts)

-- a path with dots
abbrev pub joined_names : List ℕ → Path → List ℕ
joined_names before [] = []
joined_names before (name ∷ path) = before ++ (name ++ joined_names (codes ".") path)

abbrev pub dotted : Path → List ℕ
dotted path = joined_names [] path

-- that of the path of a signal
abbrev pub name_at : List FlatSignal → ℕ → List ℕ
name_at signals number = dotted (get_or (map (λ (s : FlatSignal). s.path) signals) number [])

-- a flat design with an order of its equations, or a loop
abbrev pub IsOrdered : FlatTree → Ordered → Type 0
IsOrdered F found = OrderAnswers (flat_graph F.signals) found

-- an answer is this design, or names this loop, want of memory aside
abbrev pub OnOkOnly : Result Flat ElabError → (Flat → Type 0) → Type 0
OnOkOnly (Ok F) P = P F
OnOkOnly (Err (error.TooDeep height)) P = ⊥
OnOkOnly (Err error.TooMany) P = ⊥
OnOkOnly (Err (error.Loop names)) P = ⊥
OnOkOnly (Err error.Memory) P = Unit {0}

abbrev pub OnLoopOnly : Result Flat ElabError → (List (List ℕ) → Type 0) → Type 0
OnLoopOnly (Ok F) P = ⊥
OnLoopOnly (Err (error.TooDeep height)) P = ⊥
OnLoopOnly (Err error.TooMany) P = ⊥
OnLoopOnly (Err (error.Loop names)) P = P names
OnLoopOnly (Err error.Memory) P = Unit {0}

abbrev pub IsAnswer : Flat → Ordered → Result Flat ElabError → Type 0
IsAnswer F (Order order) answer = OnOkOnly answer (λ G. flat_tree G ≡ record (flat_tree F) { order = order })
IsAnswer F (Loop numbers) answer = OnLoopOnly answer (λ names. names ≡ map (name_at F.signals) numbers)

-- where a source has a flat design: modules stand at most 64 deep, its signals, each element of an array counted, and
-- its instances are at most 65,536 together, and no closed chain goes through its equations
pub record IsAccepted (S : SourceTree) (F : Flat) : Type 0 where
  pub flat : height S ≤ 64
  pub few : size S ≤ 65536
  pub elaborated : IsElaborated S (flat_tree F)

pub record IsTooDeep (S : SourceTree) (n : ℕ) : Type 0 where
  pub deep : 64 < height S
  pub is : n ≡ capped (height S)

pub record AreTooMany (S : SourceTree) : Type 0 where
  pub flat : height S ≤ 64
  pub many : 65536 < size S

-- and else the numbers of a closed chain, named by the paths of their signals. In a regular source that is one of
-- the source's own equations
pub record IsNamedLoop (S : SourceTree) (names : List (List ℕ)) : Type 0 where
  pub flat : height S ≤ 64
  pub few : size S ≤ 65536
  pub numbers : List ℕ
  pub is_loop : IsGraphLoop (flat_graph (map (flat_signal S) (signals S))) numbers
  pub are : names ≡ map dotted (paths_at (signal_paths S) numbers)
  pub closed : IsRegular S → IsLoop S (paths_at (signal_paths S) numbers)

-- each answer says which of these holds
abbrev pub Answers : SourceTree → Result Flat ElabError → Type 0
Answers S (Ok F) = IsAccepted S F
Answers S (Err (error.TooDeep height)) = IsTooDeep S height
Answers S (Err error.TooMany) = AreTooMany S
Answers S (Err (error.Loop names)) = IsNamedLoop S names
Answers S (Err error.Memory) = Unit {0}

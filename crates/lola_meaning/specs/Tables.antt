-- The values of a design as tables by the numbers of its signals: for each signal in signal order the values of its
-- elements, of which a vector has one.
use Rattle.std.specs.Prelude.{◌≡◌, ◌≢◌, ℕ, ◌<◌, if◌then◌else◌, List, [], ◌∷◌, map, length, replicate, get_or}
use Rattle.lola_bits.specs.Lists.{IsIn}
use Rattle.lola_alg.specs.Means.{IsWidth, number_in}
use Rattle.lola_flat.specs.Numbers.{first_numbers}
use Rattle.lola_flat.specs.Value.{Env}
use Rattle.lola_tree.specs.Tree.{SourceTree}
use Rattle.lola_tree.specs.Value.{Path, Values}
use Rattle.lola_tree.specs.design.Signals.{Kind, clock, input, pad, wire, register, Signal, signals, signal_paths, elements}
use Rattle.lola_design.specs.Paths.{path_eq}
use Rattle.lola_design.specs.Graph.{number_of}

-- the values of the elements of a signal
abbrev pub elements_of : Values → Signal → List ℕ
elements_of v x = map (v x.path) (first_numbers (elements x.names x.type))

-- in a cycle each signal but the clock has its values
abbrev pub shown_by : Kind → List ℕ → List ℕ
shown_by clock ns = []
shown_by input ns = ns
shown_by pad ns = ns
shown_by wire ns = ns
shown_by register ns = ns

abbrev pub table_of : SourceTree → Values → List (List ℕ)
table_of S v = map (λ (x : Signal). shown_by x.kind (elements_of v x)) (signals S)

-- what a cycle is given: a register has the values of the state, and an input those of the input
abbrev pub given_by : Kind → (state inputs : List ℕ) → List ℕ
given_by clock state inputs = []
given_by input state inputs = inputs
given_by pad state inputs = []
given_by wire state inputs = []
given_by register state inputs = state

abbrev pub given_of : SourceTree → (s inp : Values) → List (List ℕ)
given_of S s inp = map (λ (x : Signal). given_by x.kind (elements_of s x) (elements_of inp x)) (signals S)

-- a pad has the value that the input gives it from outside
abbrev pub outside_by : Kind → ℕ → ℕ
outside_by clock n = 0
outside_by input n = 0
outside_by pad n = n
outside_by wire n = 0
outside_by register n = 0

abbrev pub outside_of : SourceTree → Values → List ℕ
outside_of S inp = map (λ (x : Signal). outside_by x.kind (inp x.path 0)) (signals S)

-- a state has the values of registers alone
abbrev pub stored_by : Kind → List ℕ → List ℕ
stored_by clock ns = []
stored_by input ns = []
stored_by pad ns = []
stored_by wire ns = []
stored_by register ns = ns

abbrev pub state_of : SourceTree → Values → List (List ℕ)
state_of S s = map (λ (x : Signal). stored_by x.kind (elements_of s x)) (signals S)

-- and back: the value of an element is the one that stands in a table under the number of its path
abbrev pub values_of : SourceTree → List (List ℕ) → Values
values_of S N path n = number_in (get_or N (number_of (signal_paths S) path) []) n

-- the kind of the signal of a path
abbrev pub kind_at : List Signal → Path → Kind
kind_at [] path = clock
kind_at (x ∷ xs) path = if path_eq x.path path then x.kind else kind_at xs path

-- the value that an input gives: of a pad the one from outside
abbrev pub entered_by : Kind → (outer inner : ℕ) → ℕ
entered_by clock outer inner = inner
entered_by input outer inner = inner
entered_by pad outer inner = outer
entered_by wire outer inner = inner
entered_by register outer inner = inner

abbrev pub input_of : SourceTree → List (List ℕ) → List ℕ → Values
input_of S given outside path n = entered_by (kind_at (signals S) path) (get_or outside (number_of (signal_paths S) path) 0) (values_of S given path n)

-- a table has the values of a valuation
abbrev pub Has : SourceTree → List (List ℕ) → Values → Type 0
Has S N v = (x : Signal) → IsIn x (signals S) → x.kind ≢ clock → get_or N (number_of (signal_paths S) x.path) [] ≡ elements_of v x

-- a list stands in a table under a number
pub record StandsAt (N : List (List ℕ)) (n : ℕ) (ns : List ℕ) : Type 0 where
  pub inside : n < length N
  pub is : get_or N n [] ≡ ns

-- under a number stand so many widths, all of them the same
pub record IsRowOf (W : Env ℕ) (n wide count : ℕ) : Type 0 where
  pub inside : n < length W.signals
  pub is : get_or W.signals n [] ≡ replicate count wide
  pub is_width : IsWidth wide

-- The obligations of a table on a design: each speaks of one cycle.
use Rattle.std.specs.Prelude.{◌≡◌, ◌⊎◌, ℕ, ◌+◌, ◌^◌, ◌<◌, ◌≤◌, true, not, List, [], ◌∷◌, ◌++◌, map, filter, flat_map, bytes_eq, codes, decimal}
use Rattle.std.specs.List.{AllByRecursion}
use Rattle.lola_tree.specs.Tree.{ModuleTree, SourceTree}
use Rattle.lola_tree.specs.Value.{Values}
use Rattle.lola_tree.specs.Cycle.{IsState, IsGiven, Cycle, Next}
use Rattle.lola_tree.specs.Signals.{root_inputs, root_registers, values_of}
use Rattle.small_tree.specs.Table.{StateTree, SetTree, ClassTree, TableTree}
use Rattle.small_tree.specs.Step.{fits, IsClass, word_width, source_names, no_names, class_names, state_value, set_value, loaded_word, table_value}
use Rattle.lola_app.specs.Headline.{shown, shown_word, IsActive, IsIdle, answer_of}
use Rattle.lola_app.specs.Small.{width_in}

-- what an obligation says of the next state: the invariant, a boundary, the value of a START row, or
-- the value that a class gives a state
pub data Goal : Type 0 where
  invariant : Goal
  boundary : Goal
  start : (row : SetTree) → Goal
  state : (row : StateTree) → Goal

-- that a class fits each word; a goal after a reset cycle; a goal at the end of a class's phase
pub data Obligation : Type 0 where
  cover : Obligation
  reset : (goal : Goal) → Obligation
  ends : (c : ClassTree) (phase : ℕ) (goal : Goal) → Obligation

-- those of one class, whose one phase is 0
abbrev pub class_obligations : TableTree → ClassTree → List Obligation
class_obligations T c = ends c 0 invariant ∷ ends c 0 boundary ∷ map (λ (row : StateTree). ends c 0 (state row)) T.states

-- all obligations, in their order
abbrev pub obligations : TableTree → List Obligation
obligations T =
    cover ∷ reset invariant ∷ reset boundary ∷ (map (λ (row : SetTree). reset (start row)) T.starts ++ flat_map (class_obligations T) T.classes)

-- their names
abbrev pub goal_name : Goal → List ℕ
goal_name invariant = codes "INVARIANT"
goal_name boundary = codes "BOUNDARY"
goal_name (start row) = row.name
goal_name (state row) = row.name

abbrev pub obligation_name : Obligation → List ℕ
obligation_name cover = codes "cover"
obligation_name (reset goal) = codes "reset/" ++ goal_name goal
obligation_name (ends c phase goal) = c.name ++ (codes "/" ++ (decimal phase ++ (codes "/end/" ++ goal_name goal)))

-- what an obligation leaves free: in `cover` the word, and else the state and the input
pub record Valuation : Type 0 where
  pub word : ℕ
  pub state : Values
  pub input : Values

-- a valuation is one of an obligation: the word has its width; the state and the input suit the
-- design, with RESET active in a reset cycle and idle at the end of a phase
abbrev pub IsValuation : SourceTree → TableTree → Obligation → Valuation → Type 0
IsValuation S T cover w = w.word < 2 ^ word_width T
IsValuation S T (reset goal) w = IsState S w.state × IsGiven S w.input × IsActive T w.input
IsValuation S T (ends c phase goal) w = IsState S w.state × IsGiven S w.input × IsIdle T w.input

-- a goal after a reset cycle, at the next state
abbrev pub ResetGoal : TableTree → Values → Goal → Type 0
ResetGoal T s' invariant = table_value T.invariant (source_names s') ≡ 1
ResetGoal T s' boundary = table_value T.boundary (source_names s') ≡ 1
ResetGoal T s' (start row) = state_value T.states (shown T s') row.name ≡ table_value row.value no_names
ResetGoal T s' (state row) = Unit {0}

-- a goal at the end of an instruction, at the state before the cycle, its input and the next state
abbrev pub EndGoal : TableTree → ClassTree → Values → Values → Values → Goal → Type 0
EndGoal T c s inp s' invariant = table_value T.invariant (source_names s') ≡ 1
EndGoal T c s inp s' boundary = table_value T.boundary (source_names s') ≡ 1
EndGoal T c s inp s' (start row) = Unit {0}
EndGoal T c s inp s' (state row) =
    table_value row.shown (source_names s')
    ≡ set_value c.sets row.name (table_value row.shown (source_names s)) (class_names T (shown T s) (shown_word T s) (loaded_word c (answer_of T inp)))

-- the premises of a class's phase 0: the invariant, the boundary, and that the pattern fits the word
pub record Premises (T : TableTree) (c : ClassTree) (s : Values) : Type 0 where
  pub invariant : table_value T.invariant (source_names s) ≡ 1
  pub boundary : table_value T.boundary (source_names s) ≡ 1
  pub fit : fits c.pattern (shown_word T s) ≡ true

-- an obligation holds at a valuation: a class fits the word; or in the cycle of that state and input
-- the goal holds where the premises do
abbrev pub HoldsAt : SourceTree → TableTree → Obligation → Valuation → Type 0
HoldsAt S T cover w = (c : ClassTree) × IsClass T w.word c
HoldsAt S T (reset goal) w = (v s' : Values) → Cycle S w.state w.input v → Next S v s' → ResetGoal T s' goal
HoldsAt S T (ends c phase goal) w =
    (v s' : Values) → Cycle S w.state w.input v → Next S v s' → Premises T c w.state → EndGoal T c w.state w.input s' goal

-- it is violated there: no class fits the word; or in such a cycle the premises hold and the goal
-- doesn't
abbrev pub IsViolatedAt : SourceTree → TableTree → Obligation → Valuation → Type 0
IsViolatedAt S T cover w = (c : ClassTree) → IsClass T w.word c → ⊥
IsViolatedAt S T (reset goal) w = (v : Values) × ((s' : Values) × Cycle S w.state w.input v × Next S v s' × (ResetGoal T s' goal → ⊥))
IsViolatedAt S T (ends c phase goal) w =
    (v : Values) × ((s' : Values) × Cycle S w.state w.input v × Next S v s' × Premises T c w.state × (EndGoal T c w.state w.input s' goal → ⊥))

-- an obligation holds at every valuation
abbrev pub HoldsAlways : SourceTree → TableTree → Obligation → Type 0
HoldsAlways S T o = (w : Valuation) → IsValuation S T o w → HoldsAt S T o w

-- all of them hold
pub record AllHold (S : SourceTree) (T : TableTree) : Type 0 where
  pub each : AllByRecursion (HoldsAlways S T) (obligations T)

-- names but one
abbrev pub without : List ℕ → List (List ℕ) → List (List ℕ)
without one names = filter (λ name. not (bytes_eq name one)) names

-- the names of the inputs that an obligation on a cycle leaves free: all but the clock and RESET, in text
-- order
abbrev pub free_inputs : SourceTree → TableTree → List (List ℕ)
free_inputs S T = without T.reset.port (root_inputs S.modules)

-- the names that an obligation leaves free, as they are printed, and their values in a valuation
abbrev pub free_names : SourceTree → TableTree → Obligation → List (List ℕ)
free_names S T cover = codes "i" ∷ []
free_names S T (reset goal) = map (λ name. codes "@" ++ name) (free_inputs S T ++ root_registers S.modules)
free_names S T (ends c phase goal) = map (λ name. codes "@" ++ name) (free_inputs S T ++ root_registers S.modules)

abbrev pub free_values : SourceTree → TableTree → Obligation → Valuation → List ℕ
free_values S T cover w = w.word ∷ []
free_values S T (reset goal) w = values_of w.input (free_inputs S T) ++ values_of w.state (root_registers S.modules)
free_values S T (ends c phase goal) w = values_of w.input (free_inputs S T) ++ values_of w.state (root_registers S.modules)

-- the width in bits of a name of the root, which is the last module
abbrev pub root_width : List ModuleTree → List ℕ → ℕ
root_width [] name = 0
root_width (m ∷ []) name = width_in m name
root_width (m ∷ n ∷ more) name = root_width (n ∷ more) name

-- the widths of what an obligation leaves free, and how many free bits these are
abbrev pub free_widths : SourceTree → TableTree → Obligation → List ℕ
free_widths S T cover = word_width T ∷ []
free_widths S T (reset goal) = map (root_width S.modules) (free_inputs S T ++ root_registers S.modules)
free_widths S T (ends c phase goal) = map (root_width S.modules) (free_inputs S T ++ root_registers S.modules)

abbrev pub total : List ℕ → ℕ
total [] = 0
total (w ∷ ws) = w + total ws

abbrev pub free_bits : SourceTree → TableTree → Obligation → ℕ
free_bits S T o = total (free_widths S T o)

-- it leaves no more bits free than trying all cases is made for
abbrev pub IsNarrow : SourceTree → TableTree → Obligation → Type 0
IsNarrow S T o = free_bits S T o ≤ 16

-- one list of values comes before another: at the first place where they differ it has the smaller
abbrev pub ComesBefore : List ℕ → List ℕ → Type 0
ComesBefore [] ys = ⊥
ComesBefore (x ∷ xs) [] = ⊥
ComesBefore (x ∷ xs) (y ∷ ys) = (x < y) ⊎ ((x ≡ y) × ComesBefore xs ys)

-- a valuation violates an obligation, and no valuation before it does
pub record IsLeastViolation (S : SourceTree) (T : TableTree) (o : Obligation) (w : Valuation) : Type 0 where
  pub suits : IsValuation S T o w
  pub violated : IsViolatedAt S T o w
  pub least : (v : Valuation) → IsValuation S T o v → ComesBefore (free_values S T o v) (free_values S T o w) → HoldsAt S T o v

-- The obligations of a table: their list, and their names. Each speaks of one cycle of a design.
use Rattle.std.specs.Prelude.{ℕ, zero, suc, nat_lt, if◌then◌else◌, codes, decimal, List, [], ◌∷◌, ◌++◌, map, flat_map, Option, Some, None}
use Rattle.lola_tree.specs.Tree.{Tree}
use Rattle.tab_tree.specs.declared.table.Active.{Active}
use Rattle.tab_tree.specs.declared.table.BusRoles.{BusRoles}
use Rattle.tab_tree.specs.Table.{StateTree, SetTree, PhaseTree, InsideTree, ClassTree, TableTree}
use Rattle.tab_tree.specs.Step.{Subject, of_class, steps_of, phase_cycles}

-- how a cycle leads on: to the same phase while it is stalled, to its next turn, to the next phase, or to
-- a boundary
pub data Edge : Type 0 where
  stall : Edge
  turn : Edge
  on : (next : PhaseTree) → Edge
  finish : Edge

-- what an obligation says behind its cycle; `entry` is BOUNDARY, or LINK of the phase that is reached. A
-- state is known by its number and its row
pub data Goal : Type 0 where
  invariant : Goal
  entry : Goal
  code : Goal
  start : (row : SetTree) → Goal
  state : (number : ℕ) (row : StateTree) → Goal
  access : Goal

-- that some class fits each word; of a reset cycle; and of an edge out of a phase, which is known by its
-- number
pub data Obligation : Type 0 where
  cover : Obligation
  reset : (goal : Goal) → Obligation
  edge : (u : Subject) (p : ℕ) (phase : PhaseTree) (e : Edge) (goal : Goal) → Obligation

-- the goal of the word, where the table has CODE
abbrev pub code_goals : Option Tree → List Goal
code_goals None = []
code_goals (Some e) = code ∷ []

-- those of the states, numbered from n on
abbrev pub state_goals : ℕ → List StateTree → List Goal
state_goals n [] = []
state_goals n (row ∷ rows) = state n row ∷ state_goals (suc n) rows

-- that of the access, where there is a bus and the cycle isn't stalled
abbrev pub access_goals : Option BusRoles → Edge → List Goal
access_goals None e = []
access_goals (Some bus) stall = []
access_goals (Some bus) turn = access ∷ []
access_goals (Some bus) (on next) = access ∷ []
access_goals (Some bus) finish = access ∷ []

-- the goals of an edge: INVARIANT, BOUNDARY or LINK, CODE, the states in order, and the access
abbrev pub edge_goals : TableTree → Edge → List Goal
edge_goals T e = invariant ∷ entry ∷ (code_goals T.roles.code ++ (state_goals 0 T.states ++ access_goals T.roles.bus e))

-- an obligation for each
abbrev pub edge_obligations : TableTree → Subject → ℕ → PhaseTree → Edge → List Obligation
edge_obligations T u p phase e = map (edge u p phase e) (edge_goals T e)

-- those of a stalled cycle, where the table has STALL
abbrev pub stall_edges : TableTree → Option Active → Subject → ℕ → PhaseTree → List Obligation
stall_edges T None u p phase = []
stall_edges T (Some a) u p phase = edge_obligations T u p phase stall

-- those of a turn, where there is more than one
abbrev pub turn_edges : TableTree → Subject → ℕ → PhaseTree → List Obligation
turn_edges T u p phase = if nat_lt 1 (phase_cycles phase) then edge_obligations T u p phase turn else []

-- the edge on to the phase behind, or to a boundary where there is none
abbrev pub way_out : List PhaseTree → Edge
way_out [] = finish
way_out (next ∷ phases) = on next

-- those of phases, the first of which has number p: of each stalled cycles, turns, and the way out
abbrev pub phases_obligations : TableTree → Subject → ℕ → List PhaseTree → List Obligation
phases_obligations T u p [] = []
phases_obligations T u p (phase ∷ phases) =
    stall_edges T T.roles.stall u p phase
    ++ (turn_edges T u p phase ++ (edge_obligations T u p phase (way_out phases) ++ phases_obligations T u (suc p) phases))

-- those of what begins at a boundary
abbrev pub subject_obligations : TableTree → Subject → List Obligation
subject_obligations T u = phases_obligations T u 0 (steps_of u).phases

-- those of a class: none where it is outside
abbrev pub inside_obligations : TableTree → ClassTree → Option InsideTree → List Obligation
inside_obligations T c None = []
inside_obligations T c (Some b) = subject_obligations T (of_class c b)

abbrev pub class_obligations : TableTree → ClassTree → List Obligation
class_obligations T c = inside_obligations T c c.inside

-- the goal of START's access, where the table has CODE and a bus
abbrev pub start_access_goals : Option BusRoles → Option Tree → List Goal
start_access_goals None e = []
start_access_goals (Some bus) None = []
start_access_goals (Some bus) (Some e) = access ∷ []

-- the goals of a reset cycle: INVARIANT, BOUNDARY, CODE, the states with a START row, and the access
abbrev pub reset_goals : TableTree → List Goal
reset_goals T = invariant ∷ entry ∷ (code_goals T.roles.code ++ (map start T.starts ++ start_access_goals T.roles.bus T.roles.code))

-- all obligations, in their order
abbrev pub obligations : TableTree → List Obligation
obligations T = cover ∷ (map reset (reset_goals T) ++ flat_map (class_obligations T) T.classes)

-- ---- names

-- that of a class
abbrev pub subject_name : Subject → List ℕ
subject_name (of_class c b) = c.name

-- that of an edge
abbrev pub edge_name : Edge → List ℕ
edge_name stall = codes "stall"
edge_name turn = codes "turn"
edge_name (on next) = codes "on"
edge_name finish = codes "end"

-- BOUNDARY stands behind a stalled cycle of phase 0, at an end, and behind a reset; else LINK
abbrev pub entry_name : ℕ → Edge → List ℕ
entry_name zero stall = codes "BOUNDARY"
entry_name (suc p) stall = codes "LINK"
entry_name p turn = codes "LINK"
entry_name p (on next) = codes "LINK"
entry_name p finish = codes "BOUNDARY"

-- that of a goal; a state's is its name
abbrev pub goal_name : List ℕ → Goal → List ℕ
goal_name entered invariant = codes "INVARIANT"
goal_name entered entry = entered
goal_name entered code = codes "CODE"
goal_name entered (start row) = row.name
goal_name entered (state n row) = row.name
goal_name entered access = codes "ACCESS"

-- `cover`, `reset/G`, and `class/phase/edge/G`, where G names the goal
abbrev pub obligation_name : Obligation → List ℕ
obligation_name cover = codes "cover"
obligation_name (reset goal) = codes "reset/" ++ goal_name (codes "BOUNDARY") goal
obligation_name (edge u p phase e goal) =
    subject_name u ++ (codes "/" ++ (decimal p ++ (codes "/" ++ (edge_name e ++ (codes "/" ++ goal_name (entry_name p e) goal)))))

-- the names of all, in the order of the list
abbrev pub obligation_names : TableTree → List (List ℕ)
obligation_names T = map obligation_name (obligations T)

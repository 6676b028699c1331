-- What the obligations of a table say of a design: premises and goals, and where an obligation holds or is
-- violated.
use Rattle.std.specs.Prelude.{◌≡◌, ℕ, zero, suc, ◌<◌, Bool, true, false, if◌then◌else◌, bytes_eq, List, [], ◌∷◌, Option, Some, None}
use Rattle.std.specs.List.{AllByRecursion}
use Rattle.lola_bits.specs.declared.vector.Bits.{Bits}
use Rattle.lola_bits.specs.Lists.{IsIn}
use Rattle.lola_tree.specs.Tree.{SourceTree}
use Rattle.lola_tree.specs.Value.{Values}
use Rattle.lola_tree.specs.design.Cycle.{Cycle, Next}
use Rattle.tab_tree.specs.declared.value.StateValue.{StateValue}
use Rattle.tab_tree.specs.declared.value.Answer.{Answer}
use Rattle.tab_tree.specs.declared.value.Access.{Access}
use Rattle.tab_tree.specs.Table.{StateTree, SetTree, TurnsTree, PhaseTree, InsideTree, ClassTree, TableTree}
use Rattle.tab_tree.specs.Names.{Names, no_names, number_at, table_number}
use Rattle.tab_tree.specs.Registers.{registers_at}
use Rattle.tab_tree.specs.Step.{Arch, nth_value, by_row, state_value, Words, link_names, class_names, set_value, with_answer, entered, stepped, phase_row, Subject, of_class, steps_of, Chooses, fits}
use Rattle.tab_tree.specs.Headline.{row_shown, shown, shown_word, IsOne, answer_of, Sees, IsStartAccess}
use Rattle.obl_def.specs.Obligations.{Edge, stall, turn, on, finish, Goal, invariant, entry, code, start, state, access, Obligation, cover, reset, edge, obligations}
use Rattle.obl_def.specs.Valuation.{Valuation, IsValuation}

-- where an instruction stands: its phase by number, its words, and the count of turns
pub record Stage : Type 0 where
  pub number : ℕ
  pub phase : PhaseTree
  pub words : Words
  pub count : ℕ

-- the count is in scope where the phase has TURNS
abbrev pub turn_count : Option TurnsTree → ℕ → Option ℕ
turn_count None k = None
turn_count (Some t) k = Some k

-- what is true of each state, by its number and its row
abbrev pub EachRow : (ℕ → StateTree → Type 0) → ℕ → List StateTree → Type 0
EachRow P n [] = Unit {0}
EachRow P n (row ∷ rows) = P n row × EachRow P (suc n) rows

-- some row sets the state of a name
abbrev pub has_row : List SetTree → List ℕ → Bool
has_row [] name = false
has_row (row ∷ rows) name = if bytes_eq row.name name then true else has_row rows name

-- the old values of states: free where the phase has a SHOWS row, else what the registers show
abbrev pub old_states : SourceTree → TableTree → PhaseTree → Values → Arch → Arch
old_states S T phase s old = by_row (λ n row. if has_row phase.shows row.name then nth_value old n else row_shown S row s) 0 T.states

-- what the names in SHOWS stand for at a stage
abbrev pub stage_names : TableTree → InsideTree → Arch → Bits → Stage → Names StateValue
stage_names T b A i g = class_names T b A i g.words (turn_count g.phase.turns g.count)

-- the entry of a stage, whose number is given apart: BOUNDARY in phase 0; in a later one LINK, whose `@` names
-- are those of the state s
abbrev pub EntryOf : SourceTree → TableTree → InsideTree → Arch → Bits → ℕ → Stage → Values → Type 0
EntryOf S T b A i zero g s = IsOne S T.boundary s
EntryOf S T b A i (suc p) g s = table_number (link_names T b A i g.words (turn_count g.phase.turns g.count) (registers_at S s)) g.phase.link ≡ 1

-- the entry of a stage
abbrev pub Entry : SourceTree → TableTree → InsideTree → Arch → Bits → Stage → Values → Type 0
Entry S T b A i g s = EntryOf S T b A i g.number g s

-- the count of turns on an edge: k < r on a stalled one, k < r-1 on a turn, k = r-1 on the way on
abbrev pub CountAt : Edge → Option TurnsTree → ℕ → Type 0
CountAt e None k = Unit {0}
CountAt stall (Some t) k = k < t.times
CountAt turn (Some t) k = suc k < t.times
CountAt (on next) (Some t) k = suc k ≡ t.times
CountAt finish (Some t) k = Unit {0}

-- what the answer of an edge out of phase 0 must choose; a stalled cycle has none, and phase 0 no turns
abbrev pub ChoosesOn : TableTree → Arch → Answer → Subject → ℕ → Edge → Type 0
ChoosesOn T A answer u (suc p) e = Unit {0}
ChoosesOn T A answer u zero stall = Unit {0}
ChoosesOn T A answer u zero turn = Unit {0}
ChoosesOn T A answer u zero (on next) = Chooses T A answer u
ChoosesOn T A answer u zero finish = Chooses T A answer u

-- the word fits: a class by its pattern
abbrev pub FitsWord : Bits → Subject → Type 0
FitsWord word (of_class c b) = fits c.pattern word.value ≡ true

-- the premises of an edge out of a stage, in the state s under the input inp: INVARIANT, BOUNDARY or LINK,
-- the SHOWS rows of the phase, the word, and the count
pub record Premises (S : SourceTree) (T : TableTree) (u : Subject) (A : Arch) (i : Bits) (g : Stage) (e : Edge) (s inp : Values) : Type 0 where
  pub invariant : IsOne S T.invariant s
  pub entry : Entry S T (steps_of u) A i g s
  pub shows : EachRow (λ n row. has_row g.phase.shows row.name ≡ true →
      row_shown S row s ≡ set_value g.phase.shows row (nth_value A n) (stage_names T (steps_of u) A i g)) 0 T.states
  pub fit : FitsWord i u
  pub chosen : ChoosesOn T A (answer_of S T inp) u g.number e
  pub count : CountAt e g.phase.turns g.count

-- what is reached: a stage, or a boundary with the words of the whole instruction
pub data Target : Type 0 where
  at_stage : Stage → Target
  at_boundary : Words → Target

-- the words behind the last turn or cycle of a phase: its accumulator is STEP, its loaded word the answer's
abbrev pub words_behind : TableTree → InsideTree → Arch → Bits → Stage → Answer → Words
words_behind T b A i g answer = with_answer g.phase.access g.number answer (stepped T b A i g.number g.phase.turns g.words g.count)

-- a stalled cycle leaves all as it is; a turn counts and steps; the next phase begins with its FROM and the
-- count 0
abbrev pub target : TableTree → InsideTree → Arch → Bits → Stage → Answer → Edge → Target
target T b A i g answer stall = at_stage g
target T b A i g answer turn = at_stage (record {
  number = g.number;
  phase = g.phase;
  words = stepped T b A i g.number g.phase.turns g.words g.count;
  count = suc g.count;
})
target T b A i g answer (on next) = at_stage (record {
  number = suc g.number;
  phase = next;
  words = entered T b A i (suc g.number) next.turns (words_behind T b A i g answer);
  count = 0;
})
target T b A i g answer finish = at_boundary (words_behind T b A i g answer)

-- the entry of what is reached; of a boundary BOUNDARY
abbrev pub EntryAt : SourceTree → TableTree → InsideTree → Arch → Bits → Target → Values → Type 0
EntryAt S T b A i (at_stage g) s = Entry S T b A i g s
EntryAt S T b A i (at_boundary m) s = IsOne S T.boundary s

-- its word: the current one at a stage, the fetched one at a boundary
abbrev pub code_at : Bits → Answer → Target → Bits
code_at i answer (at_stage g) = i
code_at i answer (at_boundary m) = answer.code

-- the rows by which states have their values there, SHOWS at a stage and SET at a boundary
abbrev pub sets_at : InsideTree → Target → List SetTree
sets_at b (at_stage g) = g.phase.shows
sets_at b (at_boundary m) = b.sets

-- what the names in these rows stand for
abbrev pub names_at : TableTree → InsideTree → Arch → Bits → Target → Names StateValue
names_at T b A i (at_stage g) = stage_names T b A i g
names_at T b A i (at_boundary m) = class_names T b A i m None

-- what each goal says, in the cycle v and at the next state s'
abbrev pub GoalAt : SourceTree → TableTree → InsideTree → Arch → Bits → Stage → Answer → Target → Values → Values → Goal → Type 0
GoalAt S T b A i g answer x v s' invariant = IsOne S T.invariant s'
GoalAt S T b A i g answer x v s' entry = EntryAt S T b A i x s'
GoalAt S T b A i g answer x v s' code = shown_word S T s' ≡ code_at i answer x
GoalAt S T b A i g answer x v s' (start row) = Unit {0}
GoalAt S T b A i g answer x v s' (state n row) = row_shown S row s' ≡ set_value (sets_at b x) row (nth_value A n) (names_at T b A i x)
GoalAt S T b A i g answer x v s' access = Sees T v (phase_row T b A i g.phase.turns g.phase.access g.words)

-- what each goal says behind a reset cycle
abbrev pub ResetGoal : SourceTree → TableTree → Answer → Values → Values → Goal → Type 0
ResetGoal S T answer v s' invariant = IsOne S T.invariant s'
ResetGoal S T answer v s' entry = IsOne S T.boundary s'
ResetGoal S T answer v s' code = shown_word S T s' ≡ answer.code
ResetGoal S T answer v s' (start row) = number_at (state_value T.states (shown S T s') row.name) 0 ≡ table_number no_names row.value
ResetGoal S T answer v s' (state n row) = Unit {0}
ResetGoal S T answer v s' access = (a : Access) → IsStartAccess T a → Sees T v a

-- the stage at which a valuation has a phase
abbrev pub stage_of : ℕ → PhaseTree → Valuation → Stage
stage_of p phase w = record { number = p; phase = phase; words = w.words; count = w.count }

-- a goal of an edge out of a stage, with the old states A and the word i, in the cycle v under the input inp
abbrev pub EdgeGoal : SourceTree → TableTree → Subject → Stage → Edge → Goal → Arch → Bits → Values → Values → Values → Type 0
EdgeGoal S T u g e goal A i inp v s' = GoalAt S T (steps_of u) A i g (answer_of S T inp) (target T (steps_of u) A i g (answer_of S T inp) e) v s' goal

-- where the premises of the edge hold in the state s, the goal does in each cycle from it
abbrev pub EdgeHolds : SourceTree → TableTree → Subject → Stage → Edge → Goal → Arch → Bits → Values → Values → Type 0
EdgeHolds S T u g e goal A i s inp =
    (v s' : Values) → Cycle S s inp v → Next S v s' → Premises S T u A i g e s inp → EdgeGoal S T u g e goal A i inp v s'

-- some class fits the word
abbrev pub IsCovered : TableTree → Bits → Type 0
IsCovered T word = (c : ClassTree) × IsIn c T.classes × (fits c.pattern word.value ≡ true)

-- an obligation holds at a valuation: where its premises hold its goal does, in the cycle of that state and
-- input
abbrev pub HoldsAt : SourceTree → TableTree → Obligation → Valuation → Type 0
HoldsAt S T cover w = IsCovered T w.word
HoldsAt S T (reset goal) w = (v s' : Values) → Cycle S w.state w.input v → Next S v s' → ResetGoal S T (answer_of S T w.input) v s' goal
HoldsAt S T (edge u p phase e goal) w =
    EdgeHolds S T u (stage_of p phase w) e goal (old_states S T phase w.state w.old) (shown_word S T w.state) w.state w.input

-- an edge's obligation is violated: its premises hold, and its goal fails in a cycle of that state and input
pub record IsEdgeViolated (S : SourceTree) (T : TableTree) (u : Subject) (g : Stage) (e : Edge) (goal : Goal) (A : Arch) (i : Bits) (s inp : Values) : Type 0 where
  pub cycle : Values
  pub after : Values
  pub is_cycle : Cycle S s inp cycle
  pub is_next : Next S cycle after
  pub premises : Premises S T u A i g e s inp
  pub fails : EdgeGoal S T u g e goal A i inp cycle after → ⊥

-- that of a reset cycle: its goal fails in a cycle of that state and input
pub record IsResetViolated (S : SourceTree) (T : TableTree) (goal : Goal) (s inp : Values) : Type 0 where
  pub cycle : Values
  pub after : Values
  pub is_cycle : Cycle S s inp cycle
  pub is_next : Next S cycle after
  pub fails : ResetGoal S T (answer_of S T inp) cycle after goal → ⊥

-- an obligation is violated at a valuation: its premises hold there and its goal doesn't
abbrev pub IsViolatedAt : SourceTree → TableTree → Obligation → Valuation → Type 0
IsViolatedAt S T cover w = IsCovered T w.word → ⊥
IsViolatedAt S T (reset goal) w = IsResetViolated S T goal w.state w.input
IsViolatedAt S T (edge u p phase e goal) w =
    IsEdgeViolated S T u (stage_of p phase w) e goal (old_states S T phase w.state w.old) (shown_word S T w.state) w.state w.input

-- an obligation holds at every valuation
abbrev pub HoldsAlways : SourceTree → TableTree → Obligation → Type 0
HoldsAlways S T o = (w : Valuation) → IsValuation S T o w → HoldsAt S T o w

-- all of them do
pub record AllHold (S : SourceTree) (T : TableTree) : Type 0 where
  pub each : AllByRecursion (HoldsAlways S T) (obligations T)

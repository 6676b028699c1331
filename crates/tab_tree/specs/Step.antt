-- What a table says of a word: its class, the states and the accesses of an instruction, and an
-- execution from answer to answer.
use Rattle.std.specs.Prelude.{◌≡◌, ℕ, zero, suc, ◌+◌, ◌-◌, ◌<◌, ◌≤◌, Bool, true, if◌then◌else◌, nat_eq, ◌&&◌, List, [], ◌∷◌, ◌++◌, length, replicate, set, bytes_eq, Option, Some, None}
use Rattle.lola_bits.specs.declared.vector.Bits.{Bits}
use Rattle.lola_bits.specs.Number.{bit_at}
use Rattle.lola_tree.specs.Tree.{Tree}
use Rattle.lola_bits.specs.Lists.{IsIn}
use Rattle.tab_tree.specs.declared.value.StateValue.{StateValue}
use Rattle.tab_tree.specs.declared.value.StateValue.TheVariants.{One, Many}
use Rattle.tab_tree.specs.declared.value.Answer.{Answer}
use Rattle.tab_tree.specs.declared.value.Access.{Access}
use Rattle.tab_tree.specs.declared.value.Access.TheVariants.{Idle, Load, Store, Fetch}
use Rattle.tab_tree.specs.Table.{StateTree, SetTree, TurnsTree, AccessTree, idle_row, take_row, load_row, store_row, fetch_row, PhaseTree, InsideTree, ClassTree, TableTree}
use Rattle.tab_tree.specs.Names.{vector, Names, nothing, no_names, mapped, table_vector, table_number, table_value, with_rows}

-- what a programmer sees: the values of the states, in the order of their rows
abbrev pub Arch : Type 0
Arch = List StateValue

abbrev pub nth_value : Arch → ℕ → StateValue
nth_value [] n = One (vector 0 0)
nth_value (a ∷ A) zero = a
nth_value (a ∷ A) (suc n) = nth_value A n

-- a value for each state, from its number and its row
abbrev pub by_row : (ℕ → StateTree → StateValue) → ℕ → List StateTree → Arch
by_row f n [] = []
by_row f n (row ∷ rows) = f n row ∷ by_row f (suc n) rows

-- the value of a state by its name
abbrev pub state_value : List StateTree → Arch → List ℕ → Option StateValue
state_value [] A name = None
state_value (row ∷ rows) [] name = None
state_value (row ∷ rows) (a ∷ A) name = if bytes_eq row.name name then Some a else state_value rows A name

-- the answers of the unstalled cycles by their number
abbrev pub answer_at : List Answer → ℕ → Answer
answer_at [] n = record { code = vector 1 0; loaded = vector 1 0 }
answer_at (a ∷ answers) zero = a
answer_at (a ∷ answers) (suc n) = answer_at answers n

-- what an instruction keeps from cycle to cycle: loaded words and accumulators, by the number of their
-- phase
pub record Words : Type 0 where
  pub loaded : ℕ → Option Bits
  pub turned : ℕ → Option Bits

abbrev pub no_words : Words
no_words = record { loaded = nothing; turned = nothing }

abbrev pub with_at : (ℕ → Option Bits) → ℕ → Option Bits → ℕ → Option Bits
with_at f p x j = if nat_eq j p then x else f j

abbrev pub with_turned : Words → ℕ → Option Bits → Words
with_turned m p x = record { loaded = m.loaded; turned = with_at m.turned p x }

abbrev pub with_loaded : Words → ℕ → Bits → Words
with_loaded m p x = record { loaded = with_at m.loaded p (Some x); turned = m.turned }

-- the count `k` of a turn has width 8
abbrev pub counted : Option ℕ → Option StateValue
counted None = None
counted (Some k) = Some (One (vector 8 k))

-- the fields, each over the word and earlier ones
abbrev pub field_values : TableTree → Bits → List ℕ → Option StateValue
field_values T i = (with_rows T.fields (record no_names { word = Some (One i) })).named

abbrev pub first_of : {X : Type 0} → Option X → Option X → Option X
first_of None other = other
first_of (Some x) other = Some x

-- what the expressions of a class name: the states and the fields, the word, loaded words, accumulators
-- and the count, and in LINK the registers; then the LETs, each evaluated where it is used
abbrev pub link_names : TableTree → InsideTree → Arch → Bits → Words → Option ℕ → (List (List ℕ) → Option StateValue) → Names StateValue
link_names T b A i m k registers =
    with_rows b.lets (record {
      word = Some (One i);
      count = counted k;
      loaded = λ j. mapped One (m.loaded j);
      turned = λ j. mapped One (m.turned j);
      named = λ name. first_of (state_value T.states A name) (field_values T i name);
      register = registers;
    })

abbrev pub class_names : TableTree → InsideTree → Arch → Bits → Words → Option ℕ → Names StateValue
class_names T b A i m k = link_names T b A i m k nothing

-- the value of a state's row in SET or SHOWS, or its old value where there is none; the other elements
-- of an array stay
abbrev pub with_element : StateValue → ℕ → Bits → StateValue
with_element (One x) n y = One x
with_element (Many xs) n y = Many (set xs n y)

abbrev pub row_value : Option Tree → Bits → StateValue → Names StateValue → StateValue
row_value None x old names = One x
row_value (Some place) x old names = with_element old (table_number names place) x

abbrev pub set_value : List SetTree → StateTree → StateValue → Names StateValue → StateValue
set_value [] state old names = old
set_value (row ∷ rows) state old names =
    if bytes_eq row.name state.name then row_value row.place (table_value names row.value) old names
    else set_value rows state old names

-- all states by the rows, all at once
abbrev pub set_states : TableTree → Arch → List SetTree → Names StateValue → Arch
set_states T A sets names = by_row (λ n state. set_value sets state (nth_value A n) names) 0 T.states

-- how many unstalled cycles a phase takes, and an instruction
abbrev pub times_of : Option TurnsTree → ℕ
times_of None = 1
times_of (Some t) = t.times

abbrev pub phase_cycles : PhaseTree → ℕ
phase_cycles phase = times_of phase.turns

abbrev pub cycles_of : List PhaseTree → ℕ
cycles_of [] = 0
cycles_of (phase ∷ phases) = phase_cycles phase + cycles_of phases

-- what a phase's row is in its cycle
abbrev pub access_value : AccessTree → Names StateValue → Access
access_value idle_row names = Idle
access_value take_row names = Idle
access_value (load_row adr byte) names = Load (table_value names adr) (nat_eq (table_number names byte) 1)
access_value (store_row adr byte word) names = Store (table_value names adr) (nat_eq (table_number names byte) 1) (table_value names word)
access_value (fetch_row adr) names = Fetch (table_value names adr)

-- the word that a phase takes from the answer of its cycle
abbrev pub with_answer : AccessTree → ℕ → Answer → Words → Words
with_answer idle_row p answer m = m
with_answer take_row p answer m = with_loaded m p answer.loaded
with_answer (load_row adr byte) p answer m = with_loaded m p answer.loaded
with_answer (store_row adr byte word) p answer m = m
with_answer (fetch_row adr) p answer m = m

-- one instruction, from old states and a word
module _ (T : TableTree) (b : InsideTree) (A : Arch) (i : Bits) where
  -- the accumulator begins with FROM, and each turn applies STEP, which sees it, with the count k
  abbrev pub entered : ℕ → Option TurnsTree → Words → Words
  entered p None m = m
  entered p (Some t) m = with_turned m p (table_vector (class_names T b A i m None) t.first)

  abbrev pub stepped : ℕ → Option TurnsTree → Words → ℕ → Words
  stepped p None m k = m
  stepped p (Some t) m k = with_turned m p (table_vector (class_names T b A i m (Some k)) t.step)

  -- the words after some turns of a phase that began with m
  abbrev pub turn_words : ℕ → Option TurnsTree → Words → ℕ → Words
  turn_words p turns m zero = entered p turns m
  turn_words p turns m (suc k) = stepped p turns (turn_words p turns m k) k

  -- those behind a phase whose last cycle has this answer
  abbrev pub phase_words : ℕ → PhaseTree → Words → Answer → Words
  phase_words p phase m answer = with_answer phase.access p answer (turn_words p phase.turns m (phase_cycles phase))

  -- what each cycle of a phase does to memory: a turn does nothing
  abbrev pub phase_row : Option TurnsTree → AccessTree → Words → Access
  phase_row None access m = access_value access (class_names T b A i m None)
  phase_row (Some t) access m = Idle

  -- from phase p on, whose first answer has the number at: the words behind the last phase, and the rows
  abbrev pub end_words : List Answer → ℕ → List PhaseTree → Words → ℕ → Words
  end_words answers p [] m at = m
  end_words answers p (phase ∷ phases) m at =
      end_words answers (suc p) phases (phase_words p phase m (answer_at answers (at + (phase_cycles phase - 1)))) (at + phase_cycles phase)

  abbrev pub rows : List Answer → ℕ → List PhaseTree → Words → ℕ → List Access
  rows answers p [] m at = []
  rows answers p (phase ∷ phases) m at =
      replicate (phase_cycles phase) (phase_row phase.turns phase.access m)
      ++ rows answers (suc p) phases (phase_words p phase m (answer_at answers (at + (phase_cycles phase - 1)))) (at + phase_cycles phase)

-- the states after an instruction whose first answer has the number at, the next word, and its rows
abbrev pub next_arch : TableTree → InsideTree → Arch → Bits → List Answer → ℕ → Arch
next_arch T b A i answers at = set_states T A b.sets (class_names T b A i (end_words T b A i answers 0 b.phases no_words at) None)

abbrev pub next_word : InsideTree → List Answer → ℕ → Bits
next_word b answers at = (answer_at answers (at + (cycles_of b.phases - 1))).code

abbrev pub instruction_rows : TableTree → InsideTree → Arch → Bits → List Answer → ℕ → List Access
instruction_rows T b A i answers at = rows T b A i answers 0 b.phases no_words at

abbrev pub row_at : List Access → ℕ → Access
row_at [] n = Idle
row_at (a ∷ others) zero = a
row_at (a ∷ others) (suc n) = row_at others n

-- one place of a pattern, at a bit: `-`, which is byte 45, has both; `0` and `1`, from 48 on, have their own
abbrev pub fits_place : ℕ → ℕ → Bool
fits_place c bit = if nat_eq c 45 then true else nat_eq c (48 + bit)

-- a word fits a pattern where each place does
abbrev pub fits : List ℕ → ℕ → Bool
fits [] word = true
fits (c ∷ cs) word = fits_place c (bit_at word (length cs)) && fits cs word

-- the class of a word
pub record IsClass (T : TableTree) (word : Bits) (c : ClassTree) : Type 0 where
  pub listed : IsIn c T.classes
  pub fit : fits c.pattern word.value ≡ true

-- a word is inside the claim, in this class, whose steps are these
pub record IsInside (T : TableTree) (word : Bits) (c : ClassTree) (b : InsideTree) : Type 0 where
  pub class : IsClass T word c
  pub inside : c.inside ≡ Some b

-- what begins at a boundary: so far a class
pub data Subject : Type 0 where
  of_class : (c : ClassTree) (b : InsideTree) → Subject

abbrev pub steps_of : Subject → InsideTree
steps_of (of_class c b) = b

-- its first answer chooses it: so far any answer does
abbrev pub Chooses : TableTree → Arch → Answer → Subject → Type 0
Chooses T A answer (of_class c b) = Unit {0}

-- a word lets a class begin that it is inside of
abbrev pub Lets : TableTree → Bits → Subject → Type 0
Lets T word (of_class c b) = IsInside T word c b

-- what begins with a word and takes the answers from number `at` on, as many as it needs
pub record Takes (T : TableTree) (answers : List Answer) (A : Arch) (word : Bits) (at : ℕ) (u : Subject) : Type 0 where
  pub lets : Lets T word u
  pub chooses : Chooses T A (answer_at answers at) u

-- the boundaries of an execution: from the states A and the word i, after b answers the states B and
-- the word j
pub data Boundary (T : TableTree) (answers : List Answer) (A : Arch) (i : Bits) : Arch → Bits → ℕ → Type 0 where
  begin : {B : Arch} {j : Bits} {b : ℕ} → B ≡ A → j ≡ i → b ≡ 0 → Boundary T answers A i B j b
  after : {B : Arch} {j : Bits} {b : ℕ} (before : Arch) (word : Bits) (at : ℕ) (u : Subject) → Boundary T answers A i before word at →
      Takes T answers before word at u → at + cycles_of (steps_of u).phases ≤ length answers → B ≡ next_arch T (steps_of u) before word answers at →
      j ≡ next_word (steps_of u) answers at → b ≡ at + cycles_of (steps_of u).phases → Boundary T answers A i B j b

-- the rows of an execution, also those of an instruction that the answers end within
pub data Row (T : TableTree) (answers : List Answer) (A : Arch) (i : Bits) : ℕ → Access → Type 0 where
  row : {n : ℕ} {access : Access} (B : Arch) (j : Bits) (b turn : ℕ) (u : Subject) → Boundary T answers A i B j b → Takes T answers B j b u →
      turn < cycles_of (steps_of u).phases → n ≡ b + turn → n < length answers → access ≡ row_at (instruction_rows T (steps_of u) B j answers b) turn →
      Row T answers A i n access

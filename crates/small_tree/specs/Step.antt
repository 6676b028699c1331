-- What a table says of a word: its class, the states after an instruction, and an execution from
-- answer to answer. So far the word is 0 of width 1, and an instruction makes no access.
use Rattle.std.specs.Prelude.{◌≡◌, ℕ, zero, suc, ◌+◌, ◌-◌, ◌≤◌, Bool, true, false, if◌then◌else◌, nat_eq, List, [], ◌∷◌, length, drop, bytes_eq, codes, ◌&&◌, Some, None}
use Rattle.lola_bits.specs.Number.{bit_at}
use Rattle.lola_bits.specs.Lists.{IsIn}
use Rattle.lola_tree.specs.declared.named.Ref.{Ref}
use Rattle.lola_tree.specs.Tree.{Tree}
use Rattle.lola_tree.specs.Width.{Scope}
use Rattle.lola_tree.specs.Value.{Path, Values, value}
use Rattle.small_tree.specs.Table.{StateTree, SetTree, PhaseTree, ClassTree, TableTree}

-- where an expression of a table stands: so far each name is a vector of one bit, and there are no
-- constants
abbrev pub table_scope : Scope
table_scope = record { count = λ c. None; number = λ r. None; width = λ r. Some 1; element = λ r. None; place = λ r. None }

-- the value of an expression of a table
abbrev pub table_value : Tree → (Ref → ℕ) → ℕ
table_value e read = value table_scope e (λ r n. read r)

-- what a programmer sees: the values of the states, in the order of their rows
abbrev pub Arch : Type 0
Arch = List ℕ

-- what the outside answers in an unstalled cycle: the next word, and the loaded word
pub record Answer : Type 0 where
  pub code : ℕ
  pub loaded : ℕ

-- one place of a pattern, at a bit: `-`, which is byte 45, has both; `0` and `1`, from 48 on, have their own
abbrev pub fits_place : ℕ → ℕ → Bool
fits_place c bit = if nat_eq c 45 then true else nat_eq c (48 + bit)

-- a word fits a pattern where each place does
abbrev pub fits : List ℕ → ℕ → Bool
fits [] word = true
fits (c ∷ cs) word = fits_place c (bit_at word (length cs)) && fits cs word

-- the class of a word
pub record IsClass (T : TableTree) (word : ℕ) (c : ClassTree) : Type 0 where
  pub listed : IsIn c T.classes
  pub fit : fits c.pattern word ≡ true

-- a word is inside the claim, in this class of it. So far every class is inside
abbrev pub IsInside : TableTree → ℕ → ClassTree → Type 0
IsInside T word c = IsClass T word c

-- the classes that are inside
abbrev pub inside_classes : TableTree → List ClassTree
inside_classes T = T.classes

-- the width of the word
abbrev pub word_width : TableTree → ℕ
word_width T = 1

-- the value of a state by its name
abbrev pub state_value : List StateTree → Arch → List ℕ → ℕ
state_value [] A name = 0
state_value (row ∷ rows) [] name = 0
state_value (row ∷ rows) (a ∷ others) name = if bytes_eq row.name name then a else state_value rows others name

-- the values of `@` names in a state of the design; no other name has one
abbrev pub source_names : Values → Ref → ℕ
source_names s r = if r.source then s r.path 0 else 0

-- a name without path
abbrev pub name_of : Path → List ℕ
name_of [] = []
name_of (name ∷ more) = name

-- the values of a name in a class: the word `i`, the loaded word `d0`, and the states
abbrev pub bare_value : TableTree → Arch → ℕ → ℕ → List ℕ → ℕ
bare_value T A word loaded name =
    if bytes_eq name (codes "i") then word else if bytes_eq name (codes "d0") then loaded else state_value T.states A name

-- the values of the names in a class; no `@` name has one
abbrev pub class_names : TableTree → Arch → ℕ → ℕ → Ref → ℕ
class_names T A word loaded r = if r.source then 0 else bare_value T A word loaded (name_of r.path)

-- START rows hold no names
abbrev pub no_names : Ref → ℕ
no_names r = 0

-- the value of a state's SET row, or its old value where there is none
abbrev pub set_value : List SetTree → List ℕ → ℕ → (Ref → ℕ) → ℕ
set_value [] name old names = old
set_value (row ∷ rows) name old names = if bytes_eq row.name name then table_value row.value names else set_value rows name old names

-- all states after the SET rows, all at once
abbrev pub set_states : List StateTree → Arch → List SetTree → (Ref → ℕ) → Arch
set_states [] A sets names = []
set_states (row ∷ rows) [] sets names = []
set_states (row ∷ rows) (a ∷ others) sets names = set_value sets row.name a names ∷ set_states rows others sets names

-- how many unstalled cycles an instruction takes: one for each phase
abbrev pub cycles_of : ClassTree → ℕ
cycles_of c = length c.phases

abbrev pub answer_at : List Answer → ℕ → Answer
answer_at [] n = record { code = 0; loaded = 0 }
answer_at (a ∷ others) zero = a
answer_at (a ∷ others) (suc n) = answer_at others n

-- whether phase 0 takes a loaded word
abbrev pub loads_first : List PhaseTree → Bool
loads_first [] = false
loads_first (phase ∷ phases) = phase.loads

-- the word that phase 0 takes from the answer of its cycle, or 0 where it takes none
abbrev pub loaded_word : ClassTree → Answer → ℕ
loaded_word c answer = if loads_first c.phases then answer.loaded else 0

-- the states after an instruction: the SET rows over the old states, the word, and the loaded word of
-- phase 0
abbrev pub next_arch : TableTree → ClassTree → Arch → ℕ → List Answer → Arch
next_arch T c A word answers = set_states T.states A c.sets (class_names T A word (loaded_word c (answer_at answers 0)))

-- the next word: what was fetched in the instruction's last cycle
abbrev pub next_word : ClassTree → List Answer → ℕ
next_word c answers = (answer_at answers (cycles_of c - 1)).code

-- the boundaries of an execution: from the states A and the word i, after b answers the states B and
-- the word j
pub data Boundary (T : TableTree) (answers : List Answer) (A : Arch) (i : ℕ) : Arch → ℕ → ℕ → Type 0 where
  first : {B : Arch} {j b : ℕ} → B ≡ A → j ≡ i → b ≡ 0 → Boundary T answers A i B j b
  after : {B : Arch} {j b : ℕ} (before : Arch) (word at : ℕ) (c : ClassTree) → Boundary T answers A i before word at → IsInside T word c →
      at + cycles_of c ≤ length answers → B ≡ next_arch T c before word (drop at answers) → j ≡ next_word c (drop at answers) →
      b ≡ at + cycles_of c → Boundary T answers A i B j b

-- what an instruction does to memory in a cycle
pub data Access : Type 0 where
  idle : Access

-- the access of a reset cycle, in tables that fetch at their start. So far none does
abbrev pub IsStartAccess : TableTree → Access → Type 0
IsStartAccess T access = ⊥

-- the rows of an execution: cycle n makes this access
pub data Row (T : TableTree) (answers : List Answer) (A : Arch) (i : ℕ) : ℕ → Access → Type 0 where
  row : {n : ℕ} {access : Access} (B : Arch) (j b phase : ℕ) (c : ClassTree) → Boundary T answers A i B j b → IsInside T j c →
      suc phase ≤ cycles_of c → n ≡ b + phase → suc n ≤ length answers → access ≡ idle → Row T answers A i n access

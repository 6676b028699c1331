-- What comes of a step: the instruction of the word's class, or why there is none.
use Rattle.std.specs.Prelude.{◌≡◌, ℕ, ◌<◌, ◌≤◌, true, false, List, length, Some, None, Result, Ok, Err}
use Rattle.std.specs.List.{AllByRecursion}
use Rattle.lola_bits.specs.declared.vector.Bits.{Bits}
use Rattle.lola_bits.specs.Lists.{IsIn, IsAt}
use Rattle.lola_bits.specs.Vector.{FitsWidth}
use Rattle.tab_tree.specs.declared.value.StateValue.{StateValue}
use Rattle.tab_tree.specs.declared.value.Answer.{Answer}
use Rattle.tab_tree.specs.Table.{PhaseTree, InsideTree, ClassTree, TableTree}
use Rattle.tab_tree.specs.Step.{Arch, times_of, cycles_of, fits, next_arch, next_word, instruction_rows}
use Rattle.tab_tree.specs.Fits.{EachInside, IsSmall}
use Rattle.tab_mach.specs.Vectors.{IsValue}
use Rattle.tab_mach.specs.declared.stepping.Stepped.{Stepped}
use Rattle.tab_mach.specs.declared.stepping.StepError.{StepError}
use Rattle.tab_mach.specs.declared.stepping.StepError.TheVariants.{NoClass, Outside, Short, Memory}

-- a turn's count fits 8 bits
abbrev pub TurnsAreSmall : List PhaseTree → Type 0
TurnsAreSmall phases = AllByRecursion (λ (phase : PhaseTree). times_of phase.turns ≤ 255) phases

-- loaded words fit their widths
abbrev pub AreLoaded : List Answer → Type 0
AreLoaded answers = AllByRecursion (λ (answer : Answer). FitsWidth answer.loaded.width answer.loaded.value) answers

-- the vectors of states fit their widths
abbrev pub AreStates : Arch → Type 0
AreStates A = AllByRecursion (λ (a : StateValue). IsValue (Some a)) A

-- the limits of tables and of turns hold, and the states, the word and the loaded words are vectors that
-- fit their widths: a table that fits a design, with values that suit it, has all of this
pub record CanStep (T : TableTree) (A : Arch) (word : Bits) (answers : List Answer) : Type 0 where
  pub small : IsSmall T
  pub turns : EachInside (λ c b. TurnsAreSmall b.phases) T
  pub arch : AreStates A
  pub code : FitsWidth word.width word.value
  pub loaded : AreLoaded answers

-- the class of this number is the first one that the word fits; where no two overlap, it is the only one
pub record IsFirst (T : TableTree) (word : Bits) (n : ℕ) (c : ClassTree) : Type 0 where
  pub stands : IsAt T.classes n c
  pub fit : fits c.pattern word.value ≡ true
  pub earlier : (m : ℕ) (d : ClassTree) → m < n → IsAt T.classes m d → fits d.pattern word.value ≡ false

abbrev pub IsFirstNumber : TableTree → Bits → ℕ → Type 0
IsFirstNumber T word n = (c : ClassTree) → IsAt T.classes n c → IsFirst T word n c

-- the class of the word has these steps
pub record HasSteps (T : TableTree) (word : Bits) (b : InsideTree) : Type 0 where
  pub number : ℕ
  pub class : ClassTree
  pub first : IsFirst T word number class
  pub inside : class.inside ≡ Some b

-- the instruction of these steps: there are answers for each of its cycles, and the states, the next word
-- and the accesses are those of the definitions
pub record IsInstruction (T : TableTree) (A : Arch) (i : Bits) (answers : List Answer) (s : Stepped) : Type 0 where
  pub steps : InsideTree
  pub class : HasSteps T i steps
  pub enough : cycles_of steps.phases ≤ length answers
  pub arch : s.arch.values ≡ next_arch T steps A i answers 0
  pub word : s.word ≡ next_word steps answers 0
  pub accesses : s.accesses ≡ instruction_rows T steps A i answers 0

-- no pattern fits the word
abbrev pub FitsNone : TableTree → Bits → Type 0
FitsNone T word = (c : ClassTree) → IsIn c T.classes → fits c.pattern word.value ≡ false

-- the class of the word, of this number, is OUTSIDE
pub record IsOutside (T : TableTree) (word : Bits) (n : ℕ) : Type 0 where
  pub class : ClassTree
  pub first : IsFirst T word n class
  pub outside : class.inside ≡ None

-- the class of the word takes so many cycles, which is more than there are answers
pub record IsShort (T : TableTree) (word : Bits) (answers : List Answer) (needed : ℕ) : Type 0 where
  pub steps : InsideTree
  pub class : HasSteps T word steps
  pub few : length answers < needed
  pub all : needed ≡ cycles_of steps.phases

-- when each answer comes; want of memory may come anywhere
abbrev pub Outcome : TableTree → Arch → Bits → List Answer → Result Stepped StepError → Type 0
Outcome T A word answers (Ok s) = IsInstruction T A word answers s
Outcome T A word answers (Err NoClass) = FitsNone T word
Outcome T A word answers (Err (Outside n)) = IsOutside T word n
Outcome T A word answers (Err (Short needed)) = IsShort T word answers needed
Outcome T A word answers (Err Memory) = Unit {0}

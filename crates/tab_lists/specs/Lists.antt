-- An execution as two lists: the boundaries one after another as far as the answers go, and a row for each
-- answer.
use Rattle.std.specs.Prelude.{◌≡◌, ℕ, zero, suc, ◌+◌, ◌-◌, ◌<◌, if◌then◌else◌, nat_le, List, [], ◌∷◌, ◌++◌, length, take, Option, Some, None, ◌↔◌}
use Rattle.lola_bits.specs.declared.vector.Bits.{Bits}
use Rattle.lola_bits.specs.Lists.{IsIn}
use Rattle.tab_tree.specs.declared.value.Answer.{Answer}
use Rattle.tab_tree.specs.declared.value.Access.{Access}
use Rattle.tab_tree.specs.Table.{InsideTree, ClassTree, TableTree}
use Rattle.tab_tree.specs.Step.{Arch, cycles_of, fits, Subject, of_class, steps_of, next_arch, next_word, instruction_rows, row_at, Boundary, Row}
use Rattle.tab_tree.specs.Fits.{EachApart, EachInside, StartsPlain}

-- the first class that fits a word; at most one does
abbrev pub class_of : List ClassTree → ℕ → Option ClassTree
class_of [] word = None
class_of (c ∷ classes) word = if fits c.pattern word then Some c else class_of classes word

-- what begins with a word, where its class is inside the claim
abbrev pub subject_inside : ClassTree → Option InsideTree → Option Subject
subject_inside c None = None
subject_inside c (Some b) = Some (of_class c b)

abbrev pub subject_of_class : Option ClassTree → Option Subject
subject_of_class None = None
subject_of_class (Some c) = subject_inside c c.inside

abbrev pub subject_of : TableTree → Bits → Option Subject
subject_of T word = subject_of_class (class_of T.classes word.value)

-- a boundary: the states, the word, and how many answers there were before it
pub record Bound : Type 0 where
  pub arch : Arch
  pub word : Bits
  pub at : ℕ

-- how many answers there are behind an instruction that begins at a boundary
abbrev pub behind : Subject → ℕ → ℕ
behind u at = at + cycles_of (steps_of u).phases

-- the boundaries behind one, where the answers suffice for what begins there; the list of them from any
-- boundary on is `others`
abbrev pub later_boundaries : TableTree → List Answer → Arch → Bits → ℕ → Option Subject → (Arch → Bits → ℕ → List Bound) → List Bound
later_boundaries T answers A i at None others = []
later_boundaries T answers A i at (Some u) others =
    if nat_le (behind u at) (length answers) then others (next_arch T (steps_of u) A i answers at) (next_word (steps_of u) answers at) (behind u at) else []

-- the boundaries of an execution from one on; the first number is above that of its instructions
abbrev pub boundaries : ℕ → TableTree → List Answer → Arch → Bits → ℕ → List Bound
boundaries zero T answers A i at = []
boundaries (suc more) T answers A i at = record { arch = A; word = i; at = at } ∷ later_boundaries T answers A i at (subject_of T i) (boundaries more T answers)

-- the rows from a boundary on: those of what begins there and those behind it, or where the answers end
-- within it one for each answer that is left
abbrev pub rows_by : TableTree → List Answer → Arch → Bits → ℕ → Option Subject → (Arch → Bits → ℕ → List Access) → List Access
rows_by T answers A i at None others = []
rows_by T answers A i at (Some u) others =
    if nat_le (behind u at) (length answers)
    then instruction_rows T (steps_of u) A i answers at ++ others (next_arch T (steps_of u) A i answers at) (next_word (steps_of u) answers at) (behind u at)
    else take (length answers - at) (instruction_rows T (steps_of u) A i answers at)

abbrev pub all_rows : ℕ → TableTree → List Answer → Arch → Bits → ℕ → List Access
all_rows zero T answers A i at = []
all_rows (suc more) T answers A i at = rows_by T answers A i at (subject_of T i) (all_rows more T answers)

-- the two lists of an execution: each instruction takes an answer, so there are no more of them
abbrev pub boundary_list : TableTree → List Answer → Arch → Bits → List Bound
boundary_list T answers A i = boundaries (suc (length answers)) T answers A i 0

abbrev pub row_list : TableTree → List Answer → Arch → Bits → List Access
row_list T answers A i = all_rows (suc (length answers)) T answers A i 0

-- no word fits two classes, and each instruction begins with a phase without turns
pub record IsOrdered (T : TableTree) : Type 0 where
  pub apart : EachApart T.classes
  pub plain : EachInside (λ c b. StartsPlain b.phases) T

-- the boundaries and the rows of an execution are those of the lists
pub record AreListed (T : TableTree) (answers : List Answer) (A : Arch) (i : Bits) : Type 0 where
  pub boundaries : (x : Bound) → IsIn x (boundary_list T answers A i) ↔ Boundary T answers A i x.arch x.word x.at
  pub rows : (n : ℕ) (access : Access) → ((n < length (row_list T answers A i)) × (access ≡ row_at (row_list T answers A i) n)) ↔ Row T answers A i n access

-- Where all obligations hold, the headline holds.
use Rattle.std.proofs.Common.{◌≡◌, ℕ, zero, suc, ◌-◌, ◌<◌, ◌≤◌, true, List, [], ◌∷◌, length, map, take, drop, filter, refl, sym, ap, ap₂, ◌∙◌, subst, arith, inl, inr}
use Rattle.std.specs.Prelude.{flat_map}
use Rattle.std.specs.List.{AllByRecursion}
use Rattle.std.proofs.lemmas.List.{length-take-le}
use Rattle.lola_bits.specs.Lists.{IsIn}
use Rattle.lola_bits.proofs.All.{all_front, all_back, all_mapped, all_flat}
use Rattle.lola_tree.specs.declared.named.Ref.{Ref}
use Rattle.lola_tree.specs.Tree.{SourceTree}
use Rattle.lola_tree.specs.Value.{Values}
use Rattle.lola_tree.specs.Cycle.{IsState, IsGiven, Cycle, Next, Run, input_at}
use Rattle.lola_elab.specs.Small.{IsSmallSource}
use Rattle.small_tree.specs.Table.{StateTree, SetTree, ClassTree, TableTree}
use Rattle.small_tree.specs.Step.{Arch, Answer, IsClass, fits, source_names, no_names, class_names, state_value, set_value, set_states, cycles_of, answer_at, loaded_word, Boundary, first, after, Access, idle, table_value}
use Rattle.lola_app.specs.Accepts.{Fits}
use Rattle.lola_app.specs.Headline.{shown, shown_word, Shows, IsIdle, is_unstalled, unstalled, answer_of, answers_of, Sees, Starts, Commutes, Resets}
use Rattle.lola_app.specs.Obligations.{start, state, reset, ends, class_obligations, Valuation, Premises, HoldsAlways, AllHold}

-- without STALL the unstalled inputs are all
all_unstalled : (T : TableTree) (inputs : List Values) → filter (is_unstalled T) inputs ≡ inputs
all_unstalled T [] = refl
all_unstalled T (inp ∷ inputs) = ap (λ (xs : List Values). inp ∷ xs) (all_unstalled T inputs)

count_is : (T : TableTree) (inputs : List Values) (c : ℕ) → c ≤ length inputs → unstalled T (take c inputs) ≡ c
count_is T inputs c within = ap length (all_unstalled T (take c inputs)) ∙ length-take-le c inputs within

answers_are : (T : TableTree) (inputs : List Values) → answers_of T inputs ≡ map (answer_of T) inputs
answers_are T inputs = ap (map (answer_of T)) (all_unstalled T inputs)

-- the answer of a cycle
answer_is : (T : TableTree) (inputs : List Values) (c : ℕ) → c < length inputs → answer_at (drop c (map (answer_of T) inputs)) 0 ≡ answer_of T (input_at inputs c)
answer_is T [] c within = absurd (omega arith)
answer_is T (inp ∷ inputs) zero within = refl
answer_is T (inp ∷ inputs) (suc c) within = answer_is T inputs c (omega arith)

-- the input of a cycle has what all inputs have
input_has : (P : Values → Type 0) (inputs : List Values) (c : ℕ) → AllByRecursion P inputs → c < length inputs → P (input_at inputs c)
input_has P [] c all within = absurd (omega arith)
input_has P (inp ∷ inputs) zero all within = all.0
input_has P (inp ∷ inputs) (suc c) all within = input_has P inputs c all.1 (omega arith)

-- what stands behind a cycle of a small design is a state
abbrev pub KeepsStates : Type 0
KeepsStates = (S : SourceTree) (s inp v s' : Values) → IsSmallSource S → IsState S s → IsGiven S inp → Cycle S s inp v → Next S v s' → IsState S s'

-- the valuation of a state and an input
abbrev at : Values → Values → Valuation
at s inp = record { word = 0; state = s; input = inp }

-- every state of a run is a state
states_are : KeepsStates → (S : SourceTree) (inputs : List Values) (s v : ℕ → Values) → IsSmallSource S → Run S inputs s v → AllByRecursion (IsGiven S) inputs → IsState S (s 0) → (c : ℕ) → c ≤ length inputs → IsState S (s c)
states_are keeps S inputs s v small run given at_first zero within = at_first
states_are keeps S inputs s v small run given at_first (suc c) within =
    keeps S (s c) (input_at inputs c) (v c) (s (suc c)) small (states_are keeps S inputs s v small run given at_first c (omega arith))
    (input_has (IsGiven S) inputs c given (omega arith)) (run.cycle c (omega arith)) (run.next c (omega arith))

-- the states after an instruction, row by row
shown_next : (sets : List SetTree) (rows : List StateTree) (s s' : Values) (names : Ref → ℕ) →
    AllByRecursion (λ (row : StateTree). table_value row.shown (source_names s') ≡ set_value sets row.name (table_value row.shown (source_names s)) names) rows →
    map (λ (row : StateTree). table_value row.shown (source_names s')) rows ≡ set_states rows (map (λ (row : StateTree). table_value row.shown (source_names s)) rows) sets names
shown_next sets [] s s' names all = refl
shown_next sets (row ∷ rows) s s' names all = ap₂ (λ (a : ℕ) (as' : List ℕ). a ∷ as') all.0 (shown_next sets rows s s' names all.1)

-- the obligations by name
module _ (S : SourceTree) (T : TableTree) (all : AllHold S T) where
  of_reset : AllByRecursion (λ (row : SetTree). HoldsAlways S T (reset (start row))) T.starts
  of_reset = all_mapped (HoldsAlways S T) (λ (row : SetTree). reset (start row)) T.starts
      (all_front (HoldsAlways S T) (map (λ (row : SetTree). reset (start row)) T.starts) (flat_map (class_obligations T) T.classes) all.each.1.1.1)

  of_class : (c : ClassTree) → IsIn c T.classes → AllByRecursion (HoldsAlways S T) (class_obligations T c)
  of_class c among = all_flat (HoldsAlways S T) (class_obligations T) c T.classes
      (all_back (HoldsAlways S T) (map (λ (row : SetTree). reset (start row)) T.starts) (flat_map (class_obligations T) T.classes) all.each.1.1.1) among

-- a property of each item from one that is stronger
weaker : {X : Type 0} (P Q : X → Type 0) → ((x : X) → P x → Q x) → (xs : List X) → AllByRecursion P xs → AllByRecursion Q xs
weaker P Q f [] all = tt
weaker P Q f (x ∷ xs) all = (f x all.0, weaker P Q f xs all.1)

resets : (S : SourceTree) (T : TableTree) → AllHold S T → Resets S T
resets S T all = record {
  leaves = λ s inp v s' is. (
    record {
      invariant = all.each.1.0 (at s inp) (is.state, is.given, is.active) v s' is.cycle is.next;
      boundary = all.each.1.1.0 (at s inp) (is.state, is.given, is.active) v s' is.cycle is.next;
      states = refl;
      code = refl;
    },
    weaker (λ (row : SetTree). HoldsAlways S T (reset (start row))) (λ (row : SetTree). state_value T.states (shown T s') row.name ≡ table_value row.value no_names)
        (λ row holds'. holds' (at s inp) (is.state, is.given, is.active) v s' is.cycle is.next) T.starts (of_reset S T all),
  );
  accesses = λ s inp v s' is access none. absurd none;
}

-- one instruction: from a boundary to the next
step : (S : SourceTree) (T : TableTree) → AllHold S T → (c : ClassTree) (s inp v s' : Values) (A : Arch) (word : ℕ) → IsState S s → IsGiven S inp → IsIdle T inp → Cycle S s inp v → Next S v s' → IsClass T word c → Shows T s A word →
    Shows T s' (set_states T.states A c.sets (class_names T A word (loaded_word c (answer_of T inp)))) 0
step S T all c s inp v s' A word is given still cycle next class shows =
    let obliged = of_class S T all c class.listed in
    let premises : Premises T c s = record { invariant = shows.invariant; boundary = shows.boundary; fit = subst (λ w. fits c.pattern w ≡ true) (sym shows.code) class.fit } in
    let rows = weaker (λ (row : StateTree). HoldsAlways S T (ends c 0 (state row)))
    (λ (row : StateTree). table_value row.shown (source_names s') ≡ set_value c.sets row.name (table_value row.shown (source_names s)) (class_names T (shown T s) (shown_word T s) (loaded_word c (answer_of T inp))))
    (λ row holds'. holds' (at s inp) (is, given, still) v s' cycle next premises) T.states (all_mapped (HoldsAlways S T) (λ (row : StateTree). ends c 0 (state row)) T.states obliged.1.1) in
    record {
      invariant = obliged.0 (at s inp) (is, given, still) v s' cycle next premises;
      boundary = obliged.1.0 (at s inp) (is, given, still) v s' cycle next premises;
      states = shown_next c.sets T.states s s' (class_names T (shown T s) (shown_word T s) (loaded_word c (answer_of T inp))) rows
          ∙ ap₂ (λ (B : Arch) (w : ℕ). set_states T.states B c.sets (class_names T B w (loaded_word c (answer_of T inp)))) shows.states shows.code;
      code = refl;
    }

-- an instruction takes one cycle
only_one : (class c : ClassTree) → IsIn c (class ∷ []) → cycles_of class ≡ 1 → cycles_of c ≡ 1
only_one class c (inl same) one = ap cycles_of same ∙ one
only_one class c (inr none) one = absurd none

one_of : (class c : ClassTree) (classes : List ClassTree) → classes ≡ class ∷ [] → IsIn c classes → cycles_of class ≡ 1 → cycles_of c ≡ 1
one_of class c classes only among one = let one_only : IsIn c (class ∷ []) = subst (λ cs. IsIn c cs) only among in only_one class c one_only one

one_cycle_each : (S : SourceTree) (T : TableTree) → Fits S T → (c : ClassTree) → IsIn c T.classes → cycles_of c ≡ 1
one_cycle_each S T fits' c among = one_of fits'.small.class c T.classes fits'.small.one_class among (ap length fits'.small.small.one_phase)

-- no word is fetched: the next word is 0
code_is : (T : TableTree) (inputs : List Values) (n k : ℕ) → (answer_at (drop n (map (answer_of T) inputs)) k).code ≡ 0
code_is T [] zero k = refl
code_is T [] (suc n) k = refl
code_is T (inp ∷ inputs) zero zero = refl
code_is T (inp ∷ inputs) zero (suc k) = code_is T inputs zero k
code_is T (inp ∷ inputs) (suc n) k = code_is T inputs n k

-- a state shows at each boundary what the table gives
at_boundary : KeepsStates → (S : SourceTree) (T : TableTree) → IsSmallSource S → Fits S T → AllHold S T → (inputs : List Values) (s v : ℕ → Values) (A : Arch) (i : ℕ) → Starts S T inputs s v A i → {B : Arch} {j b : ℕ} → Boundary T (answers_of T inputs) A i B j b → b ≤ length inputs → Shows T (s b) B j
at_boundary keeps S T small fits' all inputs s v A i starts {B = B} {j = j} {b = b} (first eB ej eb) within =
    subst (λ (n : ℕ). Shows T (s n) B j) (sym eb) (subst (λ (w : ℕ). Shows T (s 0) B w) (sym ej) (subst (λ (C : Arch). Shows T (s 0) C i) (sym eB) starts.shows))
at_boundary keeps S T small fits' all inputs s v A i starts {B = B} {j = j} {b = b} (after before word at c earlier class room eB ej eb) within =
    let one : cycles_of c ≡ 1 = one_cycle_each S T fits' c class.listed in
    let next_b : b ≡ suc at = omega arith in
    let inside : at < length inputs = omega arith in
    let shows = at_boundary keeps S T small fits' all inputs s v A i starts earlier (omega arith) in
    let answers = answers_are T inputs in
    let inp = input_at inputs at in
    let stepped = step S T all c (s at) inp (v at) (s (suc at)) before word
    (states_are keeps S inputs s v small starts.run starts.given starts.state at (omega arith))
    (input_has (IsGiven S) inputs at starts.given inside) (input_has (IsIdle T) inputs at starts.idle inside)
    (starts.run.cycle at inside) (starts.run.next at inside) class shows in
    let answer : answer_at (drop at (answers_of T inputs)) 0 ≡ answer_of T inp = ap (λ (xs : List Answer). answer_at (drop at xs) 0) answers ∙ answer_is T inputs at inside in
    let arch : set_states T.states before c.sets (class_names T before word (loaded_word c (answer_of T inp))) ≡ B =
    ap (λ (a : Answer). set_states T.states before c.sets (class_names T before word (loaded_word c a))) (sym answer) ∙ sym eB in
    let code : 0 ≡ j = sym (ej ∙ ap (λ (xs : List Answer). (answer_at (drop at xs) (cycles_of c - 1)).code) answers ∙ code_is T inputs at (cycles_of c - 1)) in
    subst (λ (n : ℕ). Shows T (s n) B j) (sym next_b)
    (subst (λ (w : ℕ). Shows T (s (suc at)) B w) code (subst (λ (C : Arch). Shows T (s (suc at)) C 0) arch stepped))

sees : (T : TableTree) (v : Values) (access : Access) → Sees T v access
sees T v idle = tt

pub holds : KeepsStates → (S : SourceTree) (T : TableTree) → IsSmallSource S → Fits S T → AllHold S T → Resets S T × Commutes S T
holds keeps S T small fits' all = (
  resets S T all,
  record {
    boundaries = λ inputs s v A i starts B j b c at_b within count lasts.
        subst (λ (n : ℕ). Shows T (s n) B j) (sym count ∙ count_is T inputs c within)
        (at_boundary keeps S T small fits' all inputs s v A i starts at_b (subst (λ (n : ℕ). n ≤ length inputs) (sym (count_is T inputs c within) ∙ count) within));
    accesses = λ inputs s v A i starts c access within unstalled' row. sees T (v c) access;
  },
)

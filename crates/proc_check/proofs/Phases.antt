-- An instruction in a run: from stage to stage, and to its end.
use Rattle.std.proofs.Common.{◌≡◌, ◌≤◌, ◌<◌, ◌+◌, ◌-◌, ℕ, zero, suc, Bool, true, false, List, [], ◌∷◌, ◌++◌, length, take, replicate, refl, sym, ap, ap₂, ◌∙◌, subst, arith, inl, inr, Option, Some, None}
use Rattle.std.specs.Prelude.{if◌then◌else◌, nat_lt}
use Rattle.std.specs.List.{AllByRecursion}
use Rattle.std.proofs.lemmas.Bool.{cases_lt}
use Rattle.std.proofs.lemmas.Bool.Decides.{nat_tests}
use Rattle.lola_bits.specs.declared.vector.Bits.{Bits}
use Rattle.lola_bits.proofs.All.{all_front, all_back}
use Rattle.lola_tree.specs.Tree.{SourceTree}
use Rattle.lola_tree.specs.Value.{Values}
use Rattle.lola_tree.specs.Cycle.{input_at}
use Rattle.lola_tree.specs.design.Cycle.{IsState, IsGiven}
use Rattle.tab_tree.specs.declared.table.Active.{Active}
use Rattle.tab_tree.specs.declared.value.Answer.{Answer}
use Rattle.tab_tree.specs.declared.value.Access.{Access}
use Rattle.tab_tree.specs.Table.{TurnsTree, AccessTree, PhaseTree, TableTree}
use Rattle.tab_tree.specs.Step.{Arch, answer_at, Words, class_names, set_states, times_of, cycles_of, with_answer, stepped, turn_words, phase_words, phase_row, end_words, rows, row_at, Subject, steps_of, Chooses, Lets}
use Rattle.tab_tree.specs.Headline.{IsIdle, is_unstalled, unstalled_by, unstalled, answer_of, answers_of, Sees, Shows, Starts}
use Rattle.tab_tree.specs.Placed.{word_width, phase_at}
use Rattle.tab_tree.specs.Suits.{IsOf}
use Rattle.obl_def.specs.Obligations.{Edge, stall, turn, on, finish, edge_obligations, stall_edges, turn_edges, way_out, phases_obligations}
use Rattle.obl_def.specs.Valuation.{StallAt}
use Rattle.obl_def.specs.Holds.{Stage, CountAt, ChoosesOn, HoldsAlways}
use Rattle.proc_check.proofs.Basis.{TurnsFit, PhaseFits, PhasesFit, Basis}
use Rattle.proc_check.proofs.Moments.{input_has, answer_is, At, First, onward, lasting}
use Rattle.proc_check.proofs.Edge.{Within, Reached, reached}
use Rattle.proc_check.proofs.Words.{answer_fits, stepped_fits, entered_fits, small_count, some_turns}

-- where a cycle is stalled the table has STALL
stalls_by : (S : SourceTree) (T : TableTree) (o : Option Active) (u : Subject) (p : ℕ) (phase : PhaseTree) (inp : Values) → unstalled_by o inp ≡ false →
    AllByRecursion (HoldsAlways S T) (stall_edges T o u p phase) → AllByRecursion (HoldsAlways S T) (edge_obligations T u p phase stall)
stalls_by S T None u p phase inp stalled all = absurd (cc)
stalls_by S T (Some a) u p phase inp stalled all = all

-- premises of an edge on the count and on what is chosen
count_stall : (turns : Option TurnsTree) (k : ℕ) → k < times_of turns → CountAt stall turns k
count_stall None k below = tt
count_stall (Some t) k below = below

count_turn : (turns : Option TurnsTree) (k : ℕ) → suc k < times_of turns → CountAt turn turns k
count_turn None k below = tt
count_turn (Some t) k below = below

count_on : (turns : Option TurnsTree) (next : PhaseTree) (k : ℕ) → suc k ≡ times_of turns → CountAt (on next) turns k
count_on None next k last = tt
count_on (Some t) next k last = last

count_finish : (turns : Option TurnsTree) (k : ℕ) → CountAt finish turns k
count_finish None k = tt
count_finish (Some t) k = tt

free_choice : (T : TableTree) (A : Arch) (x : Answer) (u : Subject) (p : ℕ) → ChoosesOn T A x u p stall × ChoosesOn T A x u p turn
free_choice T A x u zero = (tt, tt)
free_choice T A x u (suc p) = (tt, tt)

same_choice : (T : TableTree) (A : Arch) (x : Answer) (u : Subject) (p : ℕ) (next : PhaseTree) → ChoosesOn T A x u p finish → ChoosesOn T A x u p (on next)
same_choice T A x u zero next chosen = chosen
same_choice T A x u (suc p) next chosen = tt

-- the first phase has one cycle, and no SHOWS
abbrev pub PlainAt : ℕ → PhaseTree → Type 0
PlainAt zero phase = phase.turns ≡ None
PlainAt (suc p) phase = Unit {0}

choice_at : (T : TableTree) (A : Arch) (answers : List Answer) (n : ℕ) (u : Subject) (p k : ℕ) (phase : PhaseTree) → PlainAt p phase → k < times_of phase.turns →
    ChoosesOn T A (answer_at answers n) u p finish → ChoosesOn T A (answer_at answers (n + k)) u p finish
choice_at T A answers n u zero k phase plain below chosen =
    let one : times_of phase.turns ≡ 1 = ap times_of plain in
    let same : n ≡ n + k = omega arith in
    subst (λ (j : ℕ). Chooses T A (answer_at answers j) u) same chosen
choice_at T A answers n u (suc p) k phase plain below chosen = tt

-- the rows of a phase are alike
words_stay : (T : TableTree) (u : Subject) (A : Arch) (i : Bits) (p : ℕ) (m : Words) (k : ℕ) → turn_words T (steps_of u) A i p None m k ≡ m
words_stay T u A i p m zero = refl
words_stay T u A i p m (suc k) = words_stay T u A i p m k

row_stays : (T : TableTree) (u : Subject) (A : Arch) (i : Bits) (p : ℕ) (turns : Option TurnsTree) (access : AccessTree) (m : Words) (k : ℕ) →
    phase_row T (steps_of u) A i turns access (turn_words T (steps_of u) A i p turns m k) ≡ phase_row T (steps_of u) A i turns access m
row_stays T u A i p None access m k = ap (λ (w : Words). phase_row T (steps_of u) A i None access w) (words_stay T u A i p m k)
row_stays T u A i p (Some t) access m k = refl

row_front : (n k : ℕ) (a : Access) (others : List Access) → k < n → row_at (replicate n a ++ others) k ≡ a
row_front zero k a others below = absurd (omega arith)
row_front (suc n) zero a others below = refl
row_front (suc n) (suc k) a others below = row_front n k a others (omega arith)

row_behind : (n k : ℕ) (a : Access) (others : List Access) → row_at (replicate n a ++ others) (n + k) ≡ row_at others k
row_behind zero k a others = let same : 0 + k ≡ k = omega arith in rw same refl
row_behind (suc n) k a others = let same : suc n + k ≡ suc (n + k) = omega arith in rw same (row_behind n k a others)

-- a run from a boundary
module _ (S : SourceTree) (T : TableTree) (ok : Basis S T) (inputs : List Values) (s v : ℕ → Values) (A0 : Arch) (i0 : Bits) (starts : Starts S T inputs s v A0 i0) where
  pub states_are : (c : ℕ) → c ≤ length inputs → IsState S (s c)
  states_are zero within = starts.state
  states_are (suc c) within =
      ok.keeps (s c) (input_at inputs c) (v c) (s (suc c)) (states_are c (omega arith))
      (input_has (IsGiven S) inputs c starts.given (omega arith)) (starts.run.cycle c (omega arith)) (starts.run.next c (omega arith))

  -- an instruction of u from the states A and the word i
  module _ (u : Subject) (A : Arch) (i : Bits) (lets : Lets T i u) where
    -- its stage in phase p that began with the words m, behind k turns
    abbrev pub stage : ℕ → PhaseTree → Words → ℕ → Stage
    stage p phase m k = record { number = p; phase = phase; words = turn_words T (steps_of u) A i p phase.turns m k; count = k }

    -- what the obligations of an edge give in a cycle of the run
    cycle_on : (p : ℕ) (phase : PhaseTree) (m : Words) (k : ℕ) (e : Edge) → AllByRecursion (HoldsAlways S T) (edge_obligations T u p phase e) → TurnsFit S T (steps_of u) p phase.turns → k < times_of phase.turns →
        (c : ℕ) → c < length inputs → StallAt T e (input_at inputs c) → ChoosesOn T A (answer_of S T (input_at inputs c)) u p e → CountAt e phase.turns k →
        Within S T u A i (stage p phase m k) (s c) → Reached S T (steps_of u) A i (stage p phase m k) (answer_of S T (input_at inputs c)) e (v c) (s (suc c))
    cycle_on p phase m k e all fit below c inside stalls chosen count w =
        reached S T ok u p phase e all A i k (turn_words T (steps_of u) A i p phase.turns m k) (s c) (input_at inputs c) (v c) (s (suc c))
        (states_are c (omega arith)) (input_has (IsGiven S) inputs c starts.given inside) (input_has (IsIdle T) inputs c starts.idle inside) stalls
        (starts.run.cycle c inside) (starts.run.next c inside) w lets chosen count (small_count S T (steps_of u) p phase.turns k fit below)

    -- the answer of an unstalled cycle
    answer_here : (n c : ℕ) → c < length inputs → unstalled T (take c inputs) ≡ n → is_unstalled T (input_at inputs c) ≡ true → answer_of S T (input_at inputs c) ≡ answer_at (answers_of S T inputs) n
    answer_here n c inside count free = sym (answer_is S T inputs c inside free) ∙ ap (answer_at (answers_of S T inputs)) count

    -- the word suits its width
    word_fits : (g : Stage) (c : ℕ) → c ≤ length inputs → Within S T u A i g (s c) → IsOf (word_width S T) i
    word_fits g c within w = subst (IsOf (word_width S T)) w.code (ok.word (s c) (states_are c within))

    -- stalled cycles keep a stage
    pub stage_lasts : (p : ℕ) (phase : PhaseTree) (m : Words) (k n : ℕ) → AllByRecursion (HoldsAlways S T) (stall_edges T T.roles.stall u p phase) →
        TurnsFit S T (steps_of u) p phase.turns → k < times_of phase.turns →
        First T inputs s n (Within S T u A i (stage p phase m k)) → At T inputs s n (Within S T u A i (stage p phase m k))
    stage_lasts p phase m k n all fit below first = lasting T inputs s n (Within S T u A i (stage p phase m k))
        (λ c inside stalled w.
        let inp = input_at inputs c in
        let edges = stalls_by S T T.roles.stall u p phase inp stalled all in
        let r = cycle_on p phase m k stall edges fit below c inside stalled ((free_choice T A (answer_of S T inp) u p).0) (count_stall phase.turns k below) w in
        record { invariant = r.invariant; entry = r.entry; states = r.states; code = r.code; old = w.old; words = w.words }) first

    -- the obligations of turns, where there is a turn left
    several_turns : (p : ℕ) (phase : PhaseTree) {k : ℕ} → AllByRecursion (HoldsAlways S T) (turn_edges T u p phase) → suc k < times_of phase.turns → AllByRecursion (HoldsAlways S T) (edge_obligations T u p phase turn)
    several_turns p phase all below =
        let several : nat_lt 1 (times_of phase.turns) ≡ true = grind (arith, nat_tests) in
        subst (λ (b : Bool). AllByRecursion (HoldsAlways S T) (if b then edge_obligations T u p phase turn else [])) several all

    -- an unstalled cycle leads to the next turn
    turn_next : (p : ℕ) (phase : PhaseTree) (m : Words) (k n : ℕ) → AllByRecursion (HoldsAlways S T) (turn_edges T u p phase) →
        TurnsFit S T (steps_of u) p phase.turns → phase_at (steps_of u).phases p ≡ Some phase → suc k < times_of phase.turns →
        At T inputs s n (Within S T u A i (stage p phase m k)) → First T inputs s (suc n) (Within S T u A i (stage p phase m (suc k)))
    turn_next p phase m k n all fit same below at = onward T inputs s n (Within S T u A i (stage p phase m k)) (Within S T u A i (stage p phase m (suc k)))
        (λ c inside count free w.
        let inp = input_at inputs c in
        let r = cycle_on p phase m k turn (several_turns p phase all below) fit (omega arith) c inside free ((free_choice T A (answer_of S T inp) u p).1) (count_turn phase.turns k below) w in
        record {
          invariant = r.invariant;
          entry = r.entry;
          states = r.states;
          code = r.code;
          old = w.old;
          words = stepped_fits S T (steps_of u) p phase same A i (turn_words T (steps_of u) A i p phase.turns m k) k fit w.old (word_fits (stage p phase m k) c (omega arith) w)
              (small_count S T (steps_of u) p phase.turns k fit (omega arith)) w.words;
        }) at

    -- all turns of a phase
    turns_pass : (p : ℕ) (phase : PhaseTree) (m : Words) (n : ℕ) → AllByRecursion (HoldsAlways S T) (stall_edges T T.roles.stall u p phase) → AllByRecursion (HoldsAlways S T) (turn_edges T u p phase) →
        TurnsFit S T (steps_of u) p phase.turns → phase_at (steps_of u).phases p ≡ Some phase →
        At T inputs s n (Within S T u A i (stage p phase m 0)) → (k : ℕ) → k < times_of phase.turns → At T inputs s (n + k) (Within S T u A i (stage p phase m k))
    turns_pass p phase m n stalls turns fit same at zero below = let e : n ≡ n + 0 = omega arith in subst (λ (j : ℕ). At T inputs s j (Within S T u A i (stage p phase m 0))) e at
    turns_pass p phase m n stalls turns fit same at (suc k) below =
        let e : suc (n + k) ≡ n + suc k = omega arith in
        subst (λ (j : ℕ). At T inputs s j (Within S T u A i (stage p phase m (suc k)))) e
        (stage_lasts p phase m (suc k) (suc (n + k)) stalls fit below
        (turn_next p phase m k (n + k) turns fit same below (turns_pass p phase m n stalls turns fit same at k (omega arith))))

    -- an unstalled cycle leads to the next phase
    phase_next : (p : ℕ) (phase next : PhaseTree) (m : Words) (k n : ℕ) → AllByRecursion (HoldsAlways S T) (edge_obligations T u p phase (on next)) →
        PhaseFits S T (steps_of u) p phase → phase_at (steps_of u).phases p ≡ Some phase →
        TurnsFit S T (steps_of u) (suc p) next.turns → phase_at (steps_of u).phases (suc p) ≡ Some next →
        suc k ≡ times_of phase.turns → ChoosesOn T A (answer_at (answers_of S T inputs) n) u p finish →
        At T inputs s n (Within S T u A i (stage p phase m k)) →
        First T inputs s (suc n) (Within S T u A i (stage (suc p) next (phase_words T (steps_of u) A i p phase m (answer_at (answers_of S T inputs) n)) 0))
    phase_next p phase next m k n all fit same fit' same' last chosen at =
        onward T inputs s n (Within S T u A i (stage p phase m k)) (Within S T u A i (stage (suc p) next (phase_words T (steps_of u) A i p phase m (answer_at (answers_of S T inputs) n)) 0))
        (λ c inside count free w.
        let inp = input_at inputs c in
        let b = steps_of u in
        let answer = answer_here n c inside count free in
        let words = turn_words T b A i p phase.turns m k in
        let chosen' : ChoosesOn T A (answer_of S T inp) u p (on next) = same_choice T A (answer_of S T inp) u p next (subst (λ (x : Answer). ChoosesOn T A x u p finish) (sym answer) chosen) in
        let r = cycle_on p phase m k (on next) all fit.turns (omega arith) c inside free chosen' (count_on phase.turns next k last) w in
        let word = word_fits (stage p phase m k) c (omega arith) w in
        let behind = with_answer phase.access p (answer_of S T inp) (stepped T b A i p phase.turns words k) in
        let there : Within S T u A i (stage (suc p) next behind 0) (s (suc c)) =
        record {
          invariant = r.invariant;
          entry = r.entry;
          states = r.states;
          code = r.code;
          old = w.old;
          words = entered_fits S T b (suc p) next same' A i behind fit' w.old word
              (answer_fits S T b p phase same (stepped T b A i p phase.turns words k) (answer_of S T inp)
              (λ takes. ok.loaded inp (input_has (IsGiven S) inputs c starts.given inside) (fit.loads takes))
              (stepped_fits S T b p phase same A i words k fit.turns w.old word (small_count S T b p phase.turns k fit.turns (omega arith)) w.words));
        } in
        let joined : behind ≡ phase_words T b A i p phase m (answer_at (answers_of S T inputs) n) =
        ap₂ (λ (x : Answer) (r : ℕ). with_answer phase.access p x (turn_words T b A i p phase.turns m r)) answer last in
        subst (λ (x : Words). Within S T u A i (stage (suc p) next x 0) (s (suc c))) joined there) at

    -- an unstalled cycle leads to a boundary
    phase_last : (p : ℕ) (phase : PhaseTree) (m : Words) (k n : ℕ) → AllByRecursion (HoldsAlways S T) (edge_obligations T u p phase finish) →
        TurnsFit S T (steps_of u) p phase.turns → suc k ≡ times_of phase.turns → ChoosesOn T A (answer_at (answers_of S T inputs) n) u p finish →
        At T inputs s n (Within S T u A i (stage p phase m k)) →
        First T inputs s (suc n) (λ s'. Shows S T s' (set_states T A (steps_of u).sets
        (class_names T (steps_of u) A i (phase_words T (steps_of u) A i p phase m (answer_at (answers_of S T inputs) n)) None)) (answer_at (answers_of S T inputs) n).code)
    phase_last p phase m k n all fit last chosen at =
        let b = steps_of u in
        let reaches = λ (x : Answer) (r : ℕ) (s' : Values). Shows S T s' (set_states T A b.sets (class_names T b A i (with_answer phase.access p x (turn_words T b A i p phase.turns m r)) None)) x.code in
        onward T inputs s n (Within S T u A i (stage p phase m k)) (reaches (answer_at (answers_of S T inputs) n) (times_of phase.turns))
        (λ c inside count free w.
        let inp = input_at inputs c in
        let answer = answer_here n c inside count free in
        let r = cycle_on p phase m k finish all fit (omega arith) c inside free (subst (λ (x : Answer). ChoosesOn T A x u p finish) (sym answer) chosen) (count_finish phase.turns k) w in
        let there : reaches (answer_of S T inp) (suc k) (s (suc c)) = record { invariant = r.invariant; boundary = r.entry; states = r.states; code = r.code } in
        subst (λ (x : Answer). reaches x (times_of phase.turns) (s (suc c))) answer (subst (λ (j : ℕ). reaches (answer_of S T inp) j (s (suc c))) last there)) at

    -- the phases that are left, by their numbers
    abbrev pub PhasesFrom : ℕ → List PhaseTree → Type 0
    PhasesFrom p phases = (j : ℕ) → phase_at (steps_of u).phases (p + j) ≡ phase_at phases j

    this_phase : (p : ℕ) (phase : PhaseTree) (phases : List PhaseTree) → PhasesFrom p (phase ∷ phases) → phase_at (steps_of u).phases p ≡ Some phase
    this_phase p phase phases from = let e : p ≡ p + 0 = omega arith in ap (phase_at (steps_of u).phases) e ∙ from 0

    later_phases : (p : ℕ) (phase : PhaseTree) (phases : List PhaseTree) → PhasesFrom p (phase ∷ phases) → PhasesFrom (suc p) phases
    later_phases p phase phases from j = let e : suc p + j ≡ p + suc j = omega arith in ap (phase_at (steps_of u).phases) e ∙ from (suc j)

    -- the obligations of a phase by edge, and those of later phases
    pub stalls_of : (p : ℕ) (phase : PhaseTree) (phases : List PhaseTree) → AllByRecursion (HoldsAlways S T) (phases_obligations T u p (phase ∷ phases)) → AllByRecursion (HoldsAlways S T) (stall_edges T T.roles.stall u p phase)
    stalls_of p phase phases all = all_front (HoldsAlways S T) (stall_edges T T.roles.stall u p phase) (turn_edges T u p phase ++ (edge_obligations T u p phase (way_out phases) ++ phases_obligations T u (suc p) phases)) all

    not_stalls : (p : ℕ) (phase : PhaseTree) (phases : List PhaseTree) → AllByRecursion (HoldsAlways S T) (phases_obligations T u p (phase ∷ phases)) →
        AllByRecursion (HoldsAlways S T) (turn_edges T u p phase ++ (edge_obligations T u p phase (way_out phases) ++ phases_obligations T u (suc p) phases))
    not_stalls p phase phases all = all_back (HoldsAlways S T) (stall_edges T T.roles.stall u p phase) (turn_edges T u p phase ++ (edge_obligations T u p phase (way_out phases) ++ phases_obligations T u (suc p) phases)) all

    turns_of : (p : ℕ) (phase : PhaseTree) (phases : List PhaseTree) → AllByRecursion (HoldsAlways S T) (phases_obligations T u p (phase ∷ phases)) → AllByRecursion (HoldsAlways S T) (turn_edges T u p phase)
    turns_of p phase phases all = all_front (HoldsAlways S T) (turn_edges T u p phase) (edge_obligations T u p phase (way_out phases) ++ phases_obligations T u (suc p) phases) (not_stalls p phase phases all)

    outs_and_later : (p : ℕ) (phase : PhaseTree) (phases : List PhaseTree) → AllByRecursion (HoldsAlways S T) (phases_obligations T u p (phase ∷ phases)) →
        AllByRecursion (HoldsAlways S T) (edge_obligations T u p phase (way_out phases)) × AllByRecursion (HoldsAlways S T) (phases_obligations T u (suc p) phases)
    outs_and_later p phase phases all =
        let behind = all_back (HoldsAlways S T) (turn_edges T u p phase) (edge_obligations T u p phase (way_out phases) ++ phases_obligations T u (suc p) phases) (not_stalls p phase phases all) in (
          all_front (HoldsAlways S T) (edge_obligations T u p phase (way_out phases)) (phases_obligations T u (suc p) phases) behind,
          all_back (HoldsAlways S T) (edge_obligations T u p phase (way_out phases)) (phases_obligations T u (suc p) phases) behind,
        )

    -- what is known where a phase begins, with those that follow
    pub record Begins (p : ℕ) (phase : PhaseTree) (phases : List PhaseTree) (m : Words) (n : ℕ) : Type 0 where
      pub plain : PlainAt p phase
      pub all : AllByRecursion (HoldsAlways S T) (phases_obligations T u p (phase ∷ phases))
      pub fit : PhasesFit S T (steps_of u) p (phase ∷ phases)
      pub from : PhasesFrom p (phase ∷ phases)
      pub chosen : ChoosesOn T A (answer_at (answers_of S T inputs) n) u p finish
      pub at : At T inputs s n (Within S T u A i (stage p phase m 0))

    -- its turns
    at_turn : (p : ℕ) (phase : PhaseTree) (phases : List PhaseTree) (m : Words) (n : ℕ) → Begins p phase phases m n → (k : ℕ) → k < times_of phase.turns → At T inputs s (n + k) (Within S T u A i (stage p phase m k))
    at_turn p phase phases m n g k below =
        turns_pass p phase m n (stalls_of p phase phases g.all) (turns_of p phase phases g.all) g.fit.0.turns (this_phase p phase phases g.from) g.at k below

    -- the begin of the next phase
    to_next : (p : ℕ) (phase next : PhaseTree) (phases : List PhaseTree) (m : Words) (n : ℕ) → Begins p phase (next ∷ phases) m n →
        Begins (suc p) next phases (phase_words T (steps_of u) A i p phase m (answer_at (answers_of S T inputs) (n + (times_of phase.turns - 1)))) (n + times_of phase.turns)
    to_next p phase next phases m n g =
        let k = times_of phase.turns - 1 in
        let some : 1 ≤ times_of phase.turns = some_turns S T (steps_of u) p phase.turns g.fit.0.turns in
        let behind = phase_words T (steps_of u) A i p phase m (answer_at (answers_of S T inputs) (n + k)) in
        let edges = outs_and_later p phase (next ∷ phases) g.all in
        let from = later_phases p phase (next ∷ phases) g.from in
        let first = phase_next p phase next m k (n + k) edges.0 g.fit.0 (this_phase p phase (next ∷ phases) g.from) g.fit.1.0.turns (this_phase (suc p) next phases from) (omega arith)
        (choice_at T A (answers_of S T inputs) n u p k phase g.plain (omega arith) g.chosen) (at_turn p phase (next ∷ phases) m n g k (omega arith)) in
        let e : suc (n + k) ≡ n + times_of phase.turns = omega arith in
        record {
          plain = tt;
          all = edges.1;
          fit = g.fit.1;
          from = from;
          chosen = tt;
          at = subst (λ (j : ℕ). At T inputs s j (Within S T u A i (stage (suc p) next behind 0))) e
              (stage_lasts (suc p) next behind 0 (suc (n + k)) (stalls_of (suc p) next phases edges.1) g.fit.1.0.turns (some_turns S T (steps_of u) (suc p) next.turns g.fit.1.0.turns) first);
        }

    -- the boundary behind all phases
    abbrev pub Ends : List Answer → Words → ℕ → Values → Type 0
    Ends answers m n s' = Shows S T s' (set_states T A (steps_of u).sets (class_names T (steps_of u) A i m None)) (answer_at answers n).code

    pub to_end : (p : ℕ) (phase : PhaseTree) (phases : List PhaseTree) (m : Words) (n : ℕ) → Begins p phase phases m n →
        First T inputs s (n + cycles_of (phase ∷ phases)) (Ends (answers_of S T inputs) (end_words T (steps_of u) A i (answers_of S T inputs) p (phase ∷ phases) m n) (n + (cycles_of (phase ∷ phases) - 1)))
    to_end p phase [] m n g =
        let k = times_of phase.turns - 1 in
        let some : 1 ≤ times_of phase.turns = some_turns S T (steps_of u) p phase.turns g.fit.0.turns in
        let words = phase_words T (steps_of u) A i p phase m (answer_at (answers_of S T inputs) (n + k)) in
        let first = phase_last p phase m k (n + k) ((outs_and_later p phase [] g.all).0) g.fit.0.turns (omega arith)
        (choice_at T A (answers_of S T inputs) n u p k phase g.plain (omega arith) g.chosen) (at_turn p phase [] m n g k (omega arith)) in
        let e : suc (n + k) ≡ n + (times_of phase.turns + 0) = omega arith in
        let f : n + k ≡ n + (times_of phase.turns + 0 - 1) = omega arith in
        subst (λ (j : ℕ). First T inputs s j (Ends (answers_of S T inputs) words (n + (times_of phase.turns + 0 - 1)))) e
        (subst (λ (j : ℕ). First T inputs s (suc (n + k)) (Ends (answers_of S T inputs) words j)) f first)
    to_end p phase (next ∷ phases) m n g =
        let behind = phase_words T (steps_of u) A i p phase m (answer_at (answers_of S T inputs) (n + (times_of phase.turns - 1))) in
        let words = end_words T (steps_of u) A i (answers_of S T inputs) (suc p) (next ∷ phases) behind (n + times_of phase.turns) in
        let some : 1 ≤ times_of next.turns = some_turns S T (steps_of u) (suc p) next.turns g.fit.1.0.turns in
        let e : n + times_of phase.turns + (times_of next.turns + cycles_of phases) ≡ n + (times_of phase.turns + (times_of next.turns + cycles_of phases)) = omega arith in
        let f : n + times_of phase.turns + (times_of next.turns + cycles_of phases - 1) ≡ n + (times_of phase.turns + (times_of next.turns + cycles_of phases) - 1) = omega arith in
        subst (λ (j : ℕ). First T inputs s j (Ends (answers_of S T inputs) words (n + (times_of phase.turns + (times_of next.turns + cycles_of phases) - 1)))) e
        (subst (λ (j : ℕ). First T inputs s (n + times_of phase.turns + (times_of next.turns + cycles_of phases)) (Ends (answers_of S T inputs) words j)) f
        (to_end (suc p) next phases behind (n + times_of phase.turns) (to_next p phase next phases m n g)))

    -- the access of an unstalled cycle in a phase
    seen_out : (p : ℕ) (phase : PhaseTree) (phases : List PhaseTree) (m : Words) (k : ℕ) → AllByRecursion (HoldsAlways S T) (edge_obligations T u p phase (way_out phases)) → TurnsFit S T (steps_of u) p phase.turns → suc k ≡ times_of phase.turns →
        (c : ℕ) → c < length inputs → is_unstalled T (input_at inputs c) ≡ true → ChoosesOn T A (answer_of S T (input_at inputs c)) u p finish → Within S T u A i (stage p phase m k) (s c) →
        Sees T (v c) (phase_row T (steps_of u) A i phase.turns phase.access (turn_words T (steps_of u) A i p phase.turns m k))
    seen_out p phase [] m k all fit last c inside free chosen w = (cycle_on p phase m k finish all fit (omega arith) c inside free chosen (count_finish phase.turns k) w).access
    seen_out p phase (next ∷ phases) m k all fit last c inside free chosen w =
        (cycle_on p phase m k (on next) all fit (omega arith) c inside free (same_choice T A (answer_of S T (input_at inputs c)) u p next chosen) (count_on phase.turns next k last) w).access

    seen_turn : (p : ℕ) (phase : PhaseTree) (m : Words) (k : ℕ) → AllByRecursion (HoldsAlways S T) (turn_edges T u p phase) → TurnsFit S T (steps_of u) p phase.turns → suc k < times_of phase.turns →
        (c : ℕ) → c < length inputs → is_unstalled T (input_at inputs c) ≡ true → Within S T u A i (stage p phase m k) (s c) →
        Sees T (v c) (phase_row T (steps_of u) A i phase.turns phase.access (turn_words T (steps_of u) A i p phase.turns m k))
    seen_turn p phase m k all fit below c inside free w =
        (cycle_on p phase m k turn (several_turns p phase all below) fit (omega arith) c inside free ((free_choice T A (answer_of S T (input_at inputs c)) u p).1) (count_turn phase.turns k below) w).access

    seen_here : (p : ℕ) (phase : PhaseTree) (phases : List PhaseTree) (m : Words) (n : ℕ) → Begins p phase phases m n → (k : ℕ) → k < times_of phase.turns →
        (c : ℕ) → c < length inputs → is_unstalled T (input_at inputs c) ≡ true → unstalled T (take c inputs) ≡ n + k → Sees T (v c) (phase_row T (steps_of u) A i phase.turns phase.access m)
    seen_here p phase phases m n g k below c inside free count =
        let w = at_turn p phase phases m n g k below c (omega arith) count in
        let chosen = subst (λ (x : Answer). ChoosesOn T A x u p finish) (sym (answer_here (n + k) c inside count free)) (choice_at T A (answers_of S T inputs) n u p k phase g.plain below g.chosen) in
        subst (λ (a : Access). Sees T (v c) a) (row_stays T u A i p phase.turns phase.access m k)
        (elim (cases_lt (suc k) (times_of phase.turns)) [
          | inl more ↦ seen_turn p phase m k (turns_of p phase phases g.all) g.fit.0.turns more c inside free w
          | inr no_more ↦ seen_out p phase phases m k ((outs_and_later p phase phases g.all).0) g.fit.0.turns (omega arith) c inside free chosen w
        ])

    -- the row of each unstalled cycle of an instruction
    seen_front : (p : ℕ) (phase : PhaseTree) (phases : List PhaseTree) (m : Words) (n : ℕ) → Begins p phase phases m n → (k : ℕ) → k < times_of phase.turns → (others : List Access) →
        (c : ℕ) → c < length inputs → is_unstalled T (input_at inputs c) ≡ true → unstalled T (take c inputs) ≡ n + k →
        Sees T (v c) (row_at (replicate (times_of phase.turns) (phase_row T (steps_of u) A i phase.turns phase.access m) ++ others) k)
    seen_front p phase phases m n g k below others c inside free count =
        subst (λ (a : Access). Sees T (v c) a) (sym (row_front (times_of phase.turns) k (phase_row T (steps_of u) A i phase.turns phase.access m) others below))
        (seen_here p phase phases m n g k below c inside free count)

    pub seen : (p : ℕ) (phase : PhaseTree) (phases : List PhaseTree) (m : Words) (n : ℕ) → Begins p phase phases m n → (k : ℕ) → k < cycles_of (phase ∷ phases) →
        (c : ℕ) → c < length inputs → is_unstalled T (input_at inputs c) ≡ true → unstalled T (take c inputs) ≡ n + k →
        Sees T (v c) (row_at (rows T (steps_of u) A i (answers_of S T inputs) p (phase ∷ phases) m n) k)
    seen p phase [] m n g k below c inside free count = seen_front p phase [] m n g k (omega arith) [] c inside free count
    seen p phase (next ∷ phases) m n g k below c inside free count =
        let behind = phase_words T (steps_of u) A i p phase m (answer_at (answers_of S T inputs) (n + (times_of phase.turns - 1))) in
        let others = rows T (steps_of u) A i (answers_of S T inputs) (suc p) (next ∷ phases) behind (n + times_of phase.turns) in
        elim (cases_lt k (times_of phase.turns)) [
          | inl here ↦ seen_front p phase (next ∷ phases) m n g k here others c inside free count
          | inr past ↦
              let left = k - times_of phase.turns in
              let e : times_of phase.turns + left ≡ k = omega arith in
              let r = phase_row T (steps_of u) A i phase.turns phase.access m in
              subst (λ (j : ℕ). Sees T (v c) (row_at (replicate (times_of phase.turns) r ++ others) j)) e
              (subst (λ (a : Access). Sees T (v c) a) (sym (row_behind (times_of phase.turns) left r others))
              (seen (suc p) next phases behind (n + times_of phase.turns) (to_next p phase next phases m n g) left (omega arith) c inside free (omega arith)))
        ]

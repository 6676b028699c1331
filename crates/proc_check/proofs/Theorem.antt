-- Where all obligations hold, resets and runs are the table's.
use Rattle.std.proofs.Common.{◌≡◌, ◌≤◌, ◌<◌, ◌+◌, ◌-◌, ℕ, zero, suc, true, List, [], ◌∷◌, ◌++◌, length, take, map, refl, sym, ap, ◌∙◌, subst, arith, inl, inr, Option, Some, None}
use Rattle.std.specs.Prelude.{flat_map}
use Rattle.std.specs.List.{AllByRecursion}
use Rattle.lola_bits.specs.declared.vector.Bits.{Bits}
use Rattle.lola_bits.proofs.All.{of_all, all_front, all_back, all_mapped, all_flat, all_weaker}
use Rattle.lola_tree.specs.Tree.{Tree, SourceTree}
use Rattle.lola_tree.specs.Value.{Values}
use Rattle.lola_tree.specs.Cycle.{input_at}
use Rattle.lola_tree.specs.design.Cycle.{IsState}
use Rattle.tab_tree.specs.declared.table.BusRoles.{BusRoles}
use Rattle.tab_tree.specs.declared.value.StateValue.{StateValue}
use Rattle.tab_tree.specs.declared.value.Access.{Access}
use Rattle.tab_tree.specs.Table.{StateTree, SetTree, PhaseTree, InsideTree, ClassTree, TableTree}
use Rattle.tab_tree.specs.Names.{shape_form}
use Rattle.tab_tree.specs.Step.{Arch, answer_at, no_words, class_names, set_states, entered, times_of, cycles_of, end_words, rows, row_at, Subject, of_class, steps_of, Chooses, Lets, Boundary, begin, after, Row, row}
use Rattle.tab_tree.specs.Headline.{shown, shown_word, word_shown, is_unstalled, unstalled, answer_of, answers_of, role_value, Lasts, Sees, SeesBy, Shows, Starts, Commutes, IsResetCycle, IsStartAccess, Resets}
use Rattle.tab_tree.specs.Placed.{word_width, phase_at}
use Rattle.tab_tree.specs.Suits.{IsOf, HasForm, SuitsArch}
use Rattle.tab_tree.specs.Fits.{IsFirst, StartsPlain}
use Rattle.obl_def.specs.Obligations.{Goal, start, reset, code_goals, start_access_goals, reset_goals, phases_obligations, subject_obligations, inside_obligations, class_obligations}
use Rattle.obl_def.specs.Valuation.{Valuation}
use Rattle.obl_def.specs.Holds.{ResetGoal, HoldsAlways, AllHold}
use Rattle.proc_check.proofs.Basis.{TurnsFit, PhasesFit, StepsFit, Basis}
use Rattle.proc_check.proofs.Rows.{rows_full}
use Rattle.proc_check.proofs.Moments.{At, First, count_next}
use Rattle.proc_check.proofs.Edge.{Within, code_of}
use Rattle.proc_check.proofs.Words.{none_fits, entered_fits}
use Rattle.proc_check.proofs.Phases.{states_are, stage_lasts, Begins, to_end, seen, stalls_of}

module _ (S : SourceTree) (T : TableTree) (ok : Basis S T) (all : AllHold S T) where
  of_reset : AllByRecursion (λ (goal : Goal). HoldsAlways S T (reset goal)) (reset_goals T)
  of_reset = all_mapped (HoldsAlways S T) reset (reset_goals T) (all_front (HoldsAlways S T) (map reset (reset_goals T)) (flat_map (class_obligations T) T.classes) all.each.1)

  of_subject : (u : Subject) (i : Bits) → Lets T i u → AllByRecursion (HoldsAlways S T) (subject_obligations T u)
  of_subject (of_class c b) i lets =
      subst (λ o. AllByRecursion (HoldsAlways S T) (inside_obligations T c o)) lets.inside
      (all_flat (HoldsAlways S T) (class_obligations T) c T.classes
      (all_back (HoldsAlways S T) (map reset (reset_goals T)) (flat_map (class_obligations T) T.classes) all.each.1) lets.class.listed)

  subject_fits : (u : Subject) (i : Bits) → Lets T i u → StepsFit S T (steps_of u)
  subject_fits (of_class c b) i lets = of_all (λ (c : ClassTree). (b : InsideTree) → c.inside ≡ Some b → StepsFit S T b) c T.classes ok.classes lets.class.listed b lets.inside

  -- states at a boundary suit
  suits_at : (s : Values) (A : Arch) → IsState S s → shown S T s ≡ A → SuitsArch T A
  suits_at s A state is = subst (SuitsArch T) is (ok.states s state)

  -- without SHOWS rows states are as they were
  no_shows : (u : Subject) (A : Arch) (names : _) (shows : List SetTree) → shows ≡ [] → SuitsArch T A → set_states T A shows names ≡ A
  no_shows u A names shows none old = ap (λ (rows : List SetTree). set_states T A rows names) none ∙ rows_full (λ (row : StateTree) (a : StateValue). HasForm (shape_form row.shape) a) T.states A old

  -- a boundary is where phase 0 begins
  enters : (u : Subject) (A : Arch) (i : Bits) (phase : PhaseTree) (s : Values) → IsState S s → IsFirst phase → phase_at (steps_of u).phases 0 ≡ Some phase → TurnsFit S T (steps_of u) 0 phase.turns →
      Shows S T s A i → Within S T u A i (record { number = 0; phase = phase; words = entered T (steps_of u) A i 0 phase.turns no_words; count = 0 }) s
  enters u A i phase s state first here fit shows =
      let old = suits_at s A state shows.states in
      record {
        invariant = shows.invariant;
        entry = shows.boundary;
        states = shows.states ∙ sym (no_shows u A _ phase.shows first.shows old);
        code = shows.code;
        old = old;
        words = entered_fits S T (steps_of u) 0 phase here A i no_words fit old (subst (IsOf (word_width S T)) shows.code (ok.word s state)) (none_fits S T (steps_of u));
      }

  leaves : (u : Subject) (A : Arch) (i : Bits) (phase : PhaseTree) (s : Values) → IsFirst phase →
      Within S T u A i (record { number = 0; phase = phase; words = entered T (steps_of u) A i 0 phase.turns no_words; count = 0 }) s → Shows S T s A i
  leaves u A i phase s first w = record {
    invariant = w.invariant;
    boundary = w.entry;
    states = w.states ∙ no_shows u A _ phase.shows first.shows w.old;
    code = w.code;
  }

  -- the phases of an instruction, numbered from 0
  abbrev FromFirst : Subject → List PhaseTree → Type 0
  FromFirst u phases = (j : ℕ) → phase_at (steps_of u).phases (0 + j) ≡ phase_at phases j

  from_first : (u : Subject) → FromFirst u (steps_of u).phases
  from_first u j = let same : 0 + j ≡ j = omega arith in ap (phase_at (steps_of u).phases) same

  -- a run from a boundary
  module _ (inputs : List Values) (s v : ℕ → Values) (A0 : Arch) (i0 : Bits) (starts : Starts S T inputs s v A0 i0) where
    -- a boundary of an inside word lasts through stalled cycles
    rests_by : (u : Subject) (A : Arch) (i : Bits) (n : ℕ) (lets : Lets T i u) (phases : List PhaseTree) → StartsPlain phases → PhasesFit S T (steps_of u) 0 phases → FromFirst u phases →
        AllByRecursion (HoldsAlways S T) (phases_obligations T u 0 phases) →
        First T inputs s n (λ s'. Shows S T s' A i) → At T inputs s n (λ s'. Shows S T s' A i)
    rests_by u A i n lets [] plain fit from edges first = absurd plain
    rests_by u A i n lets (phase ∷ phases) plain fit from edges first =
        let one : 0 < times_of phase.turns = rw plain.turns (omega arith) in
        let at = stage_lasts S T ok inputs s v A0 i0 starts u A i lets 0 phase no_words 0 n (stalls_of S T ok inputs s v A0 i0 starts u A i lets 0 phase phases edges) fit.0.turns one
        (λ k within count how. enters u A i phase (s k) (states_are S T ok inputs s v A0 i0 starts k within) plain (from 0) fit.0.turns (first k within count how)) in
        λ k within count. leaves u A i phase (s k) plain (at k within count)

    rests : (u : Subject) (A : Arch) (i : Bits) (n : ℕ) → Lets T i u → First T inputs s n (λ s'. Shows S T s' A i) → At T inputs s n (λ s'. Shows S T s' A i)
    rests u A i n lets =
        let fit = subject_fits u i lets in
        rests_by u A i n lets (steps_of u).phases fit.plain fit.phases (from_first u) (of_subject u i lets)

    -- an instruction begins
    begins : (u : Subject) (A : Arch) (i : Bits) (n : ℕ) (lets : Lets T i u) (phase : PhaseTree) (phases : List PhaseTree) → IsFirst phase → PhasesFit S T (steps_of u) 0 (phase ∷ phases) →
        FromFirst u (phase ∷ phases) → AllByRecursion (HoldsAlways S T) (phases_obligations T u 0 (phase ∷ phases)) →
        Chooses T A (answer_at (answers_of S T inputs) n) u → At T inputs s n (λ s'. Shows S T s' A i) → Begins S T ok inputs s v A0 i0 starts u A i lets 0 phase phases no_words n
    begins u A i n lets phase phases plain fit from edges chosen at = record {
      plain = plain.turns;
      all = edges;
      fit = fit;
      from = from;
      chosen = chosen;
      at = λ k within count. enters u A i phase (s k) (states_are S T ok inputs s v A0 i0 starts k within) plain (from 0) fit.0.turns (at k within count);
    }

    ends_by : (u : Subject) (A : Arch) (i : Bits) (n : ℕ) → Lets T i u → (phases : List PhaseTree) → StartsPlain phases → PhasesFit S T (steps_of u) 0 phases →
        FromFirst u phases → AllByRecursion (HoldsAlways S T) (phases_obligations T u 0 phases) →
        Chooses T A (answer_at (answers_of S T inputs) n) u → At T inputs s n (λ s'. Shows S T s' A i) →
        First T inputs s (n + cycles_of phases)
        (λ s'. Shows S T s' (set_states T A (steps_of u).sets (class_names T (steps_of u) A i (end_words T (steps_of u) A i (answers_of S T inputs) 0 phases no_words n) None))
        (answer_at (answers_of S T inputs) (n + (cycles_of phases - 1))).code)
    ends_by u A i n lets [] plain fit from edges chosen at = absurd plain
    ends_by u A i n lets (phase ∷ phases) plain fit from edges chosen at =
        to_end S T ok inputs s v A0 i0 starts u A i lets 0 phase phases no_words n (begins u A i n lets phase phases plain fit from edges chosen at)

    sees_by : (u : Subject) (A : Arch) (i : Bits) (n : ℕ) → Lets T i u → (phases : List PhaseTree) → StartsPlain phases → PhasesFit S T (steps_of u) 0 phases →
        FromFirst u phases → AllByRecursion (HoldsAlways S T) (phases_obligations T u 0 phases) →
        Chooses T A (answer_at (answers_of S T inputs) n) u → At T inputs s n (λ s'. Shows S T s' A i) → (k : ℕ) → k < cycles_of phases →
        (c : ℕ) → c < length inputs → is_unstalled T (input_at inputs c) ≡ true → unstalled T (take c inputs) ≡ n + k →
        Sees T (v c) (row_at (rows T (steps_of u) A i (answers_of S T inputs) 0 phases no_words n) k)
    sees_by u A i n lets [] plain fit from edges chosen at = absurd plain
    sees_by u A i n lets (phase ∷ phases) plain fit from edges chosen at =
        seen S T ok inputs s v A0 i0 starts u A i lets 0 phase phases no_words n (begins u A i n lets phase phases plain fit from edges chosen at)

    -- the first moment of each boundary
    at_start : (B : Arch) (j : Bits) (b : ℕ) → B ≡ A0 → j ≡ i0 → b ≡ 0 → First T inputs s b (λ s'. Shows S T s' B j)
    at_start B j b eB ej eb zero within count how = subst (λ (w : Bits). Shows S T (s 0) B w) (sym ej) (subst (λ (C : Arch). Shows S T (s 0) C i0) (sym eB) starts.shows)
    at_start B j b eB ej eb (suc c) within count (inl none) = absurd (omega arith)
    at_start B j b eB ej eb (suc c) within count (inr free) =
        let same : suc c - 1 ≡ c = omega arith in
        let next = count_next T inputs c (omega arith) (subst (λ (k : ℕ). is_unstalled T (input_at inputs k) ≡ true) same free) in
        absurd (omega arith)

    at_first : {B : Arch} {j : Bits} {b : ℕ} → Boundary T (answers_of S T inputs) A0 i0 B j b → First T inputs s b (λ s'. Shows S T s' B j)
    at_first {B = B} {j = j} {b = b} (begin eB ej eb) = at_start B j b eB ej eb
    at_first {B = B} {j = j} {b = b} (after before word at u earlier takes room eB ej eb) =
        let fit = subject_fits u word takes.lets in
        let first = ends_by u before word at takes.lets (steps_of u).phases fit.plain fit.phases (from_first u) (of_subject u word takes.lets) takes.chooses
        (rests u before word at takes.lets (at_first earlier)) in
        subst (λ (n : ℕ). First T inputs s n (λ s'. Shows S T s' B j)) (sym eb)
        (subst (λ (w : Bits). First T inputs s (at + cycles_of (steps_of u).phases) (λ s'. Shows S T s' B w)) (sym ej)
        (subst (λ (C : Arch). First T inputs s (at + cycles_of (steps_of u).phases) (λ s'. Shows S T s' C (answer_at (answers_of S T inputs) (at + (cycles_of (steps_of u).phases - 1))).code)) (sym eB) first))

    boundary_shows : (B : Arch) (j : Bits) (b c : ℕ) → Boundary T (answers_of S T inputs) A0 i0 B j b → c ≤ length inputs → unstalled T (take c inputs) ≡ b → Lasts T inputs j c → Shows S T (s c) B j
    boundary_shows B j b c bound within count (inl inside) = rests (of_class inside.0 inside.1.0) B j b inside.1.1 (at_first bound) c within count
    boundary_shows B j b c bound within count (inr how) = at_first bound c within count how

    access_seen : (c : ℕ) (n : ℕ) (access : Access) → c < length inputs → is_unstalled T (input_at inputs c) ≡ true → unstalled T (take c inputs) ≡ n → Row T (answers_of S T inputs) A0 i0 n access → Sees T (v c) access
    access_seen c n access inside free count (row B j b turn u bound takes below en short ea) =
        let fit = subject_fits u j takes.lets in
        subst (λ (a : Access). Sees T (v c) a) (sym ea)
        (sees_by u B j b takes.lets (steps_of u).phases fit.plain fit.phases (from_first u) (of_subject u j takes.lets) takes.chooses
        (rests u B j b takes.lets (at_first bound)) turn below c inside free (count ∙ en))

  commutes : Commutes S T
  commutes = record {
    boundaries = λ inputs s v A i starts B j b c bound within count lasts. boundary_shows inputs s v A i starts B j b c bound within count lasts;
    accesses = λ inputs s v A i starts c access inside free is. access_seen inputs s v A i starts c (unstalled T (take c inputs)) access inside free refl is;
  }

  -- reset cycles
  at_reset : (s inp v s' : Values) → IsResetCycle S T s inp v s' → AllByRecursion (λ goal. ResetGoal S T (answer_of S T inp) v s' goal) (reset_goals T)
  at_reset s inp v s' r =
      let w : Valuation = record { word = shown_word S T s; state = s; input = inp; old = []; words = no_words; count = 0 } in
      all_weaker (λ goal. HoldsAlways S T (reset goal)) (λ goal. ResetGoal S T (answer_of S T inp) v s' goal)
      (λ goal holds'. holds' w (record { state = r.state; given = r.given; active = r.active; unstalled = r.unstalled }) v s' r.cycle r.next) (reset_goals T) of_reset

  start_access : (s inp v s' : Values) → (bus : Option BusRoles) → T.roles.bus ≡ bus → (o : Option Tree) → T.roles.code ≡ o →
      AllByRecursion (λ goal. ResetGoal S T (answer_of S T inp) v s' goal) (start_access_goals bus o) → (a : Access) → IsStartAccess T a → Sees T v a
  start_access s inp v s' None is o is' all a its = subst (λ b. SeesBy b v a) (sym is) tt
  start_access s inp v s' (Some bus) is None is' all a its = absurd (its.code is')
  start_access s inp v s' (Some bus) is (Some e) is' all a its = all.0 a its

  resets : Resets S T
  resets = record {
    leaves = λ s inp v s' r.
        let goals = at_reset s inp v s' r in
        let P = λ (goal : Goal). ResetGoal S T (answer_of S T inp) v s' goal in
        let behind = all_back P (code_goals T.roles.code) (map start T.starts ++ start_access_goals T.roles.bus T.roles.code) goals.1.1 in (
          record {
            invariant = goals.0;
            boundary = goals.1.0;
            states = refl;
            code = code_of P (shown_word S T s' ≡ (answer_of S T inp).code) T.roles.code
                (λ none. ap (λ o. word_shown S o s') none ∙ sym (ap (λ o. role_value S o inp) (ok.code none))) (λ same. same)
                (all_front P (code_goals T.roles.code) (map start T.starts ++ start_access_goals T.roles.bus T.roles.code) goals.1.1);
          },
          all_mapped P start T.starts (all_front P (map start T.starts) (start_access_goals T.roles.bus T.roles.code) behind),
        );
    accesses = λ s inp v s' r a its.
        let goals = at_reset s inp v s' r in
        let P = λ (goal : Goal). ResetGoal S T (answer_of S T inp) v s' goal in
        let behind = all_back P (code_goals T.roles.code) (map start T.starts ++ start_access_goals T.roles.bus T.roles.code) goals.1.1 in
        start_access s inp v s' T.roles.bus refl T.roles.code refl (all_back P (map start T.starts) (start_access_goals T.roles.bus T.roles.code) behind) a its;
  }

pub holds : (S : SourceTree) (T : TableTree) → Basis S T → AllHold S T → Resets S T × Commutes S T
holds S T ok all = (resets S T ok all, commutes S T ok all)

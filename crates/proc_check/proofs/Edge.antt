-- One cycle of an instruction: what an edge's obligations give.
use Rattle.std.proofs.Common.{◌≡◌, ◌<◌, ℕ, suc, true, false, List, [], ◌∷◌, ◌++◌, refl, sym, ap, ◌∙◌, subst, inl, inr, Option, Some, None}
use Rattle.std.specs.Prelude.{if◌then◌else◌, bytes_eq}
use Rattle.std.specs.List.{AllByRecursion}
use Rattle.std.proofs.lemmas.Bool.{cases_Bool}
use Rattle.lola_bits.specs.declared.vector.Bits.{Bits}
use Rattle.lola_bits.proofs.All.{all_front, all_back, all_mapped, all_weaker}
use Rattle.lola_tree.specs.Tree.{Tree, SourceTree}
use Rattle.lola_tree.specs.Value.{Values}
use Rattle.lola_tree.specs.design.Cycle.{IsState, IsGiven, Cycle, Next}
use Rattle.tab_tree.specs.declared.table.BusRoles.{BusRoles}
use Rattle.tab_tree.specs.declared.value.StateValue.{StateValue}
use Rattle.tab_tree.specs.declared.value.Answer.{Answer}
use Rattle.tab_tree.specs.Table.{StateTree, SetTree, PhaseTree, InsideTree, TableTree}
use Rattle.tab_tree.specs.Names.{Names, shape_form}
use Rattle.tab_tree.specs.Step.{Arch, nth_value, Words, set_value, set_states, phase_row, Subject, of_class, steps_of, Lets}
use Rattle.tab_tree.specs.Headline.{shown, shown_word, word_shown, row_shown, IsOne, IsIdle, answer_of, role_value, Sees, SeesBy}
use Rattle.tab_tree.specs.Suits.{HasForm, SuitsArch}
use Rattle.obl_def.specs.Obligations.{Edge, stall, turn, on, finish, Goal, code, state, access, edge, state_goals, code_goals, access_goals, edge_goals, edge_obligations}
use Rattle.obl_def.specs.Valuation.{Valuation, SuitsWords, StallAt, SuitsEdge}
use Rattle.obl_def.specs.Holds.{Stage, EachRow, has_row, old_states, stage_names, Entry, CountAt, ChoosesOn, FitsWord, Premises, target, EntryAt, code_at, sets_at, names_at, GoalAt, EdgeHolds, HoldsAlways}
use Rattle.proc_check.proofs.Basis.{Basis}
use Rattle.proc_check.proofs.Rows.{each_weaker, rows_same, rows_apart, rows_full}

-- an instruction of u that began with the states A and the word i stands at a stage
pub record Within (S : SourceTree) (T : TableTree) (u : Subject) (A : Arch) (i : Bits) (g : Stage) (s : Values) : Type 0 where
  pub invariant : IsOne S T.invariant s
  pub entry : Entry S T (steps_of u) A i g s
  pub states : shown S T s ≡ set_states T A g.phase.shows (stage_names T (steps_of u) A i g)
  pub code : shown_word S T s ≡ i
  pub old : SuitsArch T A
  pub words : SuitsWords S T (steps_of u) g.number (suc g.number) g.words

-- what an edge makes of a cycle
abbrev pub AccessOn : TableTree → InsideTree → Arch → Bits → Stage → Edge → Values → Type 0
AccessOn T b A i g stall v = Unit {0}
AccessOn T b A i g turn v = Sees T v (phase_row T b A i g.phase.turns g.phase.access g.words)
AccessOn T b A i g (on next) v = Sees T v (phase_row T b A i g.phase.turns g.phase.access g.words)
AccessOn T b A i g finish v = Sees T v (phase_row T b A i g.phase.turns g.phase.access g.words)

pub record Reached (S : SourceTree) (T : TableTree) (b : InsideTree) (A : Arch) (i : Bits) (g : Stage) (answer : Answer) (e : Edge) (v s' : Values) : Type 0 where
  pub invariant : IsOne S T.invariant s'
  pub entry : EntryAt S T b A i (target T b A i g answer e) s'
  pub states : shown S T s' ≡ set_states T A (sets_at b (target T b A i g answer e)) (names_at T b A i (target T b A i g answer e))
  pub code : shown_word S T s' ≡ code_at i answer (target T b A i g answer e)
  pub access : AccessOn T b A i g e v

-- a state without a row keeps its value
no_row : (rows : List SetTree) (row : StateTree) (old : StateValue) (names : Names StateValue) → has_row rows row.name ≡ false → set_value rows row old names ≡ old
no_row [] row old names none = refl
no_row (set ∷ sets) row old names none = elim (cases_Bool (bytes_eq set.name row.name)) [
  | inl p ↦ let none' : true ≡ false = rw p at none in absurd (cc)
  | inr p ↦ let none' : has_row sets row.name ≡ false = rw p at none in rw p (no_row sets row old names none')
]

old_row : (rows : List SetTree) (row : StateTree) (now old : StateValue) (names : Names StateValue) → now ≡ set_value rows row old names → (if has_row rows row.name then old else now) ≡ old
old_row rows row now old names e = elim (cases_Bool (has_row rows row.name)) [
  | inl p ↦ rw p refl
  | inr p ↦ rw p (e ∙ no_row rows row old names p)
]

-- the old values of an obligation are those with which the instruction began
old_is : (S : SourceTree) (T : TableTree) (u : Subject) (A : Arch) (i : Bits) (g : Stage) (s : Values) → Within S T u A i g s → old_states S T g.phase s A ≡ A
old_is S T u A i g s w =
    let names = stage_names T (steps_of u) A i g in
    let apart = rows_apart (λ n row. row_shown S row s) (λ n row. set_value g.phase.shows row (nth_value A n) names) 0 T.states w.states in
    rows_same (λ n row. if has_row g.phase.shows row.name then nth_value A n else row_shown S row s) (λ n row. nth_value A n) 0 T.states
    (each_weaker (λ n row. row_shown S row s ≡ set_value g.phase.shows row (nth_value A n) names)
    (λ n row. (if has_row g.phase.shows row.name then nth_value A n else row_shown S row s) ≡ nth_value A n)
    (λ n row e. old_row g.phase.shows row (row_shown S row s) (nth_value A n) names e) 0 T.states apart)
    ∙ rows_full (λ (row : StateTree) (a : StateValue). HasForm (shape_form row.shape) a) T.states A w.old

-- the parts of the goals
states_of : (P : Goal → Type 0) (n : ℕ) (rows : List StateTree) → AllByRecursion P (state_goals n rows) → EachRow (λ n row. P (state n row)) n rows
states_of P n [] all = tt
states_of P n (row ∷ rows) all = (all.0, states_of P (suc n) rows all.1)

access_of : (T : TableTree) (b : InsideTree) (A : Arch) (i : Bits) (g : Stage) (v : Values) (P : Goal → Type 0) → (P access → Sees T v (phase_row T b A i g.phase.turns g.phase.access g.words)) →
    (bus : Option BusRoles) → T.roles.bus ≡ bus → (e : Edge) → AllByRecursion P (access_goals bus e) → AccessOn T b A i g e v
access_of T b A i g v P sees bus is stall all = tt
access_of T b A i g v P sees None is turn all = subst (λ o. SeesBy o v (phase_row T b A i g.phase.turns g.phase.access g.words)) (sym is) tt
access_of T b A i g v P sees (Some bus) is turn all = sees all.0
access_of T b A i g v P sees None is (on next) all = subst (λ o. SeesBy o v (phase_row T b A i g.phase.turns g.phase.access g.words)) (sym is) tt
access_of T b A i g v P sees (Some bus) is (on next) all = sees all.0
access_of T b A i g v P sees None is finish all = subst (λ o. SeesBy o v (phase_row T b A i g.phase.turns g.phase.access g.words)) (sym is) tt
access_of T b A i g v P sees (Some bus) is finish all = sees all.0

-- without CODE all words are 0
no_code : (S : SourceTree) (T : TableTree) (b : InsideTree) (A : Arch) (i : Bits) (g : Stage) (inp s s' : Values) → T.roles.code ≡ None → T.roles.fetched ≡ None →
    shown_word S T s ≡ i → (e : Edge) → shown_word S T s' ≡ code_at i (answer_of S T inp) (target T b A i g (answer_of S T inp) e)
no_code S T b A i g inp s s' none unfetched is stall = ap (λ o. word_shown S o s') none ∙ sym (sym is ∙ ap (λ o. word_shown S o s) none)
no_code S T b A i g inp s s' none unfetched is turn = ap (λ o. word_shown S o s') none ∙ sym (sym is ∙ ap (λ o. word_shown S o s) none)
no_code S T b A i g inp s s' none unfetched is (on next) = ap (λ o. word_shown S o s') none ∙ sym (sym is ∙ ap (λ o. word_shown S o s) none)
no_code S T b A i g inp s s' none unfetched is finish = ap (λ o. word_shown S o s') none ∙ sym (ap (λ o. role_value S o inp) unfetched)

pub code_of : (P : Goal → Type 0) (C : Type 0) (o : Option Tree) → (o ≡ None → C) → (P code → C) → AllByRecursion P (code_goals o) → C
code_of P C None without with' all = without refl
code_of P C (Some e) without with' all = with' all.0

fit_of : (T : TableTree) (i : Bits) (u : Subject) → Lets T i u → FitsWord i u
fit_of T i (of_class c b) lets = lets.class.fit

module _ (S : SourceTree) (T : TableTree) (ok : Basis S T) (u : Subject) (p : ℕ) (phase : PhaseTree) (e : Edge) (all : AllByRecursion (HoldsAlways S T) (edge_obligations T u p phase e)) where
  -- a cycle along an edge whose obligations hold
  pub reached : (A : Arch) (i : Bits) (k : ℕ) (m : Words) (s inp v s' : Values) → IsState S s → IsGiven S inp → IsIdle T inp → StallAt T e inp → Cycle S s inp v → Next S v s' →
      Within S T u A i (record { number = p; phase = phase; words = m; count = k }) s → Lets T i u → ChoosesOn T A (answer_of S T inp) u p e → CountAt e phase.turns k → k < 256 →
      Reached S T (steps_of u) A i (record { number = p; phase = phase; words = m; count = k }) (answer_of S T inp) e v s'
  reached A i k m s inp v s' is given at_rest stalls cycle next w lets chosen count small =
      let g : Stage = record { number = p; phase = phase; words = m; count = k } in
      let b = steps_of u in
      let x = target T b A i g (answer_of S T inp) e in
      let names = stage_names T b A i g in
      let apart = rows_apart (λ n row. row_shown S row s) (λ n row. set_value phase.shows row (nth_value A n) names) 0 T.states w.states in
      let premises : Premises S T u A i g e s inp = record {
        invariant = w.invariant;
        entry = w.entry;
        shows = each_weaker (λ n row. row_shown S row s ≡ set_value phase.shows row (nth_value A n) names)
            (λ n row. has_row phase.shows row.name ≡ true → row_shown S row s ≡ set_value phase.shows row (nth_value A n) names)
            (λ n row same has. same) 0 T.states apart;
        fit = fit_of T i u lets;
        chosen = chosen;
        count = count;
      } in
      let valuation : Valuation = record { word = i; state = s; input = inp; old = A; words = m; count = k } in
      let suits : SuitsEdge S T b p e valuation = record { state = is; given = given; idle = at_rest; stalls = stalls; old = w.old; words = w.words; count = small } in
      let at_goal = λ (goal : Goal) (holds : HoldsAlways S T (edge u p phase e goal)).
      subst (λ (j : Bits). EdgeHolds S T u g e goal A j s inp) w.code
      (subst (λ (B : Arch). EdgeHolds S T u g e goal B (shown_word S T s) s inp) (old_is S T u A i g s w) (holds valuation suits)) v s' cycle next premises in
      let P = λ (goal : Goal). GoalAt S T b A i g (answer_of S T inp) x v s' goal in
      let each = all_weaker (λ goal. HoldsAlways S T (edge u p phase e goal)) P at_goal (edge_goals T e)
      (all_mapped (HoldsAlways S T) (edge u p phase e) (edge_goals T e) all) in
      let behind = all_back P (code_goals T.roles.code) (state_goals 0 T.states ++ access_goals T.roles.bus e) each.1.1 in
      record {
        invariant = each.0;
        entry = each.1.0;
        states = rows_same (λ n row. row_shown S row s') (λ n row. set_value (sets_at b x) row (nth_value A n) (names_at T b A i x)) 0 T.states
            (states_of P 0 T.states (all_front P (state_goals 0 T.states) (access_goals T.roles.bus e) behind));
        code = code_of P (shown_word S T s' ≡ code_at i (answer_of S T inp) x) T.roles.code
            (λ none. no_code S T b A i g inp s s' none (ok.code none) w.code e) (λ same. same)
            (all_front P (code_goals T.roles.code) (state_goals 0 T.states ++ access_goals T.roles.bus e) each.1.1);
        access = access_of T b A i g v P (λ sees. sees) T.roles.bus refl e (all_back P (state_goals 0 T.states) (access_goals T.roles.bus e) behind);
      }

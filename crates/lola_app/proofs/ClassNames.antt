-- What the names of a class mean over the leaves of a design.
use Rattle.std.proofs.Common.{◌≡◌, ◌≢◌, ℕ, Bool, true, false, List, [], ◌∷◌, ◌++◌, map, Some, None, refl, sym, ap, subst, ◌∙◌, inl, inr}
use Rattle.std.specs.Prelude.{bytes_eq, string_bytes, if◌then◌else◌, Option, codes}
use Rattle.std.proofs.lemmas.Bool.{cases_Bool}
use Rattle.lola_bits.specs.Lists.{IsIn, AreEach, IsAt}
use Rattle.lola_bits.proofs.Names.{same_name, is_same_name, other_name, same_or_not}
use Rattle.lola_bits.proofs.Lists.{in_front, in_back, in_either}
use Rattle.lola_bits.proofs.Options.{nothing}
use Rattle.lola_tree.specs.Value.{Path, Values}
use Rattle.lola_elab.specs.declared.scope.Reading.{Reading}
use Rattle.lola_elab.specs.declared.scope.Reading.TheVariants as reading
use Rattle.lola_elab.specs.declared.scope.Scope.{Scope}
use Rattle.lola_elab.specs.Scope.{find, find_path, reading_number}
use Rattle.small_tree.specs.Table.{StateTree, ClassTree, PhaseTree, TableTree}
use Rattle.small_tree.specs.Step.{class_names, bare_value, state_value, loaded_word, loads_first}
use Rattle.lola_app.specs.declared.states.Shown.{Shown}
use Rattle.lola_app.specs.Claiming.{AreLeaves}
use Rattle.lola_app.specs.Classes.{IsTaken}
use Rattle.lola_app.specs.Headline.{shown, answer_of, role_value}
use Rattle.lola_app.specs.Scoping.{HasClassNames, Entered, loaded_entry, state_entries}
use Rattle.lola_app.specs.Shown.{IsShown, IsLoadedAt}
use Rattle.lola_app.specs.Small.{Interface, IsInClass, IsClassName, state_names, is_taken}
use Rattle.lola_app.specs.Starts.{leaf_under}
use Rattle.lola_app.proofs.ScopeMeans.{IsScope, no_path, bare_reading, source_reading, input_value, entered_under, names_shown, first_entry, find_entered, first_state, leaf_reading}

-- the first entry under a name is there exactly where the name is among those of the entries
abbrev pub entry_names : List Entered → List (List ℕ)
entry_names entries = map (λ (e : Entered). e.0) entries

entry_there : (entries : List Entered) (name : List ℕ) → IsIn name (entry_names entries) → (one : Reading) × (first_entry entries name ≡ Some one)
entry_there [] name among = absurd among
entry_there (e ∷ entries) name (inl same) = (e.1, rw (same_name e.0 name (sym same)) refl)
entry_there (e ∷ entries) name (inr later) = elim (cases_Bool (bytes_eq e.0 name)) [
  | inl h ↦ (e.1, rw h refl)
  | inr h ↦ let more = entry_there entries name later in (more.0, rw h more.1)
]

entry_named : (entries : List Entered) (name : List ℕ) (one : Reading) → first_entry entries name ≡ Some one → IsIn name (entry_names entries)
entry_named [] name one some = nothing one some
entry_named (e ∷ entries) name one some = elim (cases_Bool (bytes_eq e.0 name)) [
  | inl h ↦ inl (sym (is_same_name e.0 name h))
  | inr h ↦ inr (entry_named entries name one (sym (passed h) ∙ some))
]
  where
    passed : bytes_eq e.0 name ≡ false → first_entry (e ∷ entries) name ≡ first_entry entries name
    passed h = rw h refl

state_entry_names : (states : List Shown) → entry_names (state_entries states) ≡ map (λ (x : Shown). string_bytes x.name) states
state_entry_names [] = refl
state_entry_names (x ∷ states) = ap (λ (ns : List (List ℕ)). string_bytes x.name ∷ ns) (state_entry_names states)

names_append : (xs ys : List Entered) → entry_names (xs ++ ys) ≡ entry_names xs ++ entry_names ys
names_append [] ys = refl
names_append (x ∷ xs) ys = ap (λ (ns : List (List ℕ)). x.0 ∷ ns) (names_append xs ys)

-- a table's state is not called `i` or `d0`
declared : (face : Interface) (rows : List StateTree) (states : List Shown) (name : List ℕ) → AreEach (IsShown face) rows states → IsIn name (map (λ (row : StateTree). row.name) rows) → is_taken name ≡ false
declared face [] states name each among = absurd among
declared face (row ∷ rows) [] name each among = absurd each
declared face (row ∷ rows) (x ∷ states) name each (inl same) = ap is_taken same ∙ each.0.small.declarable
declared face (row ∷ rows) (x ∷ states) name each (inr later) = declared face rows states name each.1 later

-- what the one phase takes
first_loads : (phases : List PhaseTree) (phase : PhaseTree) → phases ≡ phase ∷ [] → loads_first phases ≡ phase.loads
first_loads phases phase e = ap loads_first e

taken_some : (phases : List PhaseTree) (loaded : Option ℕ) (leaf : ℕ) → IsTaken phases loaded (Some leaf) → (loads_first phases ≡ true) × (loaded ≡ Some leaf)
taken_some phases loaded leaf is = elim (cases_Bool is.plain.phase.loads) [
  | inl on ↦ (first_loads phases is.plain.phase is.plain.one_phase ∙ on, sym (is.taken_is ∙ on_is is.plain.phase.loads on))
  | inr off ↦ nothing leaf (sym (off_is is.plain.phase.loads off) ∙ sym is.taken_is)
]
  where
    on_is : (b : Bool) → b ≡ true → (if b then loaded else None) ≡ loaded
    on_is b on = rw on refl

    off_is : (b : Bool) → b ≡ false → (if b then loaded else None) ≡ None
    off_is b off = rw off refl

taken_none : (phases : List PhaseTree) (loaded : Option ℕ) → IsTaken phases loaded None → loads_first phases ≡ false
taken_none phases loaded is = elim (cases_Bool is.plain.phase.loads) [
  | inl on ↦
      let there = is.plain.loads on in
      nothing there.0 (is.taken_is ∙ on_is is.plain.phase.loads on ∙ there.1)
  | inr off ↦ first_loads phases is.plain.phase is.plain.one_phase ∙ off
]
  where
    on_is : (b : Bool) → b ≡ true → (if b then loaded else None) ≡ loaded
    on_is b on = rw on refl

loaded_is : (inputs : List (List ℕ)) (role : Option (List ℕ)) (loaded : Option ℕ) (leaf : ℕ) → IsLoadedAt inputs role loaded → loaded ≡ Some leaf → (port : List ℕ) × (role ≡ Some port) × IsAt inputs leaf port
loaded_is inputs None None leaf at e = nothing leaf e
loaded_is inputs None (Some other) leaf at e = absurd at
loaded_is inputs (Some port) None leaf at e = absurd at
loaded_is inputs (Some port) (Some other) leaf at e =
    let same : other ≡ leaf = cc in
    (port, refl, subst (λ n. IsAt inputs n port) same at)

module _ (face : Interface) (T : TableTree) (c : ClassTree) (states : List Shown) (loaded taken : Option ℕ) (scope : Scope) (has : HasClassNames taken states scope)
    (each : AreEach (IsShown face) T.states states) (is : IsTaken c.phases loaded taken) (at : IsLoadedAt face.inputs T.loaded loaded) where
  entries : List Entered
  entries = (codes "i", reading.Constant false) ∷ (loaded_entry taken ++ state_entries states)

  found : (name : List ℕ) → find scope.bare.items name ≡ first_entry entries name
  unfolding entries
  found name = find_entered scope.bare.items name ∙ ap (λ (es : List Entered). first_entry es name) has.bare

  -- a name of the class is that of an entry, and the reverse
  of_taken : (t : Option ℕ) (name : List ℕ) → taken ≡ t → IsIn name (entry_names (loaded_entry t)) → (name ≡ codes "d0") × (loads_first c.phases ≡ true)
  of_taken None name same among = absurd among
  of_taken (Some leaf) name same (inl is_d0) = (is_d0, (taken_some c.phases loaded leaf (subst (IsTaken c.phases loaded) same is)).0)
  of_taken (Some leaf) name same (inr none) = absurd none

  to_taken : (t : Option ℕ) → taken ≡ t → loads_first c.phases ≡ true → IsIn (codes "d0") (entry_names (loaded_entry t))
  to_taken None same on = absurd (let f : true ≡ false = sym on ∙ taken_none c.phases loaded (subst (IsTaken c.phases loaded) same is) in cc)
  to_taken (Some leaf) same on = inl refl

  states_named : entry_names (state_entries states) ≡ state_names T
  states_named = state_entry_names states ∙ names_shown face T.states states each

  of_entry : (name : List ℕ) → IsIn name (entry_names entries) → IsClassName T c name
  unfolding entries
  of_entry name (inl same) = inr (inl same)
  of_entry name (inr later) = elim (in_either name (entry_names (loaded_entry taken)) (entry_names (state_entries states))
      (subst (λ ns. IsIn name ns) (names_append (loaded_entry taken) (state_entries states)) later)) [
        | inl there ↦ let d0 = of_taken taken name refl there in inr (inr (d0.0, d0.1))
        | inr there ↦ inl (subst (λ ns. IsIn name ns) states_named there)
      ]

  to_entry : (name : List ℕ) → IsClassName T c name → IsIn name (entry_names entries)
  unfolding entries
  to_entry name (inl state) =
      inr (subst (λ ns. IsIn name ns) (sym (names_append (loaded_entry taken) (state_entries states)))
      (in_back name (entry_names (loaded_entry taken)) (entry_names (state_entries states)) (subst (λ ns. IsIn name ns) (sym states_named) state)))
  to_entry name (inr (inl word)) = inl word
  to_entry name (inr (inr (d0, on))) =
      inr (subst (λ ns. IsIn name ns) (sym (names_append (loaded_entry taken) (state_entries states)))
      (in_front name (entry_names (loaded_entry taken)) (entry_names (state_entries states)) (subst (λ n. IsIn n (entry_names (loaded_entry taken))) (sym d0) (to_taken taken refl on))))

  -- the value of a state among the entries
  state_reads : (s inp : Values) (leaves : List Bool) → AreLeaves face s inp leaves → (name : List ℕ) (one : Reading) → first_entry (state_entries states) name ≡ Some one →
      IsIn name (state_names T) × (state_value T.states (shown T s) name ≡ reading_number one leaves)
  state_reads s inp leaves are name one some = go (leaf_under states name) refl
    where
      go : (under : Option ℕ) → leaf_under states name ≡ under → IsIn name (state_names T) × (state_value T.states (shown T s) name ≡ reading_number one leaves)
      go None e = nothing one (sym (first_state states name ∙ ap leaf_reading e) ∙ some)
      go (Some leaf) e =
          let known : Some (reading.Leaf leaf) ≡ Some one = sym (first_state states name ∙ ap leaf_reading e) ∙ some in
          let same : reading.Leaf leaf ≡ one = cc in
          let entry = entered_under face T.states states name leaf each e in
          (entry.among, entry.value_is s inp leaves are ∙ ap (λ (r : Reading). reading_number r leaves) same)

  -- the values of names
  word_value : (s inp : Values) (name : List ℕ) → name ≡ codes "i" → bare_value T (shown T s) 0 (loaded_word c (answer_of T inp)) name ≡ 0
  word_value s inp name same = rw (same_name name (codes "i") same) refl

  loaded_value : (s inp : Values) (name : List ℕ) → name ≡ codes "d0" → bare_value T (shown T s) 0 (loaded_word c (answer_of T inp)) name ≡ loaded_word c (answer_of T inp)
  loaded_value s inp name same = ap (bare_value T (shown T s) 0 (loaded_word c (answer_of T inp))) same

  other_value : (s inp : Values) (name : List ℕ) → name ≢ codes "i" → name ≢ codes "d0" → bare_value T (shown T s) 0 (loaded_word c (answer_of T inp)) name ≡ state_value T.states (shown T s) name
  other_value s inp name i d0 = rw (other_name name (codes "i") i, other_name name (codes "d0") d0) refl

  -- behind the word, the entries are the loaded word, where it is taken, and the states
  behind_reads : (s inp : Values) (leaves : List Bool) → AreLeaves face s inp leaves → (name : List ℕ) (one : Reading) (t : Option ℕ) → taken ≡ t → name ≢ codes "i" →
      first_entry (loaded_entry t ++ state_entries states) name ≡ Some one → bare_value T (shown T s) 0 (loaded_word c (answer_of T inp)) name ≡ reading_number one leaves
  behind_reads s inp leaves are name one None same i some =
      let there = state_reads s inp leaves are name one some in
      let d0 : name ≢ codes "d0" = λ e. let f : true ≡ false = ap is_taken (sym e) ∙ declared face T.states states name each there.0 in cc in
      other_value s inp name i d0 ∙ there.1
  behind_reads s inp leaves are name one (Some leaf) same i some = elim (same_or_not name (codes "d0")) [
    | inl d0 ↦
        let now = taken_some c.phases loaded leaf (subst (IsTaken c.phases loaded) same is) in
        let role = loaded_is face.inputs T.loaded loaded leaf at now.1 in
        let known : Some (reading.Leaf leaf) ≡ Some one = sym (first_is d0) ∙ some in
        let is_one : reading.Leaf leaf ≡ one = cc in
        loaded_value s inp name d0 ∙ taken_word now.0 ∙ ap (λ (r : Option (List ℕ)). role_value r inp) role.1 ∙ input_value face s inp leaves leaf role.0 are role.2
        ∙ ap (λ (r : Reading). reading_number r leaves) is_one
    | inr d0 ↦
        let there = state_reads s inp leaves are name one (sym (next_is d0) ∙ some) in
        other_value s inp name i d0 ∙ there.1
  ]
    where
      first_is : name ≡ codes "d0" → first_entry ((codes "d0", reading.Leaf leaf) ∷ state_entries states) name ≡ Some (reading.Leaf leaf)
      first_is e = rw (same_name (codes "d0") name (sym e)) refl

      next_is : name ≢ codes "d0" → first_entry ((codes "d0", reading.Leaf leaf) ∷ state_entries states) name ≡ first_entry (state_entries states) name
      next_is d0 = rw (other_name (codes "d0") name (λ e. d0 (sym e))) refl

      taken_word : loads_first c.phases ≡ true → loaded_word c (answer_of T inp) ≡ role_value T.loaded inp
      taken_word on = rw on refl

  name_reads : (s inp : Values) (leaves : List Bool) → AreLeaves face s inp leaves → (name : List ℕ) (one : Reading) → first_entry entries name ≡ Some one →
      bare_value T (shown T s) 0 (loaded_word c (answer_of T inp)) name ≡ reading_number one leaves
  unfolding entries
  name_reads s inp leaves are name one some = elim (same_or_not name (codes "i")) [
    | inl i ↦
        let known : Some (reading.Constant false) ≡ Some one = sym (first_is i) ∙ some in
        let is_one : reading.Constant false ≡ one = cc in
        word_value s inp name i ∙ ap (λ (r : Reading). reading_number r leaves) is_one
    | inr i ↦ behind_reads s inp leaves are name one taken refl i (sym (next_is i) ∙ some)
  ]
    where
      first_is : name ≡ codes "i" → first_entry ((codes "i", reading.Constant false) ∷ (loaded_entry taken ++ state_entries states)) name ≡ Some (reading.Constant false)
      first_is e = rw (same_name (codes "i") name (sym e)) refl

      next_is : name ≢ codes "i" → first_entry ((codes "i", reading.Constant false) ∷ (loaded_entry taken ++ state_entries states)) name ≡ first_entry (loaded_entry taken ++ state_entries states) name
      next_is i = rw (other_name (codes "i") name (λ e. i (sym e))) refl

  path_found : (path : Path) (one : Reading) → find_path scope.bare.items path ≡ Some one → (name : List ℕ) × (path ≡ name ∷ []) × (first_entry entries name ≡ Some one)
  path_found [] one some = nothing one some
  path_found (name ∷ []) one some = (name, refl, sym (found name) ∙ some)
  path_found (name ∷ other ∷ more) one some = nothing one some

  pub class_is_scope : IsScope face (IsInClass T c) (λ s inp. class_names T (shown T s) 0 (loaded_word c (answer_of T inp))) scope
  class_is_scope = record {
    reads = λ s inp leaves are r one is_one. elim (cases_Bool r.source) [
      | inl e ↦ absurd (no_path scope.source.items r.path one has.source (sym (source_reading scope r e) ∙ is_one))
      | inr e ↦
          let there = path_found r.path one (sym (bare_reading scope r e) ∙ is_one) in
          rw (e, there.1) (name_reads s inp leaves are there.0 one there.2)
    ];
    has = λ r of.
        let there = entry_there entries of.1.0 (to_entry of.1.0 of.1.2) in
        (there.0, bare_reading scope r of.0 ∙ ap (find_path scope.bare.items) of.1.1 ∙ found of.1.0 ∙ there.1);
    only = λ r of. elim (cases_Bool r.source) [
      | inl e ↦ absurd (no_path scope.source.items r.path of.0 has.source (sym (source_reading scope r e) ∙ of.1))
      | inr e ↦
          let there = path_found r.path of.0 (sym (bare_reading scope r e) ∙ of.1) in
          (e, (there.0, there.1, of_entry there.0 (entry_named entries there.0 of.0 there.2)))
    ];
  }

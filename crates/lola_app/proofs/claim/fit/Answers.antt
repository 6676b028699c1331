use Rattle.std.proofs.Common.{◌≡◌, [], ◌∷◌, refl, sym, ap, subst, ◌∙◌, map, length, string_bytes}
use Rattle.std.specs.List.{AllByRecursion}
use Rattle.std.proofs.lemmas.List.{length-map}
use Rattle.lola_bits.specs.Lists.{AreEach}
use Rattle.lola_bits.proofs.Options.{same_fault}
use Rattle.lola_elab.specs.Scope.{HasReading}
use Rattle.small_tree.specs.Table.{table_tree, class_tree, phase_tree, state_tree, set_tree}
use Rattle.lola_app.specs.declared.states.Shown.{Shown}
use Rattle.lola_app.specs.Classes.{IsPlainPhase, IsTaken}
use Rattle.lola_app.specs.Fitting.{IsSetState}
use Rattle.lola_app.specs.Scoping.{HasRegisters, HasClassNames}
use Rattle.lola_app.specs.Shown.{IsShown, AreRoles}
use Rattle.lola_app.specs.Small.{IsNoName, IsSmallRow, AreSmallRows, AreSmallStates}
use Rattle.lola_app.specs.Starts.{IsStartRow}
use Rattle.lola_app.specs.Vectors.{interface_in}
use Rattle.lola_app.proofs.Fits.{claim_is, class_small, one_place_of, plain_of, registers_read, sets_read, starts_read}
use Rattle.lola_app.proofs.claim.fit.Goals as goal

pub returns-in_default-only_place-clause-none : goal.returns-in_default-only_place-clause-none
returns-in_default-only_place-clause-none c = λ e small.
    let T = table_tree c.args.table.now in
    let C = class_tree c.in-Some.class.now in
    let only : T.classes ≡ C ∷ [] = ap (map class_tree) (sym c.items-2.ensures) ∙ c.in-Some.ensures in
    let place = one_place_of C.pattern (class_small (interface_in c.args.face) T C only small).one_place in
    c.in_default-only_place.ensures place.0 (c.items-3.ensures ∙ place.1)

pub returns-in_default-taken_leaf-clause-none : goal.returns-in_default-taken_leaf-clause-none
returns-in_default-taken_leaf-clause-none c = λ e small.
    let T = table_tree c.args.table.now in
    let C = class_tree c.in-Some.class.now in
    let face = interface_in c.args.face in
    let only : T.classes ≡ C ∷ [] = ap (map class_tree) (sym c.items-2.ensures) ∙ c.in-Some.ensures in
    let roles : AreRoles face.inputs T c.in-Ok.roles = subst (λ xs. AreRoles (map string_bytes xs) T c.in-Ok.roles) c.as_slice.ensures.value c.in-Ok.ensures.ok in
    c.in_default-taken_leaf.ensures (subst (λ ps. IsPlainPhase (map phase_tree ps) c.in-Ok.roles.loaded) (sym c.items-4.ensures) (plain_of face.inputs T C c.in-Ok.roles roles (class_small face T C only small)))

pub returns-in-Err-meaning-clause-none : goal.returns-in-Err-meaning-clause-none
returns-in-Err-meaning-clause-none c = λ e small.
    let face = interface_in c.args.face in
    let T = table_tree c.args.table.now in
    let has : HasRegisters (length face.inputs) face.registers c.in_ok-registers.registers =
    subst (λ n. HasRegisters n face.registers c.in_ok-registers.registers) (sym (length-map c.args.face.inputs.items string_bytes)) c.in_ok-registers.ensures in
    c.in-Err-meaning.ensures.none (same_fault _ _ e) (registers_read face c.in_ok-registers.registers T.invariant has small.invariant)

pub returns-in-Err-meaning-2-clause-none : goal.returns-in-Err-meaning-2-clause-none
returns-in-Err-meaning-2-clause-none c = λ e small.
    let face = interface_in c.args.face in
    let T = table_tree c.args.table.now in
    let has : HasRegisters (length face.inputs) face.registers c.in_ok-registers.registers =
    subst (λ n. HasRegisters n face.registers c.in_ok-registers.registers) (sym (length-map c.args.face.inputs.items string_bytes)) c.in_ok-registers.ensures in
    c.in-Err-meaning-2.ensures.none (same_fault _ _ e) (registers_read face c.in_ok-registers.registers T.boundary has small.boundary)

pub returns-in-Err-check_sets-clause-none : goal.returns-in-Err-check_sets-clause-none
returns-in-Err-check_sets-clause-none c = λ e small.
    let face = interface_in c.args.face in
    let T = table_tree c.args.table.now in
    let C = class_tree c.in-Some.class.now in
    let only : T.classes ≡ C ∷ [] = ap (map class_tree) (sym c.items-2.ensures) ∙ c.in-Some.ensures in
    let states = c.in-Ok-shown_states.shown.items in
    let roles : AreRoles face.inputs T c.in-Ok.roles = subst (λ xs. AreRoles (map string_bytes xs) T c.in-Ok.roles) c.as_slice.ensures.value c.in-Ok.ensures.ok in
    let each : AreEach (IsShown face) T.states states = subst (λ xs. AreEach (IsShown face) (map state_tree xs) states) c.items.ensures c.in-Ok-shown_states.ensures.ok in
    let takes : IsTaken C.phases c.in-Ok.roles.loaded c.in-Some-taken_leaf.taken = subst (λ ps. IsTaken (map phase_tree ps) c.in-Ok.roles.loaded c.in-Some-taken_leaf.taken) c.items-4.ensures c.in-Some-taken_leaf.ensures in
    let has : HasClassNames c.in-Some-taken_leaf.taken states c.in_ok-names.names = subst (λ xs. HasClassNames c.in-Some-taken_leaf.taken xs c.in_ok-names.names) c.as_slice-2.ensures.value c.in_ok-names.ensures in
    let sets : AreSmallRows (map (λ (x : Shown). string_bytes x.name) states) (HasReading c.in_ok-names.names) C.sets =
    sets_read face T C c.in-Ok.roles states c.in-Some-taken_leaf.taken c.in_ok-names.names roles each takes has (class_small face T C only small) in
    c.in-Err-check_sets.ensures.none (same_fault _ _ e)
    (subst (λ xs. AreSmallRows (map (λ (x : Shown). string_bytes x.name) xs) (HasReading c.in_ok-names.names) (map set_tree c.items-5.result.now)) (sym c.as_slice-3.ensures.value)
    (subst (λ rows. AreSmallRows (map (λ (x : Shown). string_bytes x.name) states) (HasReading c.in_ok-names.names) (map set_tree rows)) (sym c.items-5.ensures) sets))

pub returns-in-Err-claimed_states-clause-none : goal.returns-in-Err-claimed_states-clause-none
returns-in-Err-claimed_states-clause-none c = λ e small.
    let face = interface_in c.args.face in
    let T = table_tree c.args.table.now in
    let C = class_tree c.in-Some.class.now in
    let only : T.classes ≡ C ∷ [] = ap (map class_tree) (sym c.items-2.ensures) ∙ c.in-Some.ensures in
    let states = c.in-Ok-shown_states.shown.items in
    let roles : AreRoles face.inputs T c.in-Ok.roles = subst (λ xs. AreRoles (map string_bytes xs) T c.in-Ok.roles) c.as_slice.ensures.value c.in-Ok.ensures.ok in
    let each : AreEach (IsShown face) T.states states = subst (λ xs. AreEach (IsShown face) (map state_tree xs) states) c.items.ensures c.in-Ok-shown_states.ensures.ok in
    let takes : IsTaken C.phases c.in-Ok.roles.loaded c.in-Some-taken_leaf.taken = subst (λ ps. IsTaken (map phase_tree ps) c.in-Ok.roles.loaded c.in-Some-taken_leaf.taken) c.items-4.ensures c.in-Some-taken_leaf.ensures in
    let has : HasClassNames c.in-Some-taken_leaf.taken states c.in_ok-names.names = subst (λ xs. HasClassNames c.in-Some-taken_leaf.taken xs c.in_ok-names.names) c.as_slice-2.ensures.value c.in_ok-names.ensures in
    let sets : AreSmallRows (map (λ (x : Shown). string_bytes x.name) states) (HasReading c.in_ok-names.names) C.sets =
    sets_read face T C c.in-Ok.roles states c.in-Some-taken_leaf.taken c.in_ok-names.names roles each takes has (class_small face T C only small) in
    c.in-Err-claimed_states.ensures.none (same_fault _ _ e) (map (λ (x : Shown). string_bytes x.name) states)
    (subst (λ rows. AllByRecursion (IsSmallRow (map (λ (x : Shown). string_bytes x.name) states) (HasReading c.in_ok-names.names)) (map set_tree rows)) (sym c.items-6.ensures) sets.each)

pub returns-in-Err-starts_of-clause-none : goal.returns-in-Err-starts_of-clause-none
returns-in-Err-starts_of-clause-none c = λ e small.
    let face = interface_in c.args.face in
    let T = table_tree c.args.table.now in
    let states = c.in-Ok-shown_states.shown.items in
    let each : AreEach (IsShown face) T.states states = subst (λ xs. AreEach (IsShown face) (map state_tree xs) states) c.items.ensures c.in-Ok-shown_states.ensures.ok in
    let starts = starts_read face T states each small.starts in
    c.in-Err-starts_of.ensures.none (same_fault _ _ e)
    (subst (λ xs. AreSmallRows (map (λ (x : Shown). string_bytes x.name) xs) IsNoName (map set_tree c.items-7.result.now)) (sym c.as_slice-5.ensures.value)
    (subst (λ rows. AreSmallRows (map (λ (x : Shown). string_bytes x.name) states) IsNoName (map set_tree rows)) (sym c.items-7.ensures) starts))

pub returns-clause-ok : goal.returns-clause-ok
returns-clause-ok c =
    let face = interface_in c.args.face in
    let T = table_tree c.args.table.now in
    let C = class_tree c.in-Some.class.now in
    let states = c.in-Ok-shown_states.shown.items in
    let named = c.if-not-is_for.ensures.0 refl in
    claim_is T _ C c.in-Ok.roles states c.in-Some-taken_leaf.taken c.in_ok-registers.registers c.in_ok-names.names
    (record {
      ends = named.0;
      root = named.1 ∙ c.as_str.ensures.value;
      roles_are = subst (λ xs. AreRoles (map string_bytes xs) T c.in-Ok.roles) c.as_slice.ensures.value c.in-Ok.ensures.ok;
      small_states = subst (λ xs. AreSmallStates face.registers (map state_tree xs)) c.items.ensures c.in-Ok-shown_states.ensures.small;
      shown_are = subst (λ xs. AreEach (IsShown face) (map state_tree xs) states) c.items.ensures c.in-Ok-shown_states.ensures.ok;
      one_class = ap (map class_tree) (sym c.items-2.ensures) ∙ c.in-Some.ensures;
      one_place = sym c.items-3.ensures ∙ c.in-Some-only_place.ensures;
      takes = subst (λ ps. IsTaken (map phase_tree ps) c.in-Ok.roles.loaded c.in-Some-taken_leaf.taken) c.items-4.ensures c.in-Some-taken_leaf.ensures;
      register_names = subst (λ n. HasRegisters n face.registers c.in_ok-registers.registers) (sym (length-map c.args.face.inputs.items string_bytes)) c.in_ok-registers.ensures;
      class_has = subst (λ xs. HasClassNames c.in-Some-taken_leaf.taken xs c.in_ok-names.names) c.as_slice-2.ensures.value c.in_ok-names.ensures;
      small_invariant = c.in-Ok-meaning.ensures.small;
      small_boundary = c.in-Ok-meaning-2.ensures.small;
      means_invariant = c.in-Ok-meaning.ensures.means;
      means_boundary = c.in-Ok-meaning-2.ensures.means;
      small_sets = subst (λ xs. AreSmallRows (map (λ (x : Shown). string_bytes x.name) xs) (HasReading c.in_ok-names.names) C.sets) c.as_slice-3.ensures.value
          (subst (λ rows. AreSmallRows (map (λ (x : Shown). string_bytes x.name) c.as_slice-3.result.now) (HasReading c.in_ok-names.names) (map set_tree rows)) c.items-5.ensures c.in-Ok-check_sets.ensures.ok);
      sets_are = subst (λ xs. AreEach (IsSetState C.sets c.in_ok-names.names) xs c.in-Ok-claimed_states.states.items) c.as_slice-4.ensures.value
          (subst (λ rows. AreEach (IsSetState (map set_tree rows) c.in_ok-names.names) c.as_slice-4.result.now c.in-Ok-claimed_states.states.items) c.items-6.ensures c.in-Ok-claimed_states.ensures.ok);
      small_starts = subst (λ xs. AreSmallRows (map (λ (x : Shown). string_bytes x.name) xs) IsNoName T.starts) c.as_slice-5.ensures.value
          (subst (λ rows. AreSmallRows (map (λ (x : Shown). string_bytes x.name) c.as_slice-5.result.now) IsNoName (map set_tree rows)) c.items-7.ensures c.in-Ok-starts_of.ensures.small);
      starts_are = subst (λ xs. AreEach (IsStartRow xs) T.starts c.in-Ok-starts_of.starts.items) c.as_slice-5.ensures.value
          (subst (λ rows. AreEach (IsStartRow c.as_slice-5.result.now) (map set_tree rows) c.in-Ok-starts_of.starts.items) c.items-7.ensures c.in-Ok-starts_of.ensures.ok);
    })
    refl refl (c.in_ok-from_str.ensures.ok ∙ c.text.ensures)

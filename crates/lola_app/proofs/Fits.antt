-- A claim of its parts, and what a table in the small form has for each part.
use Rattle.std.proofs.Common.{◌≡◌, ℕ, ◌+◌, ◌≤◌, Bool, true, false, List, [], ◌∷◌, length, map, Some, None, refl, sym, ap, subst, ◌∙◌, inl, inr, arith}
use Rattle.std.specs.Prelude.{string_bytes, Option, slice_index_or, bytes_eq}
use Rattle.std.specs.List.{AllByRecursion}
use Rattle.std.proofs.lemmas.Bool.{cases_Bool}
use Rattle.lola_bits.specs.Lists.{AreEach, IsAt}
use Rattle.lola_tree.specs.declared.named.Ref.{Ref}
use Rattle.lola_tree.specs.Tree.{Tree}
use Rattle.lola_tree.specs.Value.{Values}
use Rattle.lola_elab.specs.declared.logic.Logic.{Logic}
use Rattle.lola_elab.specs.declared.scope.Scope.{Scope}
use Rattle.lola_elab.specs.Logic.{logic_value, bit_number}
use Rattle.lola_elab.specs.Scope.{HasReading, Reads}
use Rattle.lola_elab.specs.Small.{IsSmallExpr}
use Rattle.small_tree.specs.Table.{StateTree, SetTree, ClassTree, TableTree}
use Rattle.small_tree.specs.Step.{source_names, class_names, set_value, loaded_word, table_value}
use Rattle.lola_app.specs.declared.claim.Claim.{Claim}
use Rattle.lola_app.specs.declared.claim.State.{State}
use Rattle.lola_app.specs.declared.claim.Start.{Start}
use Rattle.lola_app.specs.declared.roles.Roles.{Roles}
use Rattle.lola_app.specs.declared.states.Shown.{Shown}
use Rattle.lola_app.specs.Claiming.{MeansBit, IsClaimedState, IsClaimedStart, IsClaimOf}
use Rattle.lola_app.specs.Classes.{IsPlainPhase, IsTaken}
use Rattle.lola_app.specs.Fitting.{IsSetState}
use Rattle.lola_app.specs.Headline.{shown, answer_of}
use Rattle.lola_app.specs.Scoping.{HasRegisters, HasClassNames}
use Rattle.lola_app.specs.Shown.{IsShown, IsLoadedAt, AreRoles}
use Rattle.lola_app.specs.Small.{Interface, IsSourceRegister, IsNoName, IsInClass, state_names, IsSmallRow, AreSmallRows, IsSmallClass, AreSmallStates, IsSmallTable}
use Rattle.lola_app.specs.Starts.{leaf_under, IsStartRow}
use Rattle.lola_app.specs.Vectors.{interface_in}
use Rattle.lola_app.proofs.ClassNames.{class_is_scope}
use Rattle.lola_app.proofs.ScopeMeans.{IsScope, small_map, registers_scope, shown_value, entered_under, names_shown}

-- an expression that was read in a scope means the same over the leaves
read_in : (face : Interface) (Names : Ref → Type 0) (names : Values → Values → Ref → ℕ) (scope : Scope) (e : Tree) (logic : Logic) → IsScope face Names names scope →
    ((n : Ref → ℕ) (leaves : List Bool) → Reads scope n leaves → table_value e n ≡ bit_number (logic_value logic leaves)) → MeansBit face (λ s inp. table_value e (names s inp)) (logic_value logic)
read_in face Names names scope e logic is means s inp leaves are = means (names s inp) leaves (is.reads s inp leaves are)

-- rows over the names of a scope
pub rows_map : (states : List (List ℕ)) (P Q : Ref → Type 0) (rows : List SetTree) → ((r : Ref) → P r → Q r) → AreSmallRows states P rows → AreSmallRows states Q rows
rows_map states P Q rows f all = record { distinct = all.distinct; each = each rows all.each }
  where
    each : (rows : List SetTree) → AllByRecursion (IsSmallRow states P) rows → AllByRecursion (IsSmallRow states Q) rows
    each [] all = tt
    each (row ∷ rows) all = ((all.0.0, small_map P Q f row.value all.0.1), each rows all.1)

claimed_each : (face : Interface) (T : TableTree) (c : ClassTree) (scope : Scope) (rows : List StateTree) (states : List Shown) (claimed : List State) → AreEach (IsShown face) rows states →
    AreEach (IsSetState c.sets scope) states claimed → IsScope face (IsInClass T c) (λ s inp. class_names T (shown T s) 0 (loaded_word c (answer_of T inp))) scope →
    AreEach (IsClaimedState face T c) rows claimed
claimed_each face T c scope [] [] [] each sets is = tt
claimed_each face T c scope [] [] (y ∷ claimed) each sets is = absurd sets
claimed_each face T c scope [] (x ∷ states) claimed each sets is = absurd each
claimed_each face T c scope (row ∷ rows) [] claimed each sets is = absurd each
claimed_each face T c scope (row ∷ rows) (x ∷ states) [] each sets is = absurd sets
claimed_each face T c scope (row ∷ rows) (x ∷ states) (y ∷ claimed) each sets is = (
  record {
    named = sets.0.named ∙ each.0.named;
    behind = let e : y.leaf ≡ length face.inputs + each.0.place = sets.0.leaf ∙ each.0.leaf in omega arith;
    shown_is = λ s inp leaves are. shown_value face row x s inp leaves each.0 are ∙ ap (λ n. bit_number (slice_index_or leaves n false)) (sym sets.0.leaf);
    set_is = λ s inp leaves are.
        ap (λ (name : List ℕ). set_value c.sets name (table_value row.shown (source_names s)) (class_names T (shown T s) 0 (loaded_word c (answer_of T inp)))) (sym each.0.named)
        ∙ sets.0.set (class_names T (shown T s) 0 (loaded_word c (answer_of T inp))) leaves (table_value row.shown (source_names s)) (is.reads s inp leaves are) (shown_value face row x s inp leaves each.0 are);
  },
  claimed_each face T c scope rows states claimed each.1 sets.1 is,
)

leaf_behind : (face : Interface) (rows : List StateTree) (states : List Shown) (name : List ℕ) (leaf : ℕ) → AreEach (IsShown face) rows states → leaf_under states name ≡ Some leaf → length face.inputs ≤ leaf
leaf_behind face [] [] name leaf each under = absurd (let f : None ≡ Some leaf = under in cc)
leaf_behind face [] (x ∷ states) name leaf each under = absurd each
leaf_behind face (row ∷ rows) [] name leaf each under = absurd each
leaf_behind face (row ∷ rows) (x ∷ states) name leaf each under = elim (cases_Bool (bytes_eq (string_bytes x.name) name)) [
  | inl same ↦
      let f : Some x.leaf ≡ Some leaf = sym (taken same) ∙ under in
      let known : x.leaf ≡ leaf = cc in
      let e : x.leaf ≡ length face.inputs + each.0.place = each.0.leaf in omega arith
  | inr other ↦ leaf_behind face rows states name leaf each.1 (sym (passed other) ∙ under)
]
  where
    taken : bytes_eq (string_bytes x.name) name ≡ true → leaf_under (x ∷ states) name ≡ Some x.leaf
    taken h = rw h refl

    passed : bytes_eq (string_bytes x.name) name ≡ false → leaf_under (x ∷ states) name ≡ leaf_under states name
    passed h = rw h refl

started_each : (face : Interface) (T : TableTree) (states : List Shown) (rows : List SetTree) (starts : List Start) → AreEach (IsShown face) T.states states → AreEach (IsStartRow states) rows starts →
    AreEach (IsClaimedStart face T) rows starts
started_each face T states [] [] shown' each = tt
started_each face T states [] (y ∷ starts) shown' each = absurd each
started_each face T states (row ∷ rows) [] shown' each = absurd each
started_each face T states (row ∷ rows) (y ∷ starts) shown' each = (
  record {
    named = each.0.named;
    behind = leaf_behind face T.states states row.name y.leaf shown' each.0.leaf;
    state_is = λ s inp leaves are. (entered_under face T.states states row.name y.leaf shown' each.0.leaf).value_is s inp leaves are;
    value_is = each.0.value_is;
  },
  started_each face T states rows starts shown' each.1,
)

-- the parts of a claim
pub record Parts (face : Interface) (T : TableTree) (c : ClassTree) (place : ℕ) (roles : Roles) (states : List Shown) (taken : Option ℕ) (registers names : Scope) (invariant boundary : Logic) (claimed : List State) (starts : List Start) : Type 0 where
  pub ends : T.ends ≡ T.name
  pub root : T.root ≡ face.root
  pub roles_are : AreRoles face.inputs T roles
  pub small_states : AreSmallStates face.registers T.states
  pub shown_are : AreEach (IsShown face) T.states states
  pub one_class : T.classes ≡ c ∷ []
  pub one_place : c.pattern ≡ place ∷ []
  pub takes : IsTaken c.phases roles.loaded taken
  pub register_names : HasRegisters (length face.inputs) face.registers registers
  pub class_has : HasClassNames taken states names
  pub small_invariant : IsSmallExpr (HasReading registers) T.invariant
  pub small_boundary : IsSmallExpr (HasReading registers) T.boundary
  pub means_invariant : (n : Ref → ℕ) (leaves : List Bool) → Reads registers n leaves → table_value T.invariant n ≡ bit_number (logic_value invariant leaves)
  pub means_boundary : (n : Ref → ℕ) (leaves : List Bool) → Reads registers n leaves → table_value T.boundary n ≡ bit_number (logic_value boundary leaves)
  pub small_sets : AreSmallRows (map (λ (x : Shown). string_bytes x.name) states) (HasReading names) c.sets
  pub sets_are : AreEach (IsSetState c.sets names) states claimed
  pub small_starts : AreSmallRows (map (λ (x : Shown). string_bytes x.name) states) IsNoName T.starts
  pub starts_are : AreEach (IsStartRow states) T.starts starts

-- the loads of the one phase have a role
role_there : (inputs : List (List ℕ)) (role : Option (List ℕ)) (loaded : Option ℕ) → IsLoadedAt inputs role loaded → (leaf : ℕ) × (loaded ≡ Some leaf) → (port : List ℕ) × (role ≡ Some port)
role_there inputs None None at (leaf, e) = absurd (let f : None ≡ Some leaf = e in cc)
role_there inputs None (Some other) at there = absurd at
role_there inputs (Some port) loaded at there = (port, refl)

leaf_there : (inputs : List (List ℕ)) (role : Option (List ℕ)) (loaded : Option ℕ) → IsLoadedAt inputs role loaded → (port : List ℕ) × (role ≡ Some port) → (leaf : ℕ) × (loaded ≡ Some leaf)
leaf_there inputs None None at (port, e) = absurd (let f : None ≡ Some port = e in cc)
leaf_there inputs None (Some other) at there = absurd at
leaf_there inputs (Some port) None at there = absurd at
leaf_there inputs (Some port) (Some leaf) at there = (leaf, refl)

pub parts_small : {face : Interface} {T : TableTree} {c : ClassTree} {place : ℕ} {roles : Roles} {states : List Shown} {taken : Option ℕ} {registers names : Scope} {invariant boundary : Logic} {claimed : List State} {starts : List Start} →
    Parts face T c place roles states taken registers names invariant boundary claimed starts → IsSmallTable face T
parts_small {face = face} {T = T} {c = c} {roles = roles} {states = states} {taken = taken} {registers = registers} {names = names} parts =
    let registers_are = registers_scope face registers parts.register_names in
    let class_is = class_is_scope face T c states roles.loaded taken names parts.class_has parts.shown_are parts.takes parts.roles_are.loaded in
    let named = names_shown face T.states states parts.shown_are in
    record {
      ends = parts.ends;
      root = parts.root;
      roles = parts.roles_are.small;
      states = parts.small_states;
      invariant = small_map (HasReading registers) (IsSourceRegister face.registers) registers_are.only T.invariant parts.small_invariant;
      boundary = small_map (HasReading registers) (IsSourceRegister face.registers) registers_are.only T.boundary parts.small_boundary;
      starts = subst (λ ns. AreSmallRows ns IsNoName T.starts) named parts.small_starts;
      class = c;
      one_class = parts.one_class;
      small = record {
        one_place = ap length parts.one_place;
        phase = parts.takes.plain.phase;
        one_phase = parts.takes.plain.one_phase;
        linked = parts.takes.plain.linked;
        loads = λ on. role_there face.inputs T.loaded roles.loaded parts.roles_are.loaded (parts.takes.plain.loads on);
        sets = rows_map (state_names T) (HasReading names) (IsInClass T c) c.sets class_is.only (subst (λ ns. AreSmallRows ns (HasReading names) c.sets) named parts.small_sets);
      };
    }

pub claim_is : (T : TableTree) (claim : Claim) (c : ClassTree) (roles : Roles) (states : List Shown) (taken : Option ℕ) (registers names : Scope) →
    Parts (interface_in claim.face) T c claim.pattern roles states taken registers names claim.invariant claim.boundary claim.states.items claim.starts.items →
    claim.reset ≡ roles.reset → claim.active ≡ T.reset.value → string_bytes claim.class ≡ c.name → IsClaimOf T claim
unfolding parts_small
claim_is T claim c roles states taken registers names parts reset active class =
    let face = interface_in claim.face in
    let registers_are = registers_scope face registers parts.register_names in
    let class_is = class_is_scope face T c states roles.loaded taken names parts.class_has parts.shown_are parts.takes parts.roles_are.loaded in
    record {
      small = parts_small parts;
      reset = subst (λ n. IsAt face.inputs n T.reset.port) (sym reset) parts.roles_are.reset;
      active = active;
      invariant = read_in face (IsSourceRegister face.registers) (λ s inp. source_names s) registers T.invariant claim.invariant registers_are parts.means_invariant;
      boundary = read_in face (IsSourceRegister face.registers) (λ s inp. source_names s) registers T.boundary claim.boundary registers_are parts.means_boundary;
      class = class;
      pattern = parts.one_place;
      states = claimed_each face T c names T.states states claim.states.items parts.shown_are parts.sets_are class_is;
      starts = started_each face T states T.starts claim.starts.items parts.shown_are parts.starts_are;
    }

-- what a table in the small form has for each part
one_class_is : {c d : ClassTree} {classes : List ClassTree} → classes ≡ c ∷ [] → classes ≡ d ∷ [] → c ≡ d
one_class_is {c = c} {d = d} e f = let g : c ∷ [] ≡ d ∷ [] = sym e ∙ f in cc

pub class_small : (face : Interface) (T : TableTree) (c : ClassTree) → T.classes ≡ c ∷ [] → IsSmallTable face T → IsSmallClass T c
class_small face T c only small = subst (IsSmallClass T) (one_class_is small.one_class only) small.small

pub one_place_of : (pattern : List ℕ) → length pattern ≡ 1 → (place : ℕ) × (pattern ≡ place ∷ [])
one_place_of [] long = absurd (omega arith)
one_place_of (p ∷ []) long = (p, refl)
one_place_of (p ∷ q ∷ ps) long = absurd (omega arith)

pub plain_of : (inputs : List (List ℕ)) (T : TableTree) (c : ClassTree) (roles : Roles) → AreRoles inputs T roles → IsSmallClass T c → IsPlainPhase c.phases roles.loaded
plain_of inputs T c roles are small = record {
  phase = small.phase;
  one_phase = small.one_phase;
  linked = small.linked;
  loads = λ on. leaf_there inputs T.loaded roles.loaded are.loaded (small.loads on);
}

pub registers_read : (face : Interface) (registers : Scope) (e : Tree) → HasRegisters (length face.inputs) face.registers registers → IsSmallExpr (IsSourceRegister face.registers) e → IsSmallExpr (HasReading registers) e
registers_read face registers e has small = small_map (IsSourceRegister face.registers) (HasReading registers) (registers_scope face registers has).has e small

pub sets_read : (face : Interface) (T : TableTree) (c : ClassTree) (roles : Roles) (states : List Shown) (taken : Option ℕ) (names : Scope) → AreRoles face.inputs T roles → AreEach (IsShown face) T.states states →
    IsTaken c.phases roles.loaded taken → HasClassNames taken states names → IsSmallClass T c → AreSmallRows (map (λ (x : Shown). string_bytes x.name) states) (HasReading names) c.sets
sets_read face T c roles states taken names are each takes has small =
    let class_is = class_is_scope face T c states roles.loaded taken names has each takes are.loaded in
    subst (λ ns. AreSmallRows ns (HasReading names) c.sets) (sym (names_shown face T.states states each)) (rows_map (state_names T) (IsInClass T c) (HasReading names) c.sets class_is.has small.sets)

pub starts_read : (face : Interface) (T : TableTree) (states : List Shown) → AreEach (IsShown face) T.states states → AreSmallRows (state_names T) IsNoName T.starts →
    AreSmallRows (map (λ (x : Shown). string_bytes x.name) states) IsNoName T.starts
starts_read face T states each small = subst (λ ns. AreSmallRows ns IsNoName T.starts) (sym (names_shown face T.states states each)) small

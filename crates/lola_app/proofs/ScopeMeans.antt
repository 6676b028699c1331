-- What the names of scopes mean over the leaves of a design.
use Rattle.std.proofs.Common.{◌≡◌, ℕ, zero, suc, ◌+◌, Bool, true, false, List, [], ◌∷◌, ◌++◌, length, map, Some, None, refl, sym, ap, ap₂, ◌∙◌, arith, inl, inr}
use Rattle.std.specs.Prelude.{bytes_eq, string_bytes, if◌then◌else◌, Option, slice_index_or}
use Rattle.std.proofs.lemmas.Bool.{cases_Bool}
use Rattle.lola_bits.specs.Lists.{IsIn, AreEach, IsAt}
use Rattle.lola_bits.proofs.Names.{same_name, is_same_name}
use Rattle.lola_bits.proofs.Places.{get_in}
use Rattle.lola_bits.proofs.Options.{nothing}
use Rattle.lola_tree.specs.declared.named.Ref.{Ref}
use Rattle.lola_tree.specs.Tree.{Tree, number, whole, bit, slice, index, concat, negation, binary, choice}
use Rattle.lola_tree.specs.Value.{Path, Values}
use Rattle.lola_tree.specs.Signals.{values_of}
use Rattle.lola_elab.specs.declared.scope.Reading.{Reading}
use Rattle.lola_elab.specs.declared.scope.Reading.TheVariants as reading
use Rattle.lola_elab.specs.declared.scope.Entry.{Entry}
use Rattle.lola_elab.specs.declared.scope.Scope.{Scope}
use Rattle.lola_elab.specs.Leaves.{leaves_from}
use Rattle.lola_elab.specs.Leaves.{shown as entered}
use Rattle.lola_elab.specs.Logic.{bit_number, AreBits}
use Rattle.lola_elab.specs.Scope.{find, find_path, reading_of, HasReading, reading_number, Reads}
use Rattle.lola_elab.specs.Small.{IsSmallExpr}
use Rattle.small_tree.specs.Table.{StateTree}
use Rattle.small_tree.specs.Step.{source_names, state_value, table_value}
use Rattle.lola_app.specs.declared.states.Shown.{Shown}
use Rattle.lola_app.specs.Claiming.{AreLeaves}
use Rattle.lola_app.specs.Scoping.{HasRegisters, Entered, state_entries}
use Rattle.lola_app.specs.Shown.{IsSourceName, IsShown}
use Rattle.lola_app.specs.Starts.{leaf_under}
use Rattle.lola_app.specs.Small.{Interface, IsSourceRegister}

-- an expression over some names is one over more names
pub small_map : (P Q : Ref → Type 0) → ((r : Ref) → P r → Q r) → (e : Tree) → IsSmallExpr P e → IsSmallExpr Q e
small_map P Q f (number n width at) is = is
small_map P Q f (whole of) is = f of is
small_map P Q f (negation e at) is = small_map P Q f e is
small_map P Q f (binary o a b at) is = (is.0, small_map P Q f a is.1, small_map P Q f b is.2)
small_map P Q f (choice test first second at) is = absurd is
small_map P Q f (bit of place at) is = absurd is
small_map P Q f (slice of high low at) is = absurd is
small_map P Q f (index of place at) is = absurd is
small_map P Q f (concat parts at) is = absurd is

-- nothing stands in an empty list
pub no_path : (entries : List Entry) (path : Path) (r : Reading) → entries ≡ [] → find_path entries path ≡ Some r → ⊥
no_path entries [] r none some = nothing r some
no_path entries (name ∷ []) r none some = nothing r (sym (ap (λ (es : List Entry). find es name) none) ∙ some)
no_path entries (name ∷ other ∷ more) r none some = nothing r some

-- the reading of a bare name, and of one behind an `@`
pub bare_reading : (scope : Scope) (r : Ref) → r.source ≡ false → reading_of scope r ≡ find_path scope.bare.items r.path
bare_reading scope r bare = rw bare refl

pub source_reading : (scope : Scope) (r : Ref) → r.source ≡ true → reading_of scope r ≡ find_path scope.source.items r.path
source_reading scope r source = rw source refl

pub no_reading : (scope : Scope) (r : Ref) → scope.bare.items ≡ [] → scope.source.items ≡ [] → HasReading scope r → ⊥
no_reading scope r bare source has = elim (cases_Bool r.source) [
  | inl e ↦ no_path scope.source.items r.path has.0 source (sym (source_reading scope r e) ∙ has.1)
  | inr e ↦ no_path scope.bare.items r.path has.0 bare (sym (bare_reading scope r e) ∙ has.1)
]

pub no_reads : (scope : Scope) (names : Ref → ℕ) (leaves : List Bool) → scope.bare.items ≡ [] → scope.source.items ≡ [] → Reads scope names leaves
no_reads scope names leaves bare source r one is = absurd (no_reading scope r bare source (one, is))

-- the values of names at places
pub place_value : (v : Values) (names : List (List ℕ)) (place : ℕ) (name : List ℕ) (bits : List Bool) → AreBits (values_of v names) bits → IsAt names place name →
    v (name ∷ []) 0 ≡ bit_number (slice_index_or bits place false)
place_value v [] place name bits are at = nothing name at
place_value v (x ∷ xs) place name [] are at = cc
place_value v (x ∷ xs) zero name (b ∷ bits) are at =
    let same : x ≡ name = let f : Some x ≡ Some name = at in cc in
    let head : v (x ∷ []) 0 ≡ bit_number b = cc in
    ap (λ (y : List ℕ). v (y ∷ []) 0) (sym same) ∙ head
place_value v (x ∷ xs) (suc place) name (b ∷ bits) are at =
    let tail : values_of v xs ≡ map bit_number bits = cc in
    place_value v xs place name bits tail at

-- the value of an input and of a register among the leaves
pub input_value : (face : Interface) (s inp : Values) (leaves : List Bool) (place : ℕ) (name : List ℕ) → AreLeaves face s inp leaves → IsAt face.inputs place name →
    inp (name ∷ []) 0 ≡ bit_number (slice_index_or leaves place false)
input_value face s inp leaves place name are at = front inp face.inputs (values_of s face.registers) place name leaves are at
  where
    front : (v : Values) (names : List (List ℕ)) (others : List ℕ) (place : ℕ) (name : List ℕ) (bits : List Bool) → AreBits (values_of v names ++ others) bits → IsAt names place name →
        v (name ∷ []) 0 ≡ bit_number (slice_index_or bits place false)
    front v [] others place name bits are at = nothing name at
    front v (x ∷ xs) others place name [] are at = cc
    front v (x ∷ xs) others zero name (b ∷ bits) are at =
        let same : x ≡ name = let f : Some x ≡ Some name = at in cc in
        let head : v (x ∷ []) 0 ≡ bit_number b = cc in
        ap (λ (y : List ℕ). v (y ∷ []) 0) (sym same) ∙ head
    front v (x ∷ xs) others (suc place) name (b ∷ bits) are at =
        let tail : values_of v xs ++ others ≡ map bit_number bits = cc in
        front v xs others place name bits tail at

pub register_value : (face : Interface) (s inp : Values) (leaves : List Bool) (place : ℕ) (name : List ℕ) → AreLeaves face s inp leaves → IsAt face.registers place name →
    s (name ∷ []) 0 ≡ bit_number (slice_index_or leaves (length face.inputs + place) false)
register_value face s inp leaves place name are at = back inp face.inputs place name leaves are at
  where
    back : (v : Values) (names : List (List ℕ)) (place : ℕ) (name : List ℕ) (bits : List Bool) → AreBits (values_of v names ++ values_of s face.registers) bits → IsAt face.registers place name →
        s (name ∷ []) 0 ≡ bit_number (slice_index_or bits (length names + place) false)
    back v [] place name bits are at = place_value s face.registers place name bits are at ∙ ap (λ n. bit_number (slice_index_or bits n false)) (zero_plus place)
      where
        zero_plus : (n : ℕ) → n ≡ 0 + n
        zero_plus n = omega arith
    back v (x ∷ xs) place name [] are at = cc
    back v (x ∷ xs) place name (b ∷ bits) are at =
        let tail : values_of v xs ++ values_of s face.registers ≡ map bit_number bits = cc in
        back v xs place name bits tail at ∙ ap (λ n. bit_number (slice_index_or (b ∷ bits) n false)) (suc_plus (length xs) place)
      where
        suc_plus : (m n : ℕ) → suc (m + n) ≡ suc m + n
        suc_plus m n = omega arith

-- registers, numbered from a leaf on
leaf_found : (entries : List Entry) (n : ℕ) (names : List (List ℕ)) (name : List ℕ) (one : Reading) → entered entries ≡ leaves_from n names → find entries name ≡ Some one →
    (place : ℕ) × IsAt names place name × (one ≡ reading.Leaf (n + place))
leaf_found [] n names name one are some = nothing one some
leaf_found (e ∷ entries) n [] name one are some = cc
leaf_found (e ∷ entries) n (x ∷ names) name one are some = elim (cases_Bool (bytes_eq (string_bytes e.name) name)) [
  | inl same ↦
      let here : string_bytes e.name ≡ name = is_same_name (string_bytes e.name) name same in
      let pair : ◌≡◌ {A = Entered} (string_bytes e.name, e.reading) (x, reading.Leaf n) = cc in
      let there : string_bytes e.name ≡ x = ap (λ (p : Entered). p.0) pair in
      let leaf : e.reading ≡ reading.Leaf n = ap (λ (p : Entered). p.1) pair in
      let f : Some e.reading ≡ Some one = sym (taken same) ∙ some in
      let known : e.reading ≡ one = cc in
      (0, ap (λ (y : List ℕ). Some y) (sym there ∙ here), sym known ∙ leaf ∙ ap (λ m. reading.Leaf m) (plus_zero n))
  | inr other ↦
      let tail : entered entries ≡ leaves_from (suc n) names = cc in
      let more = leaf_found entries (suc n) names name one tail (sym (passed other) ∙ some) in
      (suc more.0, more.1, more.2 ∙ ap (λ m. reading.Leaf m) (suc_plus n more.0))
]
  where
    taken : bytes_eq (string_bytes e.name) name ≡ true → find (e ∷ entries) name ≡ Some e.reading
    taken h = rw h refl

    passed : bytes_eq (string_bytes e.name) name ≡ false → find (e ∷ entries) name ≡ find entries name
    passed h = rw h refl

    plus_zero : (n : ℕ) → n ≡ n + 0
    plus_zero n = omega arith

    suc_plus : (m n : ℕ) → suc m + n ≡ m + suc n
    suc_plus m n = omega arith

leaf_there : (entries : List Entry) (n : ℕ) (names : List (List ℕ)) (name : List ℕ) → entered entries ≡ leaves_from n names → IsIn name names → (one : Reading) × (find entries name ≡ Some one)
leaf_there [] n [] name are among = absurd among
leaf_there [] n (x ∷ names) name are among = cc
leaf_there (e ∷ entries) n [] name are among = absurd among
leaf_there (e ∷ entries) n (x ∷ names) name are among = elim (cases_Bool (bytes_eq (string_bytes e.name) name)) [
  | inl same ↦ (e.reading, rw same refl)
  | inr other ↦
      let pair : ◌≡◌ {A = Entered} (string_bytes e.name, e.reading) (x, reading.Leaf n) = cc in
      let there : string_bytes e.name ≡ x = ap (λ (p : Entered). p.0) pair in
      let tail : entered entries ≡ leaves_from (suc n) names = cc in
      let more = leaf_there entries (suc n) names name tail (later other there among) in
      (more.0, passed other ∙ more.1)
]
  where
    passed : bytes_eq (string_bytes e.name) name ≡ false → find (e ∷ entries) name ≡ find entries name
    passed h = rw h refl

    later : bytes_eq (string_bytes e.name) name ≡ false → string_bytes e.name ≡ x → IsIn name (x ∷ names) → IsIn name names
    later off there (inl same) = let f : true ≡ false = sym (same_name (string_bytes e.name) name (there ∙ sym same)) ∙ off in absurd cc
    later off there (inr more) = more

-- a scope has the names that may stand somewhere, each with the value that it has there
pub record IsScope (face : Interface) (Names : Ref → Type 0) (names : Values → Values → Ref → ℕ) (scope : Scope) : Type 0 where
  pub reads : (s inp : Values) (leaves : List Bool) → AreLeaves face s inp leaves → Reads scope (names s inp) leaves
  pub has : (r : Ref) → Names r → HasReading scope r
  pub only : (r : Ref) → HasReading scope r → Names r

-- the scope of the registers
pub registers_scope : (face : Interface) (scope : Scope) → HasRegisters (length face.inputs) face.registers scope → IsScope face (IsSourceRegister face.registers) (λ s inp. source_names s) scope
registers_scope face scope has = record {
  reads = λ s inp leaves are r one is. elim (cases_Bool r.source) [
    | inl e ↦ rw e (reads s inp leaves are r.path one (sym (source_reading scope r e) ∙ is))
    | inr e ↦ absurd (no_path scope.bare.items r.path one has.bare (sym (bare_reading scope r e) ∙ is))
  ];
  has = λ r is.
      let there = leaf_there scope.source.items (length face.inputs) face.registers is.1.0 has.source is.1.2 in
      (there.0, source_reading scope r is.0 ∙ ap (find_path scope.source.items) is.1.1 ∙ there.1);
  only = λ r is. elim (cases_Bool r.source) [
    | inl e ↦ (e, found r.path is.0 (sym (source_reading scope r e) ∙ is.1))
    | inr e ↦ absurd (no_path scope.bare.items r.path is.0 has.bare (sym (bare_reading scope r e) ∙ is.1))
  ];
}
  where
    found : (path : Path) (one : Reading) → find_path scope.source.items path ≡ Some one → (name : List ℕ) × (path ≡ name ∷ []) × IsIn name face.registers
    found [] one some = nothing one some
    found (name ∷ []) one some =
        let f = leaf_found scope.source.items (length face.inputs) face.registers name one has.source some in
        (name, refl, get_in face.registers f.0 name f.1)
    found (name ∷ other ∷ more) one some = nothing one some

    reads : (s inp : Values) (leaves : List Bool) → AreLeaves face s inp leaves → (path : Path) (one : Reading) → find_path scope.source.items path ≡ Some one → s path 0 ≡ reading_number one leaves
    reads s inp leaves are [] one some = nothing one some
    reads s inp leaves are (name ∷ []) one some =
        let f = leaf_found scope.source.items (length face.inputs) face.registers name one has.source some in
        register_value face s inp leaves f.0 name are f.1 ∙ ap (λ (r : Reading). reading_number r leaves) (sym f.2)
    reads s inp leaves are (name ∷ other ∷ more) one some = nothing one some

-- the value of a state's row is that of its leaf
shown_name : (e : Tree) (name : List ℕ) (s : Values) → IsSourceName e name → table_value e (source_names s) ≡ s (name ∷ []) 0
shown_name (whole of) name s is = rw is.0 (ap (λ (q : List (List ℕ)). s q 0) is.1)
shown_name (number n width at) name s is = absurd is
shown_name (negation e at) name s is = absurd is
shown_name (binary o a b at) name s is = absurd is
shown_name (choice test first second at) name s is = absurd is
shown_name (bit of place at) name s is = absurd is
shown_name (slice of high low at) name s is = absurd is
shown_name (index of place at) name s is = absurd is
shown_name (concat parts at) name s is = absurd is

pub shown_value : (face : Interface) (row : StateTree) (state : Shown) (s inp : Values) (leaves : List Bool) → IsShown face row state → AreLeaves face s inp leaves →
    table_value row.shown (source_names s) ≡ bit_number (slice_index_or leaves state.leaf false)
shown_value face row state s inp leaves is are =
    shown_name row.shown is.register s is.shows ∙ register_value face s inp leaves is.place is.register are is.at ∙ ap (λ n. bit_number (slice_index_or leaves n false)) (sym is.leaf)

-- the entries of states: the first under a name is that of the first state with it
pub record IsEntered (face : Interface) (rows : List StateTree) (states : List Shown) (name : List ℕ) (leaf : ℕ) : Type 0 where
  pub among : IsIn name (map (λ (row : StateTree). row.name) rows)
  pub value_is : (s inp : Values) (leaves : List Bool) → AreLeaves face s inp leaves →
      state_value rows (map (λ (row : StateTree). table_value row.shown (source_names s)) rows) name ≡ bit_number (slice_index_or leaves leaf false)

pub entered_under : (face : Interface) (rows : List StateTree) (states : List Shown) (name : List ℕ) (leaf : ℕ) → AreEach (IsShown face) rows states → leaf_under states name ≡ Some leaf →
    IsEntered face rows states name leaf
entered_under face [] [] name leaf each under = nothing leaf under
entered_under face [] (x ∷ states) name leaf each under = absurd each
entered_under face (row ∷ rows) [] name leaf each under = absurd each
entered_under face (row ∷ rows) (x ∷ states) name leaf each under = elim (cases_Bool (bytes_eq (string_bytes x.name) name)) [
  | inl same ↦
      let here : string_bytes x.name ≡ name = is_same_name (string_bytes x.name) name same in
      let f : Some x.leaf ≡ Some leaf = sym (taken same) ∙ under in
      let known : x.leaf ≡ leaf = cc in
      let row_named : bytes_eq row.name name ≡ true = same_name row.name name (sym each.0.named ∙ here) in
      record {
        among = inl (sym here ∙ each.0.named);
        value_is = λ s inp leaves are. rw row_named (shown_value face row x s inp leaves each.0 are ∙ ap (λ n. bit_number (slice_index_or leaves n false)) known);
      }
  | inr other ↦
      let more = entered_under face rows states name leaf each.1 (sym (passed other) ∙ under) in
      let row_named : bytes_eq row.name name ≡ false = ap (λ (n : List ℕ). bytes_eq n name) (sym each.0.named) ∙ other in
      record {
        among = inr more.among;
        value_is = λ s inp leaves are. rw row_named (more.value_is s inp leaves are);
      }
]
  where
    taken : bytes_eq (string_bytes x.name) name ≡ true → leaf_under (x ∷ states) name ≡ Some x.leaf
    taken h = rw h refl

    passed : bytes_eq (string_bytes x.name) name ≡ false → leaf_under (x ∷ states) name ≡ leaf_under states name
    passed h = rw h refl

-- the names of the states are those of the rows
pub names_shown : (face : Interface) (rows : List StateTree) (states : List Shown) → AreEach (IsShown face) rows states →
    map (λ (x : Shown). string_bytes x.name) states ≡ map (λ (row : StateTree). row.name) rows
names_shown face [] [] each = refl
names_shown face [] (x ∷ states) each = absurd each
names_shown face (row ∷ rows) [] each = absurd each
names_shown face (row ∷ rows) (x ∷ states) each = ap₂ (λ (n : List ℕ) (ns : List (List ℕ)). n ∷ ns) each.0.named (names_shown face rows states each.1)

-- the first entry under a name, in a list of entries
abbrev pub first_entry : List Entered → List ℕ → Option Reading
first_entry [] name = None
first_entry (e ∷ entries) name = if bytes_eq e.0 name then Some e.1 else first_entry entries name

pub find_entered : (entries : List Entry) (name : List ℕ) → find entries name ≡ first_entry (entered entries) name
find_entered [] name = refl
find_entered (e ∷ entries) name = ap (λ (more : Option Reading). if bytes_eq (string_bytes e.name) name then Some e.reading else more) (find_entered entries name)

abbrev pub leaf_reading : Option ℕ → Option Reading
leaf_reading None = None
leaf_reading (Some leaf) = Some (reading.Leaf leaf)

pub first_state : (states : List Shown) (name : List ℕ) → first_entry (state_entries states) name ≡ leaf_reading (leaf_under states name)
first_state [] name = refl
first_state (x ∷ states) name = elim (cases_Bool (bytes_eq (string_bytes x.name) name)) [
  | inl same ↦ rw same refl
  | inr other ↦ rw other (first_state states name)
]

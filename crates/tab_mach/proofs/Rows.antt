-- Names that rows add, one behind another.
use Rattle.std.proofs.Common.{◌≡◌, ◌<◌, ◌+◌, ℕ, List, [], ◌∷◌, ◌++◌, map, drop, length, Option, Some, None, refl, ap, ◌∙◌}
use Rattle.std.specs.Prelude.{bytes_eq, if◌then◌else◌}
use Rattle.std.specs.Prelude.{get_or}
use Rattle.lola_bits.specs.declared.vector.Bits.{Bits}
use Rattle.lola_bits.proofs.Places.{drop_item}
use Rattle.lola_tree.specs.Tree.{tree}
use Rattle.tab_tree.specs.declared.table.LetRow.{LetRow}
use Rattle.tab_tree.specs.declared.table.StateRow.{StateRow}
use Rattle.tab_tree.specs.declared.value.StateValue.{StateValue}
use Rattle.tab_tree.specs.declared.value.StateValue.TheVariants.{One}
use Rattle.tab_tree.specs.Table.{LetTree, TableTree, let_tree, state_tree}
use Rattle.tab_tree.specs.Names.{Names, nothing, no_names, mapped, table_vector, with_name, with_rows}
use Rattle.tab_tree.specs.Step.{Arch, first_of, state_value, field_values}
use Rattle.tab_mach.specs.declared.known.Given.{Given}
use Rattle.tab_mach.specs.declared.known.Known.{Known}
use Rattle.tab_mach.specs.Known.{slot, last_value, base_value, names_of}
use Rattle.tab_mach.specs.Begun.{AreFields}

-- the last of some rows and one more
last_more : (gs : List Given) (g : Given) (name : List ℕ) (before : Option StateValue) →
    last_value (gs ++ g ∷ []) name before ≡ (if bytes_eq g.name.now name then mapped One g.value else last_value gs name before)
last_more [] g name before = refl
last_more (h ∷ gs) g name before = last_more gs g name (if bytes_eq h.name.now name then mapped One h.value else before)

-- what names stand for, with another list of LETs
abbrev pub with_lets : Known → List Given → Names StateValue
with_lets k gs = record (names_of k) { named = λ name. last_value gs name (base_value k name) }

pub names_more : (k : Known) (gs : List Given) (g : Given) → gs ≡ k.lets.items ++ g ∷ [] → with_lets k gs ≡ with_name (names_of k) g.name.now (mapped One g.value)
names_more k gs g e =
    ap (λ (f : List ℕ → Option StateValue). let names : Names StateValue = record (names_of k) { named = f } in names)
    (λ i name. (ap (λ hs. last_value hs name (base_value k name)) e ∙ last_more k.lets.items g name (base_value k name)) i)

-- one row of those that are left
pub rows_step : (rows : List LetRow) (i : ℕ) (row : LetRow) → i < length rows → row ≡ get_or rows i row → (names : Names StateValue) →
    with_rows (map let_tree (drop i rows)) names ≡ with_rows (map let_tree (drop (i + 1) rows)) (with_name names row.name (mapped One (table_vector names (tree row.value))))
rows_step rows i row within is names = ap (λ (l : List LetRow). with_rows (map let_tree l) names) (drop_item rows i row within is)

-- names by their parts, without registers
abbrev pub names_with : Bits → Option StateValue → (ℕ → Option StateValue) → (ℕ → Option StateValue) → (List ℕ → Option StateValue) → Names StateValue
names_with word count loaded turned named = record { word = Some (One word); count = count; loaded = loaded; turned = turned; named = named; register = nothing }

pub names_by : (word : Bits) (a b : Option StateValue) (f g u v : ℕ → Option StateValue) (h k : List ℕ → Option StateValue) → a ≡ b → f ≡ g → u ≡ v → h ≡ k →
    names_with word a f u h ≡ names_with word b g v k
names_by word a b f g u v h k p q r s = λ i. names_with word (p i) (q i) (r i) (s i)

pub slots_by : (xs ys : List (Option Bits)) → xs ≡ ys →
    (let f : ℕ → Option StateValue = λ j. mapped One (slot xs j) in f) ≡ (let g : ℕ → Option StateValue = λ j. mapped One (slot ys j) in g)
slots_by xs ys e = ap {B = ℕ → Option StateValue} (λ (zs : List (Option Bits)) (j : ℕ). let x : Option StateValue = mapped One (slot zs j) in x) e

-- a state or a field of an instruction, before its LETs
pub named_by : (T : TableTree) (A : Arch) (word : Bits) (states : List StateRow) (fields lets : List Given) → map state_tree states ≡ T.states → AreFields T word fields → lets ≡ [] →
    (let f : List ℕ → Option StateValue = λ name. last_value lets name (first_of (state_value (map state_tree states) A name) (last_value fields name None)) in f)
    ≡ (let g : List ℕ → Option StateValue = λ name. first_of (state_value T.states A name) (field_values T word name) in g)
named_by T A word states fields lets same are none = λ i name. (
    ap (λ gs. last_value gs name (first_of (state_value (map state_tree states) A name) (last_value fields name None))) none
    ∙ ap (λ rows. first_of (state_value rows A name) (last_value fields name None)) same
    ∙ ap (first_of (state_value T.states A name)) (are name)
    ) i

-- the names of the word alone, before the fields
pub names_fields : (word : Bits) (lets : List Given) → lets ≡ [] → (rows : List LetTree) →
    with_rows rows (names_with word None nothing nothing (λ name. last_value lets name None)) ≡ with_rows rows (record no_names { word = Some (One word) })
names_fields word lets none rows =
    ap (with_rows rows) (ap (λ (gs : List Given). names_with word None nothing nothing (λ name. last_value gs name None)) none)

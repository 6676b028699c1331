-- What the names of a table stand for, and what a module's names are.
use Rattle.std.proofs.Common.{◌≡◌, ℕ, suc, ◌+◌, ◌≤◌, Bool, true, false, cond, nat_lt, List, [], ◌∷◌, ◌++◌, map, Option, Some, None, refl, sym, ◌∙◌, ap, ap₂, subst, arith, inl, inr, ◌⊎◌}
use Rattle.std.specs.Prelude.{bytes_eq, if◌then◌else◌, slice_get}
use Rattle.std.specs.List.{AllByRecursion}
use Rattle.std.proofs.lemmas.Bool.{cases_Bool, cond-true, cond-false}
use Rattle.lola_bits.specs.Vector.{FitsWidth}
use Rattle.lola_bits.proofs.Options.{none_or_some}
use Rattle.lola_bits.specs.Lists.{IsIn, AreDistinct}
use Rattle.lola_bits.proofs.All.{of_all}
use Rattle.lola_bits.proofs.Lists.{from_map, to_map, in_either}
use Rattle.lola_bits.proofs.Names.{same_name, is_same_name}
use Rattle.lola_tree.specs.declared.named.Count.{Count}
use Rattle.lola_tree.specs.declared.named.Count.TheVariants as count
use Rattle.lola_tree.specs.declared.named.Ref.{Ref}
use Rattle.lola_tree.specs.declared.module.Const.{Const}
use Rattle.lola_tree.specs.Tree.{ModuleTree}
use Rattle.lola_tree.specs.Names.{Entry, port, constant, local, entry_name, entry_at, entries, earlier, first_named, names_of, first_name, constant_number, count_number}
use Rattle.lola_tree.specs.Width.{number_width, written_width, entry_width, scope_of}
use Rattle.lola_elab.specs.declared.meaning.Meaning.{Meaning}
use Rattle.lola_elab.specs.declared.meaning.Meaning.TheVariants as meaning
use Rattle.lola_elab.specs.Small.{IsReadable, IsSmallConst}
use Rattle.lola_elab.specs.Declares.{Sized, const_entry}
use Rattle.lola_elab.specs.Tables.{updated, leaf_entries}
use Rattle.lola_elab.specs.Meanings.{Meanings, path_meaning, meaning_of, constant_of, count_of, IsVector, AreVectors, AreOf}
use Rattle.lola_elab.proofs.Entries.{const_named}
use Rattle.lola_elab.proofs.Widths.{number_in, number_fits}

-- what is found was there before, or is entered
pub updated_in : {X : Type 0} (es : List (List ℕ × X)) (q : List ℕ) (m : Option X) (x : X) → updated es q m ≡ Some x → IsIn (q, x) es ⊎ (m ≡ Some x)
updated_in [] q m x e = inr e
updated_in {X = X} (y ∷ ys) q m x e = elim (updated_in ys q (if bytes_eq y.0 q then Some y.1 else m) x e) [
  | inl later ↦ inl (inr later)
  | inr here ↦ elim (cases_Bool (bytes_eq y.0 q)) [
    | inl same ↦
        let f : Some y.1 ≡ Some x = sym (cond-true (bytes_eq y.0 q) (Some y.1) m same) ∙ here in
        let g : y.1 ≡ x = cc in
        inl (inl (ap₂ (λ (n : List ℕ) (z : X). (n, z)) (sym (is_same_name y.0 q same)) (sym g)))
    | inr other ↦ inr (sym (cond-false (bytes_eq y.0 q) (Some y.1) m other) ∙ here)
  ]
]

-- a name that is entered is found, and so is what was there
pub updated_some : {X : Type 0} (es : List (List ℕ × X)) (q : List ℕ) (x : X) → (z : X) × (updated es q (Some x) ≡ Some z)
updated_some [] q x = (x, refl)
updated_some (y ∷ ys) q x = elim (cases_Bool (bytes_eq y.0 q)) [
  | inl same ↦ let f = updated_some ys q y.1 in (f.0, ap (updated ys q) (cond-true (bytes_eq y.0 q) (Some y.1) (Some x) same) ∙ f.1)
  | inr other ↦ let f = updated_some ys q x in (f.0, ap (updated ys q) (cond-false (bytes_eq y.0 q) (Some y.1) (Some x) other) ∙ f.1)
]

pub updated_there : {X : Type 0} (es : List (List ℕ × X)) (q : List ℕ) (m : Option X) (x : X) → IsIn (q, x) es → (z : X) × (updated es q m ≡ Some z)
updated_there [] q m x is = absurd is
updated_there {X = X} (y ∷ ys) q m x (inl same) =
    let here : bytes_eq y.0 q ≡ true = same_name y.0 q (sym (ap (λ (p : List ℕ × X). p.0) same)) in
    let f = updated_some ys q y.1 in
    (f.0, ap (updated ys q) (cond-true (bytes_eq y.0 q) (Some y.1) m here) ∙ f.1)
updated_there (y ∷ ys) q m x (inr later) = updated_there ys q (if bytes_eq y.0 q then Some y.1 else m) x later

-- a leaf by its number
pub leaf_in : (k : ℕ) (vs : List Sized) (q : List ℕ) (n w : ℕ) → IsIn (q, meaning.Leaf n w) (leaf_entries k vs) → (i : ℕ) × (n ≡ k + i) × (slice_get vs i ≡ Some (q, w))
leaf_in k [] q n w is = absurd is
leaf_in k (v ∷ vs) q n w (inl same) =
    let names : q ≡ v.0 = ap (λ (p : List ℕ × Meaning). p.0) same in
    let leaves : meaning.Leaf n w ≡ meaning.Leaf k v.1 = ap (λ (p : List ℕ × Meaning). p.1) same in
    let number : n ≡ k = cc in
    let wide : w ≡ v.1 = cc in
    let none : k + 0 ≡ k = omega arith in
    (0, number ∙ sym none, ap₂ (λ (a : List ℕ) (b : ℕ). Some (a, b)) (sym names) (sym wide))
leaf_in k (v ∷ vs) q n w (inr later) =
    let f = leaf_in (suc k) vs q n w later in
    let more : suc k + f.0 ≡ k + suc f.0 = omega arith in
    (suc f.0, f.1 ∙ more, f.2)

pub no_constant_leaf : (k : ℕ) (vs : List Sized) (q : List ℕ) (w v : ℕ) → IsIn (q, meaning.Constant w v) (leaf_entries k vs) → ⊥
no_constant_leaf k [] q w v is = is
no_constant_leaf k (x ∷ xs) q w v (inl same) = let f : meaning.Constant w v ≡ meaning.Leaf k x.1 = ap (λ (p : List ℕ × Meaning). p.1) same in cc
no_constant_leaf k (x ∷ xs) q w v (inr later) = no_constant_leaf (suc k) xs q w v later

pub leaf_there : (k : ℕ) (vs : List Sized) (q : List ℕ) (w : ℕ) → IsIn (q, w) vs → (n : ℕ) × IsIn (q, meaning.Leaf n w) (leaf_entries k vs)
leaf_there k [] q w is = absurd is
leaf_there k (v ∷ vs) q w (inl same) =
    let names : q ≡ v.0 = ap (λ (p : Sized). p.0) same in
    let wide : w ≡ v.1 = ap (λ (p : Sized). p.1) same in
    (k, inl (ap₂ (λ (a : List ℕ) (b : ℕ). (a, meaning.Leaf k b)) names wide))
leaf_there k (v ∷ vs) q w (inr later) = let f = leaf_there (suc k) vs q w later in (f.0, inr f.1)

-- what a name of a table stands for in a module
abbrev pub Stands : ModuleTree → List ℕ → Meaning → Type 0
Stands m q (meaning.Leaf n w) = IsReadable m q × (entry_width (names_of m) (names_of m q) ≡ Some w) × (constant_number (names_of m q) ≡ None) × (1 ≤ w) × (w ≤ 128)
Stands m q (meaning.Constant w v) = (c : Const) × IsIn c m.consts × (q ≡ c.name) × (v ≡ c.value) × (w ≡ written_width c.width) × FitsWidth w v

pub record IsTableOf (m : ModuleTree) (names : Meanings) : Type 0 where
  pub sound : (q : List ℕ) (x : Meaning) → names q ≡ Some x → Stands m q x
  pub constants : (c : Const) → IsIn c m.consts → (x : Meaning) × (names c.name ≡ Some x)

-- constants alone
pub const_stands : (m : ModuleTree) (q : List ℕ) (x : Meaning) → AllByRecursion IsSmallConst m.consts → IsIn (q, x) (map const_entry m.consts) → Stands m q x
const_stands m q x fit is =
    let f = from_map const_entry (q, x) m.consts is in
    let small = of_all IsSmallConst f.0 m.consts fit f.1 in
    let fits = number_in f.0.value f.0.width small.width small.is in
    let is_constant : x ≡ meaning.Constant (written_width f.0.width) f.0.value = ap (λ (p : List ℕ × Meaning). p.1) f.2 in
    subst (λ (y : Meaning). Stands m q y) (sym is_constant)
    (f.0, f.1, ap (λ (p : List ℕ × Meaning). p.0) f.2, refl, refl, subst (λ (w : ℕ). FitsWidth w f.0.value) (sym fits.0) fits.1)

pub const_table : (m : ModuleTree) (names : Meanings) → AllByRecursion IsSmallConst m.consts → ((q : List ℕ) → names q ≡ updated (map const_entry m.consts) q None) → IsTableOf m names
const_table m names fit is = record {
  sound = λ q x e. elim (updated_in (map const_entry m.consts) q None x (sym (is q) ∙ e)) [
    | inl there ↦ const_stands m q x fit there
    | inr none ↦ absurd (let f : None ≡ Some x = none in cc)
  ];
  constants = λ c there.
      let f = updated_there (map const_entry m.consts) c.name None (meaning.Constant (written_width c.width) c.value) (to_map const_entry c m.consts there) in
      (f.0, is c.name ∙ f.1);
}

-- counts are those of the module
no_constant : (o : Option Entry) → ((c : Const) → o ≡ Some (constant c) → ⊥) → constant_number o ≡ None
no_constant None none = refl
no_constant (Some (port p)) none = refl
no_constant (Some (constant c)) none = absurd (none c refl)
no_constant (Some (local l)) none = refl

-- the earlier of two is one of them
of_cond : (b : Bool) (x f e : Entry) → cond b (Some f) (Some x) ≡ Some e → (Some x ≡ Some e) ⊎ (Some f ≡ Some e)
of_cond true x f e is = inr is
of_cond false x f e is = inl is

of_two : (a o : Option Entry) (e : Entry) → earlier a o ≡ Some e → (a ≡ Some e) ⊎ (o ≡ Some e)
of_two None o e is = inr is
of_two (Some x) None e is = inl is
of_two (Some x) (Some f) e is = of_cond (nat_lt (entry_at f) (entry_at x)) x f e is

found_here : (b : Bool) (x e : Entry) → cond b (Some x) None ≡ Some e → (b ≡ true) × (e ≡ x)
found_here true x e is = (refl, cc)
found_here false x e is = absurd (cc)

pub first_in : (es : List Entry) (q : List ℕ) (e : Entry) → first_named es q ≡ Some e → IsIn e es × (q ≡ entry_name e)
first_in [] q e is = absurd (let f : None ≡ Some e = is in cc)
first_in (x ∷ xs) q e is = elim (of_two (cond (bytes_eq (entry_name x) q) (Some x) None) (first_named xs q) e is) [
  | inl here ↦
      let f = found_here (bytes_eq (entry_name x) q) x e here in
      (inl f.1, sym (is_same_name (entry_name x) q f.0) ∙ ap entry_name (sym f.1))
  | inr later ↦
      let f = first_in xs q e later in
      (inr f.0, f.1)
]

const_in : (m : ModuleTree) (c : Const) → IsIn (constant c) (entries m) → IsIn c m.consts
const_in m c is = elim (in_either (constant c) (map port m.ports) (map constant m.consts ++ map local m.locals) is) [
  | inl ports ↦ let f = from_map port (constant c) m.ports ports in absurd (let g : constant c ≡ port f.0 = f.2 in cc)
  | inr more ↦ elim (in_either (constant c) (map constant m.consts) (map local m.locals) more) [
    | inl consts ↦
        let f = from_map constant (constant c) m.consts consts in
        let g : constant c ≡ constant f.0 = f.2 in
        let same : c ≡ f.0 = cc in
        subst (λ (k : Const). IsIn k m.consts) (sym same) f.1
    | inr locals ↦ let f = from_map local (constant c) m.locals locals in absurd (let g : constant c ≡ local f.0 = f.2 in cc)
  ]
]

stands_number : (m : ModuleTree) (q : List ℕ) (x : Meaning) → AreDistinct (map entry_name (entries m)) → Stands m q x → constant_number (names_of m q) ≡ constant_of (Some x)
stands_number m q (meaning.Leaf n w) distinct s = s.2
stands_number m q (meaning.Constant w v) distinct s = ap (λ (n : List ℕ). constant_number (names_of m n)) s.2 ∙ ap constant_number (const_named m s.0 distinct s.1) ∙ ap (λ (k : ℕ). Some k) (sym s.3)

named_number : (m : ModuleTree) (names : Meanings) (q : List ℕ) → AreDistinct (map entry_name (entries m)) → IsTableOf m names → constant_number (names_of m q) ≡ constant_of (names q)
named_number m names q distinct table = elim (none_or_some (names q)) [
  | inl none ↦
      no_constant (names_of m q) (λ c e.
      let f = first_in (entries m) q (constant c) e in
      let g = table.constants c (const_in m c f.0) in
      let h : None ≡ Some g.0 = sym none ∙ ap names f.1 ∙ g.1 in
      cc) ∙ ap constant_of (sym none)
  | inr some ↦ stands_number m q some.0 distinct (table.sound q some.0 some.1) ∙ ap constant_of (sym some.1)
]

pub counts_are : (m : ModuleTree) (names : Meanings) → AreDistinct (map entry_name (entries m)) → IsTableOf m names → (c : Count) → count_number (names_of m) c ≡ count_of names c
counts_are m names distinct table (count.Fixed value at) = refl
counts_are m names distinct table (count.Const name) = named_number m names name.name distinct table

-- references to what a table has
path_is : (names : Meanings) (path : List (List ℕ)) (x : Meaning) → path_meaning names path ≡ Some x → (name : List ℕ) × (path ≡ name ∷ []) × (names name ≡ Some x)
path_is names [] x e = absurd (let f : None ≡ Some x = e in cc)
path_is names (name ∷ []) x e = (name, refl, e)
path_is names (name ∷ other ∷ more) x e = absurd (let f : None ≡ Some x = e in cc)

pub reference_is : (names : Meanings) (r : Ref) (x : Meaning) → meaning_of names r ≡ Some x → (r.source ≡ false) × ((name : List ℕ) × (r.path ≡ name ∷ []) × (names name ≡ Some x))
reference_is names r x e = elim (cases_Bool r.source) [
  | inl source ↦ absurd (let f : None ≡ Some x = sym (cond-true r.source None (path_meaning names r.path) source) ∙ e in cc)
  | inr bare ↦ (bare, path_is names r.path x (sym (cond-false r.source None (path_meaning names r.path) bare) ∙ e))
]

pub is_reference : (names : Meanings) (r : Ref) (name : List ℕ) (x : Meaning) → r.source ≡ false → r.path ≡ name ∷ [] → names name ≡ Some x → meaning_of names r ≡ Some x
is_reference names r name x bare path is = cond-false r.source None (path_meaning names r.path) bare ∙ ap (path_meaning names) path ∙ is

vector_of : (m : ModuleTree) (q : List ℕ) (x : Meaning) → Stands m q x → IsVector x
vector_of m q (meaning.Leaf n w) s = (s.3, s.4)
vector_of m q (meaning.Constant w v) s = s.5

pub are_vectors : (m : ModuleTree) (names : Meanings) → IsTableOf m names → AreVectors names
are_vectors m names table = record { each = λ q x e. vector_of m q x (table.sound q x e) }

-- the names of a table are the module's, where its leaves have these widths
pub are_of : (m : ModuleTree) (names : Meanings) (widths : List ℕ) → AreDistinct (map entry_name (entries m)) → IsTableOf m names →
    ((q : List ℕ) (n w : ℕ) → names q ≡ Some (meaning.Leaf n w) → slice_get widths n ≡ Some w) → AreOf names (scope_of m) widths
are_of m names widths distinct table leaves = record {
  counts = counts_are m names distinct table;
  leaf = λ r n w e.
      let f = reference_is names r (meaning.Leaf n w) e in
      let s = table.sound f.1.0 (meaning.Leaf n w) f.1.2 in (
        ap (λ (p : List (List ℕ)). entry_width (names_of m) (names_of m (first_name p))) f.1.1 ∙ s.1,
        ap (λ (p : List (List ℕ)). constant_number (names_of m (first_name p))) f.1.1 ∙ s.2,
        leaves f.1.0 n w f.1.2,
      );
  constant = λ r w v e.
      let f = reference_is names r (meaning.Constant w v) e in
      let s = table.sound f.1.0 (meaning.Constant w v) f.1.2 in
      let named : names_of m f.1.0 ≡ Some (constant s.0) = ap (names_of m) s.2 ∙ const_named m s.0 distinct s.1 in (
        ap (λ (p : List (List ℕ)). entry_width (names_of m) (names_of m (first_name p))) f.1.1 ∙ ap (entry_width (names_of m)) named ∙ constant_width s.0 w v s.3 s.4 s.5,
        ap (λ (p : List (List ℕ)). constant_number (names_of m (first_name p))) f.1.1 ∙ ap constant_number named ∙ ap (λ (k : ℕ). Some k) (sym s.3),
      );
}
  where
    constant_width : (c : Const) (w v : ℕ) → v ≡ c.value → w ≡ written_width c.width → FitsWidth w v → number_width c.value c.width ≡ Some w
    constant_width c w v value wide fits =
        number_fits c.value c.width (subst (λ (n : ℕ). FitsWidth n c.value) wide (subst (λ (n : ℕ). FitsWidth w n) value fits)) ∙ ap (λ (k : ℕ). Some k) (sym wide)

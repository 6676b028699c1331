-- The names of a module each of which is declared once.
use Rattle.std.proofs.Common.{◌≡◌, ◌≢◌, ℕ, ◌+◌, ◌≤◌, Bool, true, false, cond, List, [], ◌∷◌, ◌++◌, map, Option, Some, None, refl, sym, ◌∙◌, ap, ap₂, subst, inl, inr, ◌⊎◌, arith}
use Rattle.std.specs.Prelude.{bytes_eq, nat_lt}
use Rattle.std.proofs.lemmas.Bool.{cond-true, cond-false, cases_Bool}
use Rattle.lola_bits.specs.Lists.{IsIn, AreDistinct}
use Rattle.lola_bits.proofs.Lists.{both_none, in_front, in_back, in_either, to_map, from_map}
use Rattle.lola_bits.proofs.Names.{same_name, is_same_name, other_name}
use Rattle.lola_bits.proofs.Tests.{not_both}
use Rattle.lola_tree.specs.declared.module.Port.{Port}
use Rattle.lola_tree.specs.declared.module.Const.{Const}
use Rattle.lola_tree.specs.declared.module.Local.{Local}
use Rattle.lola_tree.specs.Tree.{ModuleTree}
use Rattle.lola_tree.specs.Names.{Entry, port, constant, local, entry_name, entry_at, entries, earlier, first_named, Names, names_of}
use Rattle.lola_width.specs.NameFaults.{no_names, names_with, doubled, doubled_faults}
use Rattle.lola_design.specs.Paths.{one_if}
use Rattle.lola_design.specs.Once.{name_count, AreNamesOnce}

-- no name is declared twice
neither : (a b : Option Entry) → earlier a b ≡ None → (a ≡ None) × (b ≡ None)
neither None b e = (refl, e)
neither (Some x) None e = absurd (cc)
neither (Some x) (Some y) e = absurd (go (nat_lt (entry_at y) (entry_at x)) e) where
  go : (b : Bool) → cond b (Some y) (Some x) ≡ None → ⊥
  go true e = cc
  go false e = cc

not_here : (b : Bool) (x : Entry) → cond b (Some x) None ≡ None → b ≡ false
not_here false x e = refl
not_here true x e = absurd (cc)

none_before : (o : Option Entry) (at : ℕ) (name : List ℕ) → doubled o at name ≡ [] → o ≡ None
none_before None at name e = refl
none_before (Some x) at name e = absurd (cc)

distinct_names : (names : Names) (es : List Entry) → doubled_faults names es ≡ [] →
    AreDistinct (map entry_name es) × ((n : List ℕ) → IsIn n (map entry_name es) → names n ≡ None)
distinct_names names [] none = (tt, λ n among. absurd among)
distinct_names names (e ∷ es) none =
    let split = both_none (doubled (names (entry_name e)) (entry_at e) (entry_name e)) (doubled_faults (names_with names (entry_name e) e) es) none in
    let ih = distinct_names (names_with names (entry_name e) e) es split.1 in
    let apart : (n : List ℕ) → IsIn n (map entry_name es) → (names n ≡ None) × (entry_name e ≢ n) = λ n among.
    let two = neither (names n) (cond (bytes_eq (entry_name e) n) (Some e) None) (ih.1 n among) in
    (two.0, λ same. not_both (same_name (entry_name e) n same) (not_here (bytes_eq (entry_name e) n) e two.1)) in (
      (λ among. (apart (entry_name e) among).1 refl, ih.0),
      λ n among. elim among [
        | inl same ↦ ap names same ∙ none_before (names (entry_name e)) (entry_at e) (entry_name e) split.0
        | inr later ↦ (apart n later).0
      ],
    )

pub are_distinct : (m : ModuleTree) → doubled_faults no_names (entries m) ≡ [] → AreDistinct (map entry_name (entries m))
are_distinct m none = (distinct_names no_names (entries m) none).0

-- how often names come
pub name_count_append : (n : List ℕ) (xs ys : List (List ℕ)) → name_count n (xs ++ ys) ≡ name_count n xs + name_count n ys
name_count_append n [] ys = omega arith
name_count_append n (x ∷ xs) ys = let e : name_count n (xs ++ ys) ≡ name_count n xs + name_count n ys = name_count_append n xs ys in omega arith

pub absent_count : (n : List ℕ) (xs : List (List ℕ)) → (IsIn n xs → ⊥) → name_count n xs ≡ 0
absent_count n [] none = refl
absent_count n (x ∷ xs) none =
    let h = absent_count n xs (λ later. none (inr later)) in
    let e : one_if (bytes_eq x n) ≡ 0 = ap one_if (other_name x n (λ same. none (inl (sym same)))) in
    omega arith

pub present_count : (n : List ℕ) (xs : List (List ℕ)) → IsIn n xs → 1 ≤ name_count n xs
present_count n [] is = absurd is
present_count n (x ∷ xs) (inl same) = let e : one_if (bytes_eq x n) ≡ 1 = ap one_if (same_name x n (sym same)) in omega arith
present_count n (x ∷ xs) (inr later) = let h = present_count n xs later in omega arith

pub counted_in : (n : List ℕ) (xs : List (List ℕ)) → 1 ≤ name_count n xs → IsIn n xs
counted_in n [] some = absurd (omega arith)
counted_in n (x ∷ xs) some = elim (cases_Bool (bytes_eq x n)) [
  | inl same ↦ inl (sym (is_same_name x n same))
  | inr other ↦ let e : one_if (bytes_eq x n) ≡ 0 = ap one_if other in inr (counted_in n xs (omega arith))
]

pub distinct_count : (n : List ℕ) (xs : List (List ℕ)) → AreDistinct xs → name_count n xs ≤ 1
distinct_count n [] distinct = omega arith
distinct_count n (x ∷ xs) distinct = elim (cases_Bool (bytes_eq x n)) [
  | inl same ↦
      let one : one_if (bytes_eq x n) ≡ 1 = ap one_if same in
      let none = absent_count n xs (λ later. distinct.0 (subst (λ (k : List ℕ). IsIn k xs) (sym (is_same_name x n same)) later)) in
      omega arith
  | inr other ↦ let none : one_if (bytes_eq x n) ≡ 0 = ap one_if other in let h = distinct_count n xs distinct.1 in omega arith
]

-- the declared names are those of ports, constants and locals
abbrev pub port_names : List Port → List (List ℕ)
port_names ports = map (λ (q : Port). q.name) ports

abbrev pub local_names : List Local → List (List ℕ)
local_names locals = map (λ (l : Local). l.name) locals

local_entries : (n : List ℕ) (ls : List Local) → name_count n (map entry_name (map local ls)) ≡ name_count n (local_names ls)
local_entries n [] = refl
local_entries n (l ∷ ls) = ap (λ (k : ℕ). one_if (bytes_eq l.name n) + k) (local_entries n ls)

const_entries : (n : List ℕ) (cs : List Const) (ls : List Local) → name_count n (local_names ls) ≤ name_count n (map entry_name (map constant cs ++ map local ls))
const_entries n [] ls = let e = local_entries n ls in omega arith
const_entries n (c ∷ cs) ls = let e = const_entries n cs ls in omega arith

entry_counts : (n : List ℕ) (ps : List Port) (cs : List Const) (ls : List Local) →
    name_count n (port_names ps) + name_count n (local_names ls) ≤ name_count n (map entry_name (map port ps ++ (map constant cs ++ map local ls)))
entry_counts n [] cs ls = let e = const_entries n cs ls in omega arith
entry_counts n (p ∷ ps) cs ls = let e = entry_counts n ps cs ls in omega arith

pub names_once : (m : ModuleTree) → doubled_faults no_names (entries m) ≡ [] → AreNamesOnce m
names_once m none n =
    let most = distinct_count n (map entry_name (entries m)) (are_distinct m none) in
    let parts = entry_counts n m.ports m.consts m.locals in
    omega arith

-- what a name stands for is declared, and what is declared its name stands for
none_named : (es : List Entry) (name : List ℕ) → (IsIn name (map entry_name es) → ⊥) → first_named es name ≡ None
none_named [] name none = refl
none_named (x ∷ xs) name none =
    ap₂ earlier
    (cond-false (bytes_eq (entry_name x) name) (Some x) None (other_name (entry_name x) name (λ same. none (inl (sym same)))))
    (none_named xs name (λ later. none (inr later)))

first_is : (es : List Entry) (e : Entry) → AreDistinct (map entry_name es) → IsIn e es → first_named es (entry_name e) ≡ Some e
first_is [] e distinct is = absurd is
first_is (x ∷ xs) e distinct (inl same) =
    let name : entry_name x ≡ entry_name e = ap entry_name (sym same) in
    ap₂ earlier
    (cond-true (bytes_eq (entry_name x) (entry_name e)) (Some x) None (same_name (entry_name x) (entry_name e) name) ∙ ap (λ (y : Entry). Some y) (sym same))
    (none_named xs (entry_name e) (λ later. distinct.0 (subst (λ (n : List ℕ). IsIn n (map entry_name xs)) (sym name) later)))
first_is (x ∷ xs) e distinct (inr later) =
    let apart : entry_name x ≢ entry_name e = λ same. distinct.0 (subst (λ (n : List ℕ). IsIn n (map entry_name xs)) (sym same) (to_map entry_name e xs later)) in
    ap₂ earlier
    (cond-false (bytes_eq (entry_name x) (entry_name e)) (Some x) None (other_name (entry_name x) (entry_name e) apart))
    (first_is xs e distinct.1 later)

pub port_named : (m : ModuleTree) (p : Port) → AreDistinct (map entry_name (entries m)) → IsIn p m.ports → names_of m p.name ≡ Some (port p)
port_named m p distinct is = first_is (entries m) (port p) distinct (in_front (port p) (map port m.ports) (map constant m.consts ++ map local m.locals) (to_map port p m.ports is))

pub local_named : (m : ModuleTree) (l : Local) → AreDistinct (map entry_name (entries m)) → IsIn l m.locals → names_of m l.name ≡ Some (local l)
local_named m l distinct is =
    first_is (entries m) (local l) distinct (in_back (local l) (map port m.ports) (map constant m.consts ++ map local m.locals)
    (in_back (local l) (map constant m.consts) (map local m.locals) (to_map local l m.locals is)))

of_two : (a b : Option Entry) (e : Entry) → earlier a b ≡ Some e → (a ≡ Some e) ⊎ (b ≡ Some e)
of_two None b e is = inr is
of_two (Some x) None e is = inl is
of_two (Some x) (Some y) e is = go (nat_lt (entry_at y) (entry_at x)) is where
  go : (b : Bool) → cond b (Some y) (Some x) ≡ Some e → (Some x ≡ Some e) ⊎ (Some y ≡ Some e)
  go true f = inr f
  go false f = inl f

found_here : (b : Bool) (x e : Entry) → cond b (Some x) None ≡ Some e → (b ≡ true) × (e ≡ x)
found_here true x e is = (refl, let f : Some x ≡ Some e = is in cc)
found_here false x e is = absurd (let f : None ≡ Some e = is in cc)

first_in : (es : List Entry) (q : List ℕ) (e : Entry) → first_named es q ≡ Some e → IsIn e es × (q ≡ entry_name e)
first_in [] q e is = absurd (let f : None ≡ Some e = is in cc)
first_in (x ∷ xs) q e is = elim (of_two (cond (bytes_eq (entry_name x) q) (Some x) None) (first_named xs q) e is) [
  | inl here ↦
      let f = found_here (bytes_eq (entry_name x) q) x e here in
      (inl f.1, sym (is_same_name (entry_name x) q f.0) ∙ ap entry_name (sym f.1))
  | inr later ↦
      let f = first_in xs q e later in
      (inr f.0, f.1)
]

port_in : (m : ModuleTree) (p : Port) → IsIn (port p) (entries m) → IsIn p m.ports
port_in m p is = elim (in_either (port p) (map port m.ports) (map constant m.consts ++ map local m.locals) is) [
  | inl ports ↦
      let f = from_map port (port p) m.ports ports in
      let g : port p ≡ port f.0 = f.2 in
      let same : p ≡ f.0 = cc in
      subst (λ (k : Port). IsIn k m.ports) (sym same) f.1
  | inr more ↦ elim (in_either (port p) (map constant m.consts) (map local m.locals) more) [
    | inl consts ↦ let f = from_map constant (port p) m.consts consts in absurd (let g : port p ≡ constant f.0 = f.2 in cc)
    | inr locals ↦ let f = from_map local (port p) m.locals locals in absurd (let g : port p ≡ local f.0 = f.2 in cc)
  ]
]

const_in : (m : ModuleTree) (c : Const) → IsIn (constant c) (entries m) → IsIn c m.consts
const_in m c is = elim (in_either (constant c) (map port m.ports) (map constant m.consts ++ map local m.locals) is) [
  | inl ports ↦ let f = from_map port (constant c) m.ports ports in absurd (let g : constant c ≡ port f.0 = f.2 in cc)
  | inr more ↦ elim (in_either (constant c) (map constant m.consts) (map local m.locals) more) [
    | inl consts ↦
        let f = from_map constant (constant c) m.consts consts in
        let g : constant c ≡ constant f.0 = f.2 in
        let same : c ≡ f.0 = cc in
        subst (λ (k : Const). IsIn k m.consts) (sym same) f.1
    | inr locals ↦ let f = from_map local (constant c) m.locals locals in absurd (let g : constant c ≡ local f.0 = f.2 in cc)
  ]
]

local_in : (m : ModuleTree) (l : Local) → IsIn (local l) (entries m) → IsIn l m.locals
local_in m l is = elim (in_either (local l) (map port m.ports) (map constant m.consts ++ map local m.locals) is) [
  | inl ports ↦ let f = from_map port (local l) m.ports ports in absurd (let g : local l ≡ port f.0 = f.2 in cc)
  | inr more ↦ elim (in_either (local l) (map constant m.consts) (map local m.locals) more) [
    | inl consts ↦ let f = from_map constant (local l) m.consts consts in absurd (let g : local l ≡ constant f.0 = f.2 in cc)
    | inr locals ↦
        let f = from_map local (local l) m.locals locals in
        let g : local l ≡ local f.0 = f.2 in
        let same : l ≡ f.0 = cc in
        subst (λ (k : Local). IsIn k m.locals) (sym same) f.1
  ]
]

pub port_found : (m : ModuleTree) (name : List ℕ) (p : Port) → names_of m name ≡ Some (port p) → IsIn p m.ports × (name ≡ p.name)
port_found m name p is = let f = first_in (entries m) name (port p) is in (port_in m p f.0, f.1)

pub const_found : (m : ModuleTree) (name : List ℕ) (c : Const) → names_of m name ≡ Some (constant c) → IsIn c m.consts × (name ≡ c.name)
const_found m name c is = let f = first_in (entries m) name (constant c) is in (const_in m c f.0, f.1)

pub local_found : (m : ModuleTree) (name : List ℕ) (l : Local) → names_of m name ≡ Some (local l) → IsIn l m.locals × (name ≡ l.name)
local_found m name l is = let f = first_in (entries m) name (local l) is in (local_in m l f.0, f.1)

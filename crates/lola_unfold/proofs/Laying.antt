-- The slots of a module lead to its signals.
use Rattle.std.proofs.Common.{◌≡◌, ℕ, suc, ◌+◌, ◌-◌, ◌^◌, ◌≤◌, Bool, true, false, cond, if◌then◌else◌, ◌&&◌, bytes_eq, List, [], ◌∷◌, ◌++◌, map, flat_map, length, Option, Some, None, refl, sym, ap, ap₂, ◌∙◌, subst, inl, inr, arith, append_assoc}
use Rattle.std.proofs.lemmas.Bool.{cases_Bool}
use Rattle.std.proofs.lemmas.List.{length-append}
use Rattle.lola_bits.specs.Names.{is_among}
use Rattle.lola_bits.proofs.Names.{same_name, is_same_name}
use Rattle.lola_tree.specs.declared.module.Port.{Port}
use Rattle.lola_tree.specs.declared.module.LocalKind.{LocalKind}
use Rattle.lola_tree.specs.declared.module.LocalKind.TheVariants.{Reg, Var, Inst}
use Rattle.lola_tree.specs.declared.module.Local.{Local}
use Rattle.lola_tree.specs.Tree.{ModuleTree}
use Rattle.lola_tree.specs.Value.{Path}
use Rattle.lola_tree.specs.design.Clocks.{clocks_in, clock_ports}
use Rattle.lola_design.specs.Paths.{path_eq, one_if}
use Rattle.lola_design.specs.Once.{name_count, AreNamesOnce, AllOnce}
use Rattle.lola_unfold.specs.declared.slots.Slot.{Slot}
use Rattle.lola_unfold.specs.declared.slots.Slots.{Slots as SlotTable}
use Rattle.lola_unfold.specs.declared.layout.Inner.{Inner}
use Rattle.lola_unfold.specs.Slots.{capped, plus, first_slot, slots_with, offset_in, slot_offset, offset_of}
use Rattle.lola_unfold.specs.Tables.{Among}
use Rattle.lola_unfold.specs.Measured.{is_hidden}
use Rattle.lola_unfold.specs.Offsets.{shift, find, port_paths, kind_paths, local_paths, own_paths, paths_inside, Inners, Item, port_items, inner_items, kind_items, local_items, Laid, no_laid, lay_one, lay, laid_of, inners_in, IsTable, AreTables}
use Rattle.lola_unfold.proofs.Find.{first_found, found_none, find_append, find_under, find_other, find_empty, plus_shift, plus_plus}

append_none : {X : Type 0} (xs : List X) → xs ++ [] ≡ xs
append_none [] = refl
append_none (x ∷ xs) = ap (λ l. x ∷ l) (append_none xs)

slot_none : (s : Option Slot) → first_slot s None ≡ s
slot_none None = refl
slot_none (Some s) = refl

pub lay_append : (l : Laid) (is js : List Item) → lay l (is ++ js) ≡ lay (lay l is) js
lay_append l [] js = refl
lay_append l (i ∷ is) js = lay_append (lay_one l i) is js

-- slots stand for paths, where `came` says how often names came so far
pub record Lays (tables : List SlotTable) (l : Laid) (xs : List Path) (came : List ℕ → ℕ) : Type 0 where
  pub offset : (name : List ℕ) (rest : Path) → slot_offset (l.slots name) rest (λ k. offset_of tables k rest) ≡ plus 0 (find xs (name ∷ rest))
  pub count : l.count ≡ capped (length xs)
  pub empty : find xs [] ≡ None
  pub no_slot : (name : List ℕ) → came name ≡ 0 → l.slots name ≡ None
  pub no_path : (name : List ℕ) (rest : Path) → came name ≡ 0 → find xs (name ∷ rest) ≡ None

-- an item stands for paths
pub record IsItem (tables : List SlotTable) (i : Item) (ys : List Path) : Type 0 where
  pub offset : (at : ℕ) (rest : Path) → at ≤ 2 ^ 32 - 1 → offset_in at i.inside rest (λ k. offset_of tables k rest) ≡ plus at (find ys (i.name ∷ rest))
  pub other : (name : List ℕ) (rest : Path) → bytes_eq i.name name ≡ false → find ys (name ∷ rest) ≡ None
  pub empty : find ys [] ≡ None
  pub count : i.count ≡ capped (length ys)

nothing_laid : (tables : List SlotTable) → Lays tables no_laid [] (λ name. 0)
nothing_laid tables = record {
  offset = λ name rest. refl;
  count = let e : 0 ≡ capped 0 = omega arith in e;
  empty = refl;
  no_slot = λ name none. refl;
  no_path = λ name rest none. refl;
}

weaker : (tables : List SlotTable) (l : Laid) (xs : List Path) (c d : List ℕ → ℕ) → Lays tables l xs c → ((n : List ℕ) → d n ≡ 0 → c n ≡ 0) → Lays tables l xs d
weaker tables l xs c d is less = record {
  offset = is.offset;
  count = is.count;
  empty = is.empty;
  no_slot = λ name none. is.no_slot name (less name none);
  no_path = λ name rest none. is.no_path name rest (less name none);
}

test_sum : (b : Bool) (n : ℕ) → one_if b + n ≡ 0 → b ≡ false
test_sum true n e = absurd (omega arith)
test_sum false n e = refl

one_more : (tables : List SlotTable) (l : Laid) (xs ys : List Path) (came : List ℕ → ℕ) (i : Item) → Lays tables l xs came → IsItem tables i ys → came i.name ≡ 0 →
    Lays tables (lay_one l i) (xs ++ ys) (λ n. one_if (bytes_eq i.name n) + came n)
one_more tables l xs ys came i is item new = record {
  offset = λ name rest. elim (cases_Bool (bytes_eq i.name name)) [ inl same ↦ here name rest same | inr other ↦ there name rest other ];
  count =
      ap₂ (λ a b. capped (a + b)) is.count item.count
      ∙ (let e : capped (capped (length xs) + capped (length ys)) ≡ capped (length xs + length ys) = omega arith in e) ∙ ap capped (sym (length-append xs ys));
  empty = find_append xs ys [] ∙ ap₂ (λ a b. first_found a (shift (length xs) b)) is.empty item.empty;
  no_slot = λ name none.
      ap₂ (λ (a : Option Slot) (b : Bool). first_slot a (cond b (Some slot) None)) (is.no_slot name (let e = none in omega arith)) (test_sum (bytes_eq i.name name) (came name) none);
  no_path = λ name rest none.
      find_append xs ys (name ∷ rest)
      ∙ ap₂ (λ a b. first_found a (shift (length xs) b)) (is.no_path name rest (let e = none in omega arith)) (item.other name rest (test_sum (bytes_eq i.name name) (came name) none));
}
  where
    slot : Slot
    slot = record { offset = l.count; inside = i.inside }

    within : l.count ≤ 2 ^ 32 - 1
    within = let e = is.count in omega arith

    here : (name : List ℕ) (rest : Path) → bytes_eq i.name name ≡ true → slot_offset (slots_with l.slots i.name slot name) rest (λ k. offset_of tables k rest) ≡ plus 0 (find (xs ++ ys) (name ∷ rest))
    here name rest same =
        let eq : i.name ≡ name = is_same_name i.name name same in
        let zero : came name ≡ 0 = subst (λ (n : List ℕ). came n ≡ 0) eq new in
        ap₂ (λ (a : Option Slot) (b : Bool). slot_offset (first_slot a (cond b (Some slot) None)) rest (λ k. offset_of tables k rest)) (is.no_slot name zero) same
        ∙ item.offset l.count rest within
        ∙ ap₂ (λ (a : ℕ) (n : List ℕ). plus a (find ys (n ∷ rest))) is.count eq
        ∙ plus_shift (length xs) (find ys (name ∷ rest))
        ∙ sym (ap (plus 0) (find_append xs ys (name ∷ rest) ∙ ap (λ a. first_found a (shift (length xs) (find ys (name ∷ rest)))) (is.no_path name rest zero)))

    there : (name : List ℕ) (rest : Path) → bytes_eq i.name name ≡ false → slot_offset (slots_with l.slots i.name slot name) rest (λ k. offset_of tables k rest) ≡ plus 0 (find (xs ++ ys) (name ∷ rest))
    there name rest other =
        ap (λ (b : Bool). slot_offset (first_slot (l.slots name) (cond b (Some slot) None)) rest (λ k. offset_of tables k rest)) other
        ∙ ap (λ (s : Option Slot). slot_offset s rest (λ k. offset_of tables k rest)) (slot_none (l.slots name))
        ∙ is.offset name rest
        ∙ sym (ap (plus 0) (find_append xs ys (name ∷ rest) ∙ ap (λ b. first_found (find xs (name ∷ rest)) (shift (length xs) b)) (item.other name rest other) ∙ found_none (find xs (name ∷ rest))))

-- nothing more, under another name
none_more : (tables : List SlotTable) (l : Laid) (xs : List Path) (came : List ℕ → ℕ) (name : List ℕ) → Lays tables l xs came → Lays tables l (xs ++ []) (λ n. one_if (bytes_eq name n) + came n)
none_more tables l xs came name is =
    subst (λ (ys : List Path). Lays tables l ys (λ n. one_if (bytes_eq name n) + came n)) (sym (append_none xs))
    (weaker tables l xs came (λ n. one_if (bytes_eq name n) + came n) is (λ n e. let f : one_if (bytes_eq name n) + came n ≡ 0 = e in omega arith))

-- a port, a register or a variable
plain_offset : (tables : List SlotTable) (name : List ℕ) (at : ℕ) (rest : Path) (b : Bool) → at ≤ 2 ^ 32 - 1 → b ≡ true →
    offset_in at None rest (λ k. offset_of tables k rest) ≡ plus at (if b && path_eq [] rest then Some 0 else None)
plain_offset tables name at [] true within same = let e : at ≡ capped (at + 0) = omega arith in ap Some e
plain_offset tables name at (r ∷ rest) true within same = refl
plain_offset tables name at rest false within same = absurd (let e : false ≡ true = same in cc)

plain_item : (tables : List SlotTable) (name : List ℕ) → IsItem tables (record { name = name; inside = None; count = 1 }) ((name ∷ []) ∷ [])
plain_item tables name = record {
  offset = λ at rest within. plain_offset tables name at rest (bytes_eq name name) within (same_name name name refl);
  other = λ n rest other. ap (λ (b : Bool). if b && path_eq [] rest then Some 0 else None) other;
  empty = refl;
  count = let e : 1 ≡ capped 1 = omega arith in e;
}

-- what is known of an instance's module
pub record Leads (tables : List SlotTable) (i : Inner) (zs : List Path) : Type 0 where
  pub offset : (x : Path) → offset_of tables i.at x ≡ plus 0 (find zs x)
  pub count : i.count ≡ capped (length zs)
  pub empty : find zs [] ≡ None

abbrev pub InnerFits : List SlotTable → Option Inner → List Path → Type 0
InnerFits tables None zs = zs ≡ []
InnerFits tables (Some i) zs = Leads tables i zs

length_map : (name : List ℕ) (zs : List Path) → length (map (λ (y : Path). name ∷ y) zs) ≡ length zs
length_map name [] = refl
length_map name (z ∷ zs) = ap suc (length_map name zs)

inner_item : (tables : List SlotTable) (name : List ℕ) (i : Inner) (zs : List Path) → Leads tables i zs → IsItem tables (record { name = name; inside = Some i.at; count = i.count }) (map (λ (y : Path). name ∷ y) zs)
inner_item tables name i zs is = record {
  offset = λ at rest within. ap (plus at) (is.offset rest ∙ ap (plus 0) (sym (find_under name name rest zs (same_name name name refl)))) ∙ plus_plus at (find (map (λ (y : Path). name ∷ y) zs) (name ∷ rest));
  other = λ n rest other. find_other name n rest zs other;
  empty = find_empty name zs;
  count = is.count ∙ ap capped (sym (length_map name zs));
}

module _ (tables : List SlotTable) where
  port_step : (l : Laid) (xs : List Path) (came : List ℕ → ℕ) (name : List ℕ) (hidden : Bool) → Lays tables l xs came → came name ≡ 0 →
      Lays tables (lay l (if hidden then [] else record { name = name; inside = None; count = 1 } ∷ [])) (xs ++ (if hidden then [] else (name ∷ []) ∷ [])) (λ n. one_if (bytes_eq name n) + came n)
  port_step l xs came name true is new = none_more tables l xs came name is
  port_step l xs came name false is new = one_more tables l xs ((name ∷ []) ∷ []) came (record { name = name; inside = None; count = 1 }) is (plain_item tables name) new

  inner_step : (l : Laid) (xs : List Path) (came : List ℕ → ℕ) (name : List ℕ) (o : Option Inner) (zs : List Path) → InnerFits tables o zs → Lays tables l xs came → came name ≡ 0 →
      Lays tables (lay l (inner_items name o)) (xs ++ map (λ (y : Path). name ∷ y) zs) (λ n. one_if (bytes_eq name n) + came n)
  inner_step l xs came name None zs fits is new =
      subst (λ (ys : List Path). Lays tables l (xs ++ map (λ (y : Path). name ∷ y) ys) (λ n. one_if (bytes_eq name n) + came n)) (sym fits) (none_more tables l xs came name is)
  inner_step l xs came name (Some i) zs fits is new =
      one_more tables l xs (map (λ (y : Path). name ∷ y) zs) came (record { name = name; inside = Some i.at; count = i.count }) is (inner_item tables name i zs fits) new

  -- two parts one behind the other
  behind : (l : Laid) (is js : List Item) (xs ys zs : List Path) (came : List ℕ → ℕ) → Lays tables (lay (lay l is) js) ((xs ++ ys) ++ zs) came → Lays tables (lay l (is ++ js)) (xs ++ (ys ++ zs)) came
  behind l is js xs ys zs came known =
      subst (λ (k : Laid). Lays tables k (xs ++ (ys ++ zs)) came) (sym (lay_append l is js)) (subst (λ (ps : List Path). Lays tables (lay (lay l is) js) ps came) (append_assoc xs ys zs) known)

  lay_ports : (clocks : Among) (ports : List Port) (l : Laid) (xs : List Path) (came : List ℕ → ℕ) → Lays tables l xs came → ((n : List ℕ) → came n + name_count n (map (λ (p : Port). p.name) ports) ≤ 1) →
      Lays tables (lay l (flat_map (port_items clocks) ports)) (xs ++ port_paths clocks ports) (λ n. came n + name_count n (map (λ (p : Port). p.name) ports))
  lay_ports clocks [] l xs came is once =
      subst (λ (ys : List Path). Lays tables l ys (λ n. came n + 0)) (sym (append_none xs)) (weaker tables l xs came (λ n. came n + 0) is (λ n e. let f : came n + 0 ≡ 0 = e in omega arith))
  lay_ports clocks (p ∷ ports) l xs came is once =
      let here = if is_hidden p.way (clocks p.name) then [] else (p.name ∷ []) ∷ [] in
      let more = λ (n : List ℕ). one_if (bytes_eq p.name n) + came n in
      let new : came p.name ≡ 0 = (let e = once p.name in let s : one_if (bytes_eq p.name p.name) ≡ 1 = ap one_if (same_name p.name p.name refl) in omega arith) in
      behind l (port_items clocks p) (flat_map (port_items clocks) ports) xs here (port_paths clocks ports) (λ n. came n + (one_if (bytes_eq p.name n) + name_count n (map (λ (q : Port). q.name) ports)))
      (weaker tables (lay (lay l (port_items clocks p)) (flat_map (port_items clocks) ports)) ((xs ++ here) ++ port_paths clocks ports) (λ n. more n + name_count n (map (λ (q : Port). q.name) ports))
      (λ n. came n + (one_if (bytes_eq p.name n) + name_count n (map (λ (q : Port). q.name) ports)))
      (lay_ports clocks ports (lay l (port_items clocks p)) (xs ++ here) more (port_step l xs came p.name (is_hidden p.way (clocks p.name)) is new) (λ n. let e = once n in omega arith))
      (λ n e. let f : came n + (one_if (bytes_eq p.name n) + name_count n (map (λ (q : Port). q.name) ports)) ≡ 0 = e in omega arith))

  module _ (inners : Inners) (inside : List ℕ → List Path) (fits : (name : List ℕ) → InnerFits tables (inners name) (inside name)) where
    kind_step : (l : Laid) (xs : List Path) (came : List ℕ → ℕ) (name : List ℕ) (k : LocalKind) → Lays tables l xs came → came name ≡ 0 →
        Lays tables (lay l (kind_items inners name k)) (xs ++ kind_paths inside name k) (λ n. one_if (bytes_eq name n) + came n)
    kind_step l xs came name (Reg clock type) is new = one_more tables l xs ((name ∷ []) ∷ []) came (record { name = name; inside = None; count = 1 }) is (plain_item tables name) new
    kind_step l xs came name (Var type) is new = one_more tables l xs ((name ∷ []) ∷ []) came (record { name = name; inside = None; count = 1 }) is (plain_item tables name) new
    kind_step l xs came name (Inst of) is new = inner_step l xs came name (inners of.name) (inside of.name) (fits of.name) is new

    lay_locals : (locals : List Local) (l : Laid) (xs : List Path) (came : List ℕ → ℕ) → Lays tables l xs came → ((n : List ℕ) → came n + name_count n (map (λ (k : Local). k.name) locals) ≤ 1) →
        Lays tables (lay l (flat_map (local_items inners) locals)) (xs ++ local_paths inside locals) (λ n. came n + name_count n (map (λ (k : Local). k.name) locals))
    lay_locals [] l xs came is once =
        subst (λ (ys : List Path). Lays tables l ys (λ n. came n + 0)) (sym (append_none xs)) (weaker tables l xs came (λ n. came n + 0) is (λ n e. let f : came n + 0 ≡ 0 = e in omega arith))
    lay_locals (p ∷ locals) l xs came is once =
        let here = kind_paths inside p.name p.kind in
        let more = λ (n : List ℕ). one_if (bytes_eq p.name n) + came n in
        let new : came p.name ≡ 0 = (let e = once p.name in let s : one_if (bytes_eq p.name p.name) ≡ 1 = ap one_if (same_name p.name p.name refl) in omega arith) in
        behind l (local_items inners p) (flat_map (local_items inners) locals) xs here (local_paths inside locals) (λ n. came n + (one_if (bytes_eq p.name n) + name_count n (map (λ (q : Local). q.name) locals)))
        (weaker tables (lay (lay l (local_items inners p)) (flat_map (local_items inners) locals)) ((xs ++ here) ++ local_paths inside locals) (λ n. more n + name_count n (map (λ (q : Local). q.name) locals))
        (λ n. came n + (one_if (bytes_eq p.name n) + name_count n (map (λ (q : Local). q.name) locals)))
        (lay_locals locals (lay l (local_items inners p)) (xs ++ here) more (kind_step l xs came p.name p.kind is new) (λ n. let e = once n in omega arith))
        (λ n e. let f : came n + (one_if (bytes_eq p.name n) + name_count n (map (λ (q : Local). q.name) locals)) ≡ 0 = e in omega arith))

    -- a module whose names come once
    pub lay_module : (clocks : Among) (m : ModuleTree) → AreNamesOnce m → (came : List ℕ → ℕ) × Lays tables (laid_of clocks inners m) (own_paths clocks inside m) came
    lay_module clocks m once =
        let ports = lay_ports clocks m.ports no_laid [] (λ n. 0) (nothing_laid tables) (λ n. let e = once n in omega arith) in
        let came = λ (n : List ℕ). 0 + name_count n (map (λ (p : Port). p.name) m.ports) in (
          (λ n. came n + name_count n (map (λ (k : Local). k.name) m.locals)),
          subst (λ (k : Laid). Lays tables k (own_paths clocks inside m) (λ n. came n + name_count n (map (λ (j : Local). j.name) m.locals)))
              (sym (lay_append no_laid (flat_map (port_items clocks) m.ports) (flat_map (local_items inners) m.locals)))
              (lay_locals m.locals (lay no_laid (flat_map (port_items clocks) m.ports)) (port_paths clocks m.ports) came ports (λ n. let e = once n in omega arith)),
        )

-- the slots of all modules
leads : (tables : List SlotTable) (at : ℕ) (clocks : Among) (E : List ModuleTree) (m : ModuleTree) (xs : List Path) (came : List ℕ → ℕ) → IsTable tables at clocks E m →
    Lays tables (laid_of clocks (inners_in E) m) xs came → (x : Path) → offset_of tables at x ≡ plus 0 (find xs x)
leads tables at clocks E m xs came table is [] = sym (ap (plus 0) is.empty)
leads tables at clocks E m xs came table is (name ∷ rest) = ap (λ (s : Option Slot). slot_offset s rest (λ k. offset_of tables k rest)) (table name) ∙ is.offset name rest

fit_test : (tables : List SlotTable) (b : Bool) (i : Inner) (o : Option Inner) (xs ys : List Path) → Leads tables i xs → InnerFits tables o ys → InnerFits tables (if b then Some i else o) (if b then xs else ys)
fit_test tables true i o xs ys here later = here
fit_test tables false i o xs ys here later = later

pub all_fit : (tables : List SlotTable) (E : List ModuleTree) → AreTables tables E → AllOnce E → (name : List ℕ) → InnerFits tables (inners_in E name) (paths_inside E name)
all_fit tables [] are once name = refl
all_fit tables (m ∷ E) are once name =
    let clocks = is_among (clocks_in (clock_ports E) m) in
    let here = lay_module tables (inners_in E) (paths_inside E) (all_fit tables E are.1 once.1) clocks m once.0 in
    fit_test tables (bytes_eq m.name name) (record { at = length E; count = (laid_of clocks (inners_in E) m).count }) (inners_in E name) (own_paths clocks (paths_inside E) m) (paths_inside E name)
    (record { offset = leads tables (length E) clocks E m (own_paths clocks (paths_inside E) m) here.0 are.0 here.1; count = here.1.count; empty = here.1.empty })
    (all_fit tables E are.1 once.1 name)

-- and of the root
pub root_leads : (tables : List SlotTable) (E : List ModuleTree) (m : ModuleTree) (clocks : Among) → AreTables tables E → IsTable tables (length E) clocks E m → AllOnce (m ∷ E) →
    (x : Path) → offset_of tables (length E) x ≡ plus 0 (find (own_paths clocks (paths_inside E) m) x)
root_leads tables E m clocks are table once =
    let here = lay_module tables (inners_in E) (paths_inside E) (all_fit tables E are once.1) clocks m once.0 in
    leads tables (length E) clocks E m (own_paths clocks (paths_inside E) m) here.0 table here.1

pub root_count : (tables : List SlotTable) (E : List ModuleTree) (m : ModuleTree) (clocks : Among) → AreTables tables E → AllOnce (m ∷ E) →
    (laid_of clocks (inners_in E) m).count ≡ capped (length (own_paths clocks (paths_inside E) m))
root_count tables E m clocks are once = (lay_module tables (inners_in E) (paths_inside E) (all_fit tables E are once.1) clocks m once.0).1.count

-- The module of an instance, found by its name among the modules before the one that has it, and its slot there.
use Rattle.std.proofs.Common.{◌≡◌, ℕ, ◌+◌, ◌<◌, ◌≤◌, Bool, true, false, cond, if◌then◌else◌, bytes_eq, List, [], ◌∷◌, map, flat_map, length, slice_get, Option, Some, None, refl, sym, ap, ap₂, ◌∙◌, subst, inl, inr, arith}
use Rattle.std.proofs.lemmas.Bool.{cases_Bool}
use Rattle.lola_bits.specs.Lists.{IsIn}
use Rattle.lola_bits.specs.Names.{is_among}
use Rattle.lola_bits.proofs.Names.{same_name}
use Rattle.lola_tree.specs.declared.named.Named.{Named}
use Rattle.lola_tree.specs.declared.module.Port.{Port}
use Rattle.lola_tree.specs.declared.module.LocalKind.{LocalKind}
use Rattle.lola_tree.specs.declared.module.LocalKind.TheVariants.{Reg, Var, Inst}
use Rattle.lola_tree.specs.declared.module.Local.{Local}
use Rattle.lola_tree.specs.Tree.{ModuleTree}
use Rattle.lola_tree.specs.Value.{Path}
use Rattle.lola_tree.specs.design.Clocks.{clocks_in, clock_ports}
use Rattle.lola_tree.specs.design.Places.{Caller, places_at, places_inside, passed_pads}
use Rattle.lola_tree.specs.design.Signals.{signals_at, signals_inside}
use Rattle.lola_design.specs.Paths.{one_if}
use Rattle.lola_design.specs.Once.{name_count, AreNamesOnce, AllOnce}
use Rattle.lola_unfold.specs.declared.slots.Slot.{Slot}
use Rattle.lola_unfold.specs.declared.slots.Slots.{Slots as SlotTable}
use Rattle.lola_unfold.specs.declared.layout.Inner.{Inner}
use Rattle.lola_unfold.specs.declared.part.Part.{Part}
use Rattle.lola_unfold.specs.Slots.{first_slot}
use Rattle.lola_unfold.specs.Tables.{Among}
use Rattle.lola_unfold.specs.Measured.{is_hidden}
use Rattle.lola_unfold.specs.Offsets.{Inners, Item, port_items, inner_items, kind_items, local_items, Laid, no_laid, lay_one, lay, laid_of, inners_in, IsTable, AreTables}
use Rattle.lola_unfold.specs.Parts.{IsPartAt, AreParts}
use Rattle.lola_unfold.proofs.Laying.{lay_append}

-- the module of an instance with those before it
pub record IsNearest (parts : List Part) (tables : List SlotTable) (E : List ModuleTree) (name : List ℕ) (i : Inner) : Type 0 where
  pub earlier : List ModuleTree
  pub module_ : ModuleTree
  pub at : i.at ≡ length earlier
  pub below : length earlier < length E
  pub all_parts : AreParts parts earlier
  pub is_part : IsPartAt (slice_get parts (length earlier)) earlier module_
  pub all_tables : AreTables tables earlier
  pub table : IsTable tables (length earlier) (is_among (clocks_in (clock_ports earlier) module_)) earlier module_
  pub once : AllOnce (module_ ∷ earlier)
  pub signals : (q : Path) → signals_inside E name q ≡ signals_at (clock_ports earlier) (signals_inside earlier) module_ q
  pub places : (q : Path) (c : Caller) → places_inside E name q c ≡ places_at (clock_ports earlier) (places_inside earlier) module_ q (Some c) (passed_pads c.pads module_.ports c.args)

pub record IsUnknown (E : List ModuleTree) (name : List ℕ) : Type 0 where
  pub signals : (q : Path) → signals_inside E name q ≡ []
  pub places : (q : Path) (c : Caller) → places_inside E name q c ≡ []

abbrev pub Nearest : List Part → List SlotTable → List ModuleTree → List ℕ → Option Inner → Type 0
Nearest parts tables E name None = IsUnknown E name
Nearest parts tables E name (Some i) = IsNearest parts tables E name i

pub nearest : (parts : List Part) (tables : List SlotTable) (E : List ModuleTree) → AreParts parts E → AreTables tables E → AllOnce E → (name : List ℕ) → Nearest parts tables E name (inners_in E name)
nearest parts tables [] ps ts once name = record { signals = λ q. refl; places = λ q c. refl }
nearest parts tables (m ∷ E) ps ts once name = elim (cases_Bool (bytes_eq m.name name)) [
  | inl same ↦ subst (λ (o : Option Inner). Nearest parts tables (m ∷ E) name o) (sym (ap (λ (b : Bool). if b then Some here else inners_in E name) same)) (record {
    earlier = E;
    module_ = m;
    at = refl;
    below = omega arith;
    all_parts = ps.1;
    is_part = ps.0;
    all_tables = ts.1;
    table = ts.0;
    once = once;
    signals = λ q. ap (λ (b : Bool). if b then signals_at (clock_ports E) (signals_inside E) m q else signals_inside E name q) same;
    places = λ q c. ap (λ (b : Bool). if b then places_at (clock_ports E) (places_inside E) m q (Some c) (passed_pads c.pads m.ports c.args) else places_inside E name q c) same;
  })
  | inr other ↦ subst (λ (o : Option Inner). Nearest parts tables (m ∷ E) name o) (sym (ap (λ (b : Bool). if b then Some here else inners_in E name) other)) (later other (inners_in E name) (nearest parts tables E ps.1 ts.1 once.1 name))
]
  where
    here : Inner
    here = record { at = length E; count = (laid_of (is_among (clocks_in (clock_ports E) m)) (inners_in E) m).count }

    later : bytes_eq m.name name ≡ false → (o : Option Inner) → Nearest parts tables E name o → Nearest parts tables (m ∷ E) name o
    later other None is = record {
      signals = λ q. ap (λ (b : Bool). if b then signals_at (clock_ports E) (signals_inside E) m q else signals_inside E name q) other ∙ is.signals q;
      places = λ q c. ap (λ (b : Bool). if b then places_at (clock_ports E) (places_inside E) m q (Some c) (passed_pads c.pads m.ports c.args) else places_inside E name q c) other ∙ is.places q c;
    }
    later other (Some i) is = record {
      earlier = is.earlier;
      module_ = is.module_;
      at = is.at;
      below = let e = is.below in omega arith;
      all_parts = is.all_parts;
      is_part = is.is_part;
      all_tables = is.all_tables;
      table = is.table;
      once = is.once;
      signals = λ q. ap (λ (b : Bool). if b then signals_at (clock_ports E) (signals_inside E) m q else signals_inside E name q) other ∙ is.signals q;
      places = λ q c. ap (λ (b : Bool). if b then places_at (clock_ports E) (places_inside E) m q (Some c) (passed_pads c.pads m.ports c.args) else places_inside E name q c) other ∙ is.places q c;
    }

-- a slot that is there stays
kept : (l : Laid) (is : List Item) (name : List ℕ) (s : Slot) → l.slots name ≡ Some s → (lay l is).slots name ≡ Some s
kept l [] name s has = has
kept l (i ∷ is) name s has =
    kept (lay_one l i) is name s (ap (λ (o : Option Slot). first_slot o (cond (bytes_eq i.name name) (Some (record { offset = l.count; inside = i.inside })) None)) has)

-- names of items come among those that are declared
test_no : (b : Bool) (n : ℕ) → one_if b + n ≡ 0 → b ≡ false
test_no true n e = absurd (omega arith)
test_no false n e = refl

lacking : (l : Laid) (i : Item) (name : List ℕ) → l.slots name ≡ None → bytes_eq i.name name ≡ false → (lay_one l i).slots name ≡ None
lacking l i name none other = ap₂ (λ (o : Option Slot) (b : Bool). first_slot o (cond b (Some (record { offset = l.count; inside = i.inside })) None)) none other

port_lacks : (hidden : Bool) (l : Laid) (p name : List ℕ) → l.slots name ≡ None → bytes_eq p name ≡ false →
    (lay l (if hidden then [] else record { name = p; inside = None; count = 1 } ∷ [])).slots name ≡ None
port_lacks true l p name none other = none
port_lacks false l p name none other = lacking l (record { name = p; inside = None; count = 1 }) name none other

ports_lack : (clocks : Among) (ports : List Port) (l : Laid) (name : List ℕ) → l.slots name ≡ None → name_count name (map (λ (p : Port). p.name) ports) ≡ 0 →
    (lay l (flat_map (port_items clocks) ports)).slots name ≡ None
ports_lack clocks [] l name none other = none
ports_lack clocks (p ∷ ports) l name none other =
    ap (λ (k : Laid). k.slots name) (lay_append l (port_items clocks p) (flat_map (port_items clocks) ports))
    ∙ ports_lack clocks ports (lay l (port_items clocks p)) name
    (port_lacks (is_hidden p.way (clocks p.name)) l p.name name none (test_no (bytes_eq p.name name) (name_count name (map (λ (q : Port). q.name) ports)) other))
    (let e : one_if (bytes_eq p.name name) + name_count name (map (λ (q : Port). q.name) ports) ≡ 0 = other in omega arith)

inner_lacks : (o : Option Inner) (l : Laid) (p name : List ℕ) → l.slots name ≡ None → bytes_eq p name ≡ false → (lay l (inner_items p o)).slots name ≡ None
inner_lacks None l p name none other = none
inner_lacks (Some i) l p name none other = lacking l (record { name = p; inside = Some i.at; count = i.count }) name none other

kind_lacks : (inners : Inners) (k : LocalKind) (l : Laid) (p name : List ℕ) → l.slots name ≡ None → bytes_eq p name ≡ false → (lay l (kind_items inners p k)).slots name ≡ None
kind_lacks inners (Reg clock type) l p name none other = lacking l (record { name = p; inside = None; count = 1 }) name none other
kind_lacks inners (Var type) l p name none other = lacking l (record { name = p; inside = None; count = 1 }) name none other
kind_lacks inners (Inst of) l p name none other = inner_lacks (inners of.name) l p name none other

locals_lack : (inners : Inners) (locals : List Local) (l : Laid) (name : List ℕ) → l.slots name ≡ None → name_count name (map (λ (k : Local). k.name) locals) ≡ 0 →
    (lay l (flat_map (local_items inners) locals)).slots name ≡ None
locals_lack inners [] l name none other = none
locals_lack inners (p ∷ locals) l name none other =
    ap (λ (k : Laid). k.slots name) (lay_append l (local_items inners p) (flat_map (local_items inners) locals))
    ∙ locals_lack inners locals (lay l (local_items inners p)) name
    (kind_lacks inners p.kind l p.name name none (test_no (bytes_eq p.name name) (name_count name (map (λ (q : Local). q.name) locals)) other))
    (let e : one_if (bytes_eq p.name name) + name_count name (map (λ (q : Local). q.name) locals) ≡ 0 = other in omega arith)

-- the slot of an instance has its module
abbrev pub HasInner : Option Inner → Option Slot → Type 0
HasInner None s = s ≡ None
HasInner (Some i) s = (o : ℕ) × (s ≡ Some (record { offset = o; inside = Some i.at }))

inner_here : (inners : Inners) (o : Option Inner) (l : Laid) (name : List ℕ) (locals : List Local) → l.slots name ≡ None → name_count name (map (λ (k : Local). k.name) locals) ≡ 0 →
    HasInner o ((lay (lay l (inner_items name o)) (flat_map (local_items inners) locals)).slots name)
inner_here inners None l name locals none rest = locals_lack inners locals l name none rest
inner_here inners (Some i) l name locals none rest = (
  l.count,
  kept (lay l (inner_items name (Some i))) (flat_map (local_items inners) locals) name (record { offset = l.count; inside = Some i.at })
      (ap₂ (λ (o : Option Slot) (b : Bool). first_slot o (cond b (Some (record { offset = l.count; inside = Some i.at })) None)) none (same_name name name refl)),
)

names_count : (x : Local) (locals : List Local) → IsIn x locals → 1 ≤ name_count x.name (map (λ (k : Local). k.name) locals)
names_count x [] there = absurd there
names_count x (p ∷ locals) (inl here) =
    let e : one_if (bytes_eq p.name x.name) ≡ 1 = ap one_if (same_name p.name x.name (ap (λ (k : Local). k.name) (sym here))) in
    omega arith
names_count x (p ∷ locals) (inr later) = let e = names_count x locals later in omega arith

one_most : (b : Bool) → one_if b ≤ 1
one_most true = omega arith
one_most false = omega arith

inst_slot : (inners : Inners) (locals : List Local) (l : Laid) (x : Local) (of : Named) → IsIn x locals → x.kind ≡ Inst of → l.slots x.name ≡ None →
    name_count x.name (map (λ (k : Local). k.name) locals) ≤ 1 → HasInner (inners of.name) ((lay l (flat_map (local_items inners) locals)).slots x.name)
inst_slot inners [] l x of there kind none once = absurd there
inst_slot inners (p ∷ locals) l x of (inl here) kind none once =
    let same : one_if (bytes_eq p.name x.name) ≡ 1 = ap one_if (same_name p.name x.name (ap (λ (k : Local). k.name) (sym here))) in
    let front : local_items inners p ≡ inner_items x.name (inners of.name) = ap (local_items inners) (sym here) ∙ ap (kind_items inners x.name) kind in
    subst (HasInner (inners of.name)) (sym (ap (λ (k : Laid). k.slots x.name) (lay_append l (local_items inners p) (flat_map (local_items inners) locals)) ∙ ap (λ (is : List Item). (lay (lay l is) (flat_map (local_items inners) locals)).slots x.name) front))
    (inner_here inners (inners of.name) l x.name locals none (let e : one_if (bytes_eq p.name x.name) + name_count x.name (map (λ (q : Local). q.name) locals) ≤ 1 = once in omega arith))
inst_slot inners (p ∷ locals) l x of (inr later) kind none once =
    let e : one_if (bytes_eq p.name x.name) + name_count x.name (map (λ (q : Local). q.name) locals) ≤ 1 = once in
    let f = names_count x locals later in
    let other : bytes_eq p.name x.name ≡ false = test_no (bytes_eq p.name x.name) 0 (omega arith) in
    subst (λ (k : Laid). HasInner (inners of.name) (k.slots x.name)) (sym (lay_append l (local_items inners p) (flat_map (local_items inners) locals)))
    (inst_slot inners locals (lay l (local_items inners p)) x of later kind (kind_lacks inners p.kind l p.name x.name none other) (omega arith))

pub instance_slot : (clocks : Among) (inners : Inners) (m : ModuleTree) (x : Local) (of : Named) → AreNamesOnce m → IsIn x m.locals → x.kind ≡ Inst of → HasInner (inners of.name) ((laid_of clocks inners m).slots x.name)
instance_slot clocks inners m x of once there kind =
    let e = once x.name in
    let f = names_count x m.locals there in
    subst (λ (k : Laid). HasInner (inners of.name) (k.slots x.name)) (sym (lay_append no_laid (flat_map (port_items clocks) m.ports) (flat_map (local_items inners) m.locals)))
    (inst_slot inners m.locals (lay no_laid (flat_map (port_items clocks) m.ports)) x of there kind (ports_lack clocks m.ports no_laid x.name refl (omega arith)) (omega arith))

-- What is known of some modules, and with one more.
use Rattle.std.proofs.Common.{◌≡◌, ℕ, suc, ◌+◌, ◌≤◌, Bool, true, false, cond, if◌then◌else◌, bytes_eq, List, [], ◌∷◌, ◌++◌, length, slice_get, Option, Some, refl, sym, ap, ap₂, ◌∙◌, subst, arith}
use Rattle.lola_bits.specs.Names.{is_among}
use Rattle.lola_bits.proofs.Places.{get_within, get_last}
use Rattle.lola_tree.specs.Tree.{ModuleTree}
use Rattle.lola_tree.specs.design.Clocks.{clocks_in, clock_ports}
use Rattle.lola_unfold.specs.declared.slots.Slots.{Slots as SlotTable}
use Rattle.lola_unfold.specs.declared.layout.Inner.{Inner}
use Rattle.lola_unfold.specs.declared.part.Part.{Part}
use Rattle.lola_unfold.specs.Slots.{Slots, slot_in, table_slot}
use Rattle.lola_unfold.specs.Tables.{Among}
use Rattle.lola_unfold.specs.Offsets.{Inners, inners_in, laid_of, IsTable, AreTables}
use Rattle.lola_unfold.specs.Parts.{IsPart, IsPartAt, AreParts}

-- what stands at earlier places stays
parts_kept : (ps : List Part) (p : Part) (E : List ModuleTree) → length E ≤ length ps → AreParts ps E → AreParts (ps ++ p ∷ []) E
parts_kept ps p [] few are = tt
parts_kept ps p (m ∷ E) few are =
    (subst (λ (o : Option Part). IsPartAt o E m) (sym (get_within ps (p ∷ []) (length E) (omega arith))) are.0, parts_kept ps p E (omega arith) are.1)

pub parts_more : (ps qs : List Part) (p : Part) (E : List ModuleTree) (m : ModuleTree) → qs ≡ ps ++ p ∷ [] → length ps ≡ length E → AreParts ps E → IsPart p E m → AreParts qs (m ∷ E)
parts_more ps qs p E m is same are new =
    subst (λ (rs : List Part). AreParts rs (m ∷ E)) (sym is)
    (subst (λ (o : Option Part). IsPartAt o E m) (sym (ap (slice_get (ps ++ p ∷ [])) (sym same) ∙ get_last ps p)) new, parts_kept ps p E (omega arith) are)

tables_kept : (ts : List SlotTable) (t : SlotTable) (E : List ModuleTree) → length E ≤ length ts → AreTables ts E → AreTables (ts ++ t ∷ []) E
tables_kept ts t [] few are = tt
tables_kept ts t (m ∷ E) few are =
    ((λ name. ap (λ (o : Option SlotTable). table_slot o name) (get_within ts (t ∷ []) (length E) (omega arith)) ∙ are.0 name), tables_kept ts t E (omega arith) are.1)

pub table_there : (ts us : List SlotTable) (t : SlotTable) (E : List ModuleTree) (m : ModuleTree) (clocks : Among) → us ≡ ts ++ t ∷ [] → length ts ≡ length E → slot_in t ≡ (laid_of clocks (inners_in E) m).slots →
    IsTable us (length E) clocks E m
table_there ts us t E m clocks is same new name =
    ap (λ (vs : List SlotTable). table_slot (slice_get vs (length E)) name) is
    ∙ ap (λ (o : Option SlotTable). table_slot o name) (ap (slice_get (ts ++ t ∷ [])) (sym same) ∙ get_last ts t)
    ∙ ap (λ (f : Slots). f name) new

pub tables_stay : (ts us : List SlotTable) (t : SlotTable) (E : List ModuleTree) → us ≡ ts ++ t ∷ [] → length ts ≡ length E → AreTables ts E → AreTables us E
tables_stay ts us t E is same are = subst (λ (vs : List SlotTable). AreTables vs E) (sym is) (tables_kept ts t E (omega arith) are)

pub tables_more : (ts us : List SlotTable) (t : SlotTable) (E : List ModuleTree) (m : ModuleTree) → us ≡ ts ++ t ∷ [] → length ts ≡ length E → AreTables ts E →
    slot_in t ≡ (laid_of (is_among (clocks_in (clock_ports E) m)) (inners_in E) m).slots → AreTables us (m ∷ E)
tables_more ts us t E m is same are new = (table_there ts us t E m (is_among (clocks_in (clock_ports E) m)) is same new, tables_stay ts us t E is same are)

pub inners_more : (old new : Inners) (E : List ModuleTree) (m : ModuleTree) (i : Inner) → old ≡ inners_in E → ((name : List ℕ) → new name ≡ cond (bytes_eq m.name name) (Some i) (old name)) →
    i ≡ record { at = length E; count = (laid_of (is_among (clocks_in (clock_ports E) m)) (inners_in E) m).count } → new ≡ inners_in (m ∷ E)
inners_more old new E m i known more is = λ k name. each name k
  where
    turn : (b : Bool) (x : Inner) (o : Option Inner) → cond b (Some x) o ≡ (if b then Some x else o)
    turn true x o = refl
    turn false x o = refl

    each : (name : List ℕ) → new name ≡ inners_in (m ∷ E) name
    each name =
        more name ∙ turn (bytes_eq m.name name) i (old name)
        ∙ ap₂ (λ (x : Inner) (f : Inners). if bytes_eq m.name name then Some x else f name) is known

pub count_more : (n k : ℕ) → n ≡ k → n + 1 ≡ suc k
count_more n k e = omega arith

-- An arena, slots and entries hold the clauses in force.
use Rattle.std.proofs.Common.{◌≡◌, ◌≢◌, ℕ, ◌+◌, ◌<◌, ◌≤◌, ℤ, true, false, cond, not, List, [], ◌∷◌, ◌++◌, take, drop, length, get_or, Option, None, Some, IfSome, nat_eq, refl, sym, ◌∙◌, ap, ap₂, subst, arith, inl, inr, append_assoc, append-nil, length-append, length-drop}
use Rattle.std.specs.Map.{lookup}
use Rattle.std.proofs.lemmas.Bool.{cases_Bool}
use Rattle.std.proofs.lemmas.List.{take-append-le, drop-append-le, drop_more}
use Rattle.std.proofs.lemmas.List.Elements.{filter-append}
use Rattle.std.proofs.Math.Seq.{drop-append_seam, take-length}
use Rattle.slab.specs.Slab.{Slab, get, Updates}
use Rattle.lola_bits.proofs.Options.{some_same, nothing}
use Rattle.lola_bits.proofs.Tests.{not_both}
use Rattle.lrat_check.specs.declared.arena.Slot.{Slot}
use Rattle.lrat_check.specs.declared.keys.Entry.{Entry}
use Rattle.lrat_check.specs.Clauses.{InForce, without}
use Rattle.lrat_check.specs.Keys.{Rises, key_of}
use Rattle.lrat_check.specs.Arena.{clause_in, with_id, contents, slot_for, out_of, IsSound}
use Rattle.lrat_check.proofs.KeysFound.{other_id, same_id, is_id, rises_more, rises_within, rises_later}

-- a clause of one id before others is not that of another id
lookup_past : (id n : ℕ) (o : Option (List ℤ)) (rest : InForce) → nat_eq id n ≡ false → lookup (nat_eq id) (with_id n o ++ rest) ≡ lookup (nat_eq id) rest
lookup_past id n None rest f = refl
lookup_past id n (Some c) rest f = rw f refl

lookup_here : (id : ℕ) (o : Option (List ℤ)) (rest : InForce) → lookup (nat_eq id) rest ≡ None → lookup (nat_eq id) (with_id id o ++ rest) ≡ o
lookup_here id None rest e = e
lookup_here id (Some c) rest e = rw (same_id id) refl

-- no clause has an id that isn't above where the ids begin
none_in_force : (arena : List ℤ) (slots : Slab Slot) (low high id : ℕ) (es : List Entry) → id ≤ low → Rises low es high → lookup (nat_eq id) (contents arena slots es) ≡ None
none_in_force arena slots low high id [] h r = refl
none_in_force arena slots low high id (e ∷ es) h r = let k = r.0 in
    lookup_past id e.id (clause_in arena e.id (get slots e.key)) (contents arena slots es) (other_id id e.id (omega (arith, h, k)))
    ∙ none_in_force arena slots e.id high id es (omega (arith, h, k)) r.1

-- the clause of an id by its key
abbrev pub clause_by : List ℤ → Slab Slot → ℕ → Option ℕ → Option (List ℤ)
clause_by arena slots id None = None
clause_by arena slots id (Some key) = clause_in arena id (get slots key)

pub found : (arena : List ℤ) (slots : Slab Slot) (low high id : ℕ) (es : List Entry) → Rises low es high → lookup (nat_eq id) (contents arena slots es) ≡ clause_by arena slots id (key_of es id)
found arena slots low high id [] r = refl
found arena slots low high id (e ∷ es) r = elim (cases_Bool (nat_eq id e.id)) [
  | inl t ↦ let same : id ≡ e.id = is_id id e.id t in
      rw t (subst (λ (n : ℕ). lookup (nat_eq id) (with_id n (clause_in arena n (get slots e.key)) ++ contents arena slots es) ≡ clause_in arena id (get slots e.key)) same
      (lookup_here id (clause_in arena id (get slots e.key)) (contents arena slots es) (none_in_force arena slots e.id high id es (omega (arith, same)) r.1)))
  | inr f ↦ rw f (lookup_past id e.id (clause_in arena e.id (get slots e.key)) (contents arena slots es) f ∙ found arena slots e.id high id es r.1)
]

-- a slot that was taken out has no clause of its id, and those of other ids as before
gone : (arena : List ℤ) (id : ℕ) (o : Option Slot) → clause_in arena id (out_of id o) ≡ None
gone arena id None = refl
gone arena id (Some slot) = elim (cases_Bool (nat_eq id slot.id)) [ inl t ↦ rw t refl | inr f ↦ rw (f, f) refl ]

others_stay : (arena : List ℤ) (id n : ℕ) (o : Option Slot) → nat_eq id n ≡ false → clause_in arena n (out_of id o) ≡ clause_in arena n o
others_stay arena id n None f = refl
others_stay arena id n (Some slot) f = elim (cases_Bool (nat_eq id slot.id)) [
  | inl t ↦ let same : id ≡ slot.id = is_id id slot.id t in
      rw (t, other_id n slot.id (λ e. not_both (subst (λ (m : ℕ). nat_eq id m ≡ true) (sym e) t) f)) refl
  | inr g ↦ rw g refl
]

-- what a removal makes of the slots
pub record Removes (slots later : Slab Slot) (id key : ℕ) : Type 0 where
  pub changed : get later key ≡ out_of id (get slots key)
  pub others : (k : ℕ) → k ≢ key → get later k ≡ get slots k

stays_at : (arena : List ℤ) (slots later : Slab Slot) (id key n k : ℕ) → Removes slots later id key → nat_eq id n ≡ false → clause_in arena n (get later k) ≡ clause_in arena n (get slots k)
stays_at arena slots later id key n k a f = elim (cases_Bool (nat_eq k key)) [
  | inl t ↦ let same : k ≡ key = is_id k key t in rw (same, a.changed) (others_stay arena id n (get slots key) f)
  | inr g ↦ rw (a.others k (λ e. not_both (subst (λ (m : ℕ). nat_eq k m ≡ true) e (same_id k)) g)) refl
]

keeps : (id n : ℕ) (o : Option (List ℤ)) → nat_eq id n ≡ false → without (with_id n o) id ≡ with_id n o
keeps id n None f = refl
keeps id n (Some c) f = rw f refl

drops : (id : ℕ) (o : Option (List ℤ)) → without (with_id id o) id ≡ []
drops id None = refl
drops id (Some c) = rw (same_id id) refl

-- the entry of another id, and those behind it
past : (arena : List ℤ) (slots later : Slab Slot) (id key : ℕ) (e : Entry) (es : List Entry) → Removes slots later id key → nat_eq id e.id ≡ false
    → contents arena later es ≡ without (contents arena slots es) id → contents arena later (e ∷ es) ≡ without (contents arena slots (e ∷ es)) id
past arena slots later id key e es a f rest =
    let o = clause_in arena e.id (get slots e.key) in
    ap₂ (λ (x : Option (List ℤ)) (y : InForce). with_id e.id x ++ y) (stays_at arena slots later id key e.id e.key a f) rest
    ∙ ap (λ (x : InForce). x ++ without (contents arena slots es) id) (sym (keeps id e.id o f))
    ∙ sym (filter-append (λ (c : ℕ × List ℤ). not (nat_eq id c.0)) (with_id e.id o) (contents arena slots es))

untouched : (arena : List ℤ) (slots later : Slab Slot) (id key low high : ℕ) (es : List Entry) → Removes slots later id key → id ≤ low → Rises low es high
    → contents arena later es ≡ without (contents arena slots es) id
untouched arena slots later id key low high [] a h r = refl
untouched arena slots later id key low high (e ∷ es) a h r = let k = r.0 in
    past arena slots later id key e es a (other_id id e.id (omega (arith, h, k))) (untouched arena slots later id key e.id high es a (omega (arith, h, k)) r.1)

pub removed : (arena : List ℤ) (slots later : Slab Slot) (id key low high : ℕ) (es : List Entry) → Removes slots later id key → Rises low es high → key_of es id ≡ Some key
    → contents arena later es ≡ without (contents arena slots es) id
removed arena slots later id key low high [] a r e = nothing key e
removed arena slots later id key low high (x ∷ xs) a r e = elim (cases_Bool (nat_eq id x.id)) [
  | inl t ↦
      let same : id ≡ x.id = is_id id x.id t in
      let k : x.key ≡ key = some_same x.key key (rw t at e) in
      let none : clause_in arena x.id (get later x.key) ≡ None =
      subst (λ (n : ℕ). clause_in arena n (get later x.key) ≡ None) same (rw (k, a.changed) (gone arena id (get slots key))) in
      let dropped : without (with_id x.id (clause_in arena x.id (get slots x.key))) id ≡ [] =
      subst (λ (n : ℕ). without (with_id n (clause_in arena x.id (get slots x.key))) id ≡ []) same (drops id (clause_in arena x.id (get slots x.key))) in
      ap (λ (o : Option (List ℤ)). with_id x.id o ++ contents arena later xs) none
      ∙ untouched arena slots later id key x.id high xs a (omega (arith, same)) r.1
      ∙ ap (λ (f : InForce). f ++ without (contents arena slots xs) id) (sym dropped)
      ∙ sym (filter-append (λ (c : ℕ × List ℤ). not (nat_eq id c.0)) (with_id x.id (clause_in arena x.id (get slots x.key))) (contents arena slots xs))
  | inr f ↦ past arena slots later id key x xs a f (removed arena slots later id key x.id high xs a r.1 (rw f at e))
]

-- nothing is taken out where nothing has the id
pub none_removed : (force : InForce) (id : ℕ) → lookup (nat_eq id) force ≡ None → without force id ≡ force
none_removed [] id e = refl
none_removed (x ∷ xs) id e = elim (cases_Bool (nat_eq id x.0)) [
  | inl t ↦ nothing x.1 (sym (rw t at e))
  | inr f ↦ rw f (ap (λ (f : InForce). x ∷ f) (none_removed xs id (rw f at e)))
]

out_within : (id : ℕ) (o : Option Slot) (P : Slot → Type 0) → IfSome o P → IfSome (out_of id o) P
out_within id None P h = tt
out_within id (Some slot) P h = elim (cases_Bool (nat_eq id slot.id)) [ inl t ↦ rw t tt | inr f ↦ rw f h ]

pub sound_removed : (arena : List ℤ) (slots later : Slab Slot) (es : List Entry) (id key last : ℕ) → Removes slots later id key → IsSound arena slots es last → IsSound arena later es last
sound_removed arena slots later es id key last a s = record {
  within = λ k. elim (cases_Bool (nat_eq k key)) [
    | inl t ↦ let same : k ≡ key = is_id k key t in
        rw (same, a.changed) (out_within id (get slots key) (λ slot. slot.start + slot.length ≤ length arena) (s.within key))
    | inr g ↦ rw (a.others k (λ e. not_both (subst (λ (m : ℕ). nat_eq k m ≡ true) e (same_id k)) g)) (s.within k)
  ];
  rises = s.rises;
}

-- what an addition makes of the slots
pub record Appends (arena clause : List ℤ) (slots later : Slab Slot) (id key : ℕ) : Type 0 where
  pub vacant : get slots key ≡ None
  pub updates : Updates slots later key (Some (slot_for id arena clause))

part_stays : (arena more : List ℤ) (start n : ℕ) → start + n ≤ length arena → take n (drop start (arena ++ more)) ≡ take n (drop start arena)
part_stays arena more start n h = rw (drop-append-le start arena more (omega arith)) (take-append-le n (drop start arena) more (rw (length-drop start arena) (omega arith)))

part_new : (arena more : List ℤ) → take (length more) (drop (length arena) (arena ++ more)) ≡ more
part_new arena more = rw (drop-append_seam arena more) (take-length more)

longer_same : (arena more : List ℤ) (n : ℕ) (o : Option Slot) → IfSome o (λ slot. slot.start + slot.length ≤ length arena) → clause_in (arena ++ more) n o ≡ clause_in arena n o
longer_same arena more n None h = refl
longer_same arena more n (Some slot) h = ap (λ (c : List ℤ). cond (nat_eq n slot.id) (Some c) None) (part_stays arena more slot.start slot.length h)

unmoved : (arena clause : List ℤ) (slots later : Slab Slot) (id key n k : ℕ) → Appends arena clause slots later id key
    → IfSome (get slots k) (λ slot. slot.start + slot.length ≤ length arena) → nat_eq n id ≡ false
    → clause_in (arena ++ clause) n (get later k) ≡ clause_in arena n (get slots k)
unmoved arena clause slots later id key n k a w f = elim (cases_Bool (nat_eq k key)) [
  | inl t ↦ let same : k ≡ key = is_id k key t in rw (same, a.vacant, a.updates.changed, f) refl
  | inr g ↦ rw (a.updates.others k (λ e. not_both (subst (λ (m : ℕ). nat_eq k m ≡ true) e (same_id k)) g)) (longer_same arena clause n (get slots k) w)
]

new_last : (arena clause : List ℤ) (slots later : Slab Slot) (id key : ℕ) → Appends arena clause slots later id key → clause_in (arena ++ clause) id (get later key) ≡ Some clause
new_last arena clause slots later id key a = rw (a.updates.changed, same_id id, part_new arena clause) refl

pub appended : (arena clause : List ℤ) (slots later : Slab Slot) (id key low high : ℕ) (es : List Entry) → Appends arena clause slots later id key
    → ((k : ℕ) → IfSome (get slots k) (λ slot. slot.start + slot.length ≤ length arena)) → Rises low es high → high < id
    → contents (arena ++ clause) later (es ++ record { id = id; key = key } ∷ []) ≡ contents arena slots es ++ (id, clause) ∷ []
appended arena clause slots later id key low high [] a w r h = ap (λ (o : Option (List ℤ)). with_id id o ++ []) (new_last arena clause slots later id key a)
appended arena clause slots later id key low high (e ∷ es) a w r h =
    let k = rises_within e.id high es r.1 in
    ap₂ (λ (o : Option (List ℤ)) (f : InForce). with_id e.id o ++ f)
    (unmoved arena clause slots later id key e.id e.key a (w e.key) (other_id e.id id (omega (arith, k, h))))
    (appended arena clause slots later id key e.id high es a w r.1 h)
    ∙ sym (append_assoc (with_id e.id (clause_in arena e.id (get slots e.key))) (contents arena slots es) ((id, clause) ∷ []))

pub sound_appended : (arena clause : List ℤ) (slots later : Slab Slot) (es : List Entry) (id key last : ℕ) → Appends arena clause slots later id key → IsSound arena slots es last → last < id
    → IsSound (arena ++ clause) later (es ++ record { id = id; key = key } ∷ []) id
sound_appended arena clause slots later es id key last a s h = record {
  within = λ k. elim (cases_Bool (nat_eq k key)) [
    | inl t ↦ let same : k ≡ key = is_id k key t in rw (same, a.updates.changed) (let l = length-append arena clause in omega (arith, l))
    | inr g ↦ rw (a.updates.others k (λ e. not_both (subst (λ (m : ℕ). nat_eq k m ≡ true) e (same_id k)) g)) (longer (get slots k) (s.within k))
  ];
  rises = rises_more 0 last es (record { id = id; key = key }) h s.rises;
}
  where
    longer : (o : Option Slot) → IfSome o (λ slot. slot.start + slot.length ≤ length arena) → IfSome o (λ slot. slot.start + slot.length ≤ length (arena ++ clause))
    longer None h = tt
    longer (Some slot) h = let l = length-append arena clause in omega (arith, l, h)

-- what has moved once i entries are passed
pub record Moving (arena : List ℤ) (slots : Slab Slot) (entries : List Entry) (last i : ℕ) (force : InForce) (reached : ℕ) : Type 0 where
  pub moved : force ++ contents arena slots (drop i entries) ≡ contents arena slots entries
  pub rises : Rises reached (drop i entries) last

pub moving_past : (arena : List ℤ) (slots : Slab Slot) (entries : List Entry) (last i : ℕ) (force : InForce) (reached : ℕ) (e d : Entry) → i < length entries → e ≡ get_or entries i d
    → clause_in arena e.id (get slots e.key) ≡ None → Moving arena slots entries last i force reached → Moving arena slots entries last (i + 1) force reached
moving_past arena slots entries last i force reached e d h is none m =
    let w = drop_more entries i d h ∙ ap (λ (x : Entry). x ∷ drop (i + 1) entries) (sym is) in
    let q = subst (λ (es : List Entry). force ++ contents arena slots es ≡ contents arena slots entries) w m.moved in
    record {
      moved = rw none at q;
      rises = rises_later reached last e (drop (i + 1) entries) (subst (λ (es : List Entry). Rises reached es last) w m.rises);
    }

pub moving_on : (arena : List ℤ) (slots : Slab Slot) (entries : List Entry) (last i : ℕ) (force more : InForce) (reached : ℕ) (e d : Entry) (clause : List ℤ) → i < length entries → e ≡ get_or entries i d
    → clause_in arena e.id (get slots e.key) ≡ Some clause → more ≡ force ++ (e.id, clause) ∷ [] → Moving arena slots entries last i force reached → Moving arena slots entries last (i + 1) more e.id
moving_on arena slots entries last i force more reached e d clause h is some longer m =
    let w = drop_more entries i d h ∙ ap (λ (x : Entry). x ∷ drop (i + 1) entries) (sym is) in
    let q = subst (λ (es : List Entry). force ++ contents arena slots es ≡ contents arena slots entries) w m.moved in
    let whole : force ++ (e.id, clause) ∷ contents arena slots (drop (i + 1) entries) ≡ contents arena slots entries = rw some at q in
    record {
      moved = ap (λ (f : InForce). f ++ contents arena slots (drop (i + 1) entries)) longer ∙ append_assoc force ((e.id, clause) ∷ []) (contents arena slots (drop (i + 1) entries)) ∙ whole;
      rises = (subst (λ (es : List Entry). Rises reached es last) w m.rises).1;
    }

pub all_moved : (arena : List ℤ) (slots : Slab Slot) (entries : List Entry) (last i : ℕ) (force : InForce) (reached : ℕ) → drop i entries ≡ [] → Moving arena slots entries last i force reached
    → (force ≡ contents arena slots entries) × (reached ≤ last)
all_moved arena slots entries last i force reached d m = (
  sym (append-nil force) ∙ subst (λ (es : List Entry). force ++ contents arena slots es ≡ contents arena slots entries) d m.moved,
  subst (λ (es : List Entry). Rises reached es last) d m.rises,
)

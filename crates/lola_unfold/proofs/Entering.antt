-- What stands at the place of an instance.
use Rattle.std.proofs.Common.{◌≡◌, ◌⊎◌, ℕ, ◌+◌, Bool, true, false, cond, if◌then◌else◌, bytes_eq, List, [], ◌∷◌, ◌++◌, map, slice_get, Option, Some, None, refl, sym, ap, ◌∙◌, inl, inr, arith}
use Rattle.lola_tree.specs.declared.module.Way.{Way}
use Rattle.lola_tree.specs.declared.module.Way.TheVariants.{Inward, Outward, Both}
use Rattle.lola_tree.specs.declared.module.Port.{Port}
use Rattle.lola_tree.specs.Tree.{ActualTree}
use Rattle.lola_tree.specs.Value.{Path}
use Rattle.lola_tree.specs.design.Calls.{bare_name}
use Rattle.lola_tree.specs.design.Places.{Pads, pad_of, way_pad, own_pads, passed_pads}
use Rattle.lola_unfold.specs.declared.slots.Slot.{Slot}
use Rattle.lola_unfold.specs.declared.slots.Base.{Base}
use Rattle.lola_unfold.specs.Slots.{capped, plus, slot_offset, offset_in, offset_of, table_slot, number_after, number_from, base_inside}
use Rattle.lola_unfold.specs.Tables.{PadNumbers, no_pads, first_pad, pads_with, pads_with_all, pad_or, way_numbers, own_numbers, passed_numbers}
use Rattle.lola_unfold.specs.Translated.{Numbers}

-- a number from inside an instance
after_plus : (first offset none : ℕ) (o : Option ℕ) → number_after first none (plus offset o) ≡ number_after (capped (first + offset)) none o
after_plus first offset none None = refl
after_plus first offset none (Some k) = let e : capped (first + capped (offset + k)) ≡ capped (capped (first + offset) + k) = omega arith in e

pub number_inside : (b : Base) (name : List ℕ) (x : Path) (s : Slot) (at : ℕ) → table_slot (slice_get b.tables.now b.at) name ≡ Some s → s.inside ≡ Some at → number_from b (name ∷ x) ≡ number_from (base_inside b s at) x
number_inside b name x s at found inside =
    ap (λ (o : Option Slot). number_after b.first b.none (slot_offset o x (λ k. offset_of b.tables.now k x))) found
    ∙ ap (λ (o : Option ℕ). number_after b.first b.none (offset_in s.offset o x (λ k. offset_of b.tables.now k x))) inside
    ∙ after_plus b.first s.offset b.none (offset_of b.tables.now at x)

-- pads by numbers
abbrev pub numbered : Numbers → Pads → List (List ℕ × ℕ)
numbered N pads = map (λ (p : List ℕ × Path). (p.0, N p.1)) pads

pad_assoc : (a b c : Option ℕ) → first_pad (first_pad a b) c ≡ first_pad a (first_pad b c)
pad_assoc None b c = refl
pad_assoc (Some n) b c = refl

pad_none : (a : Option ℕ) → a ≡ first_pad a None
pad_none None = refl
pad_none (Some n) = refl

pads_front : (f : PadNumbers) (ps : List (List ℕ × ℕ)) (name : List ℕ) → pads_with_all f ps name ≡ first_pad (f name) (pads_with_all no_pads ps name)
pads_front f [] name = pad_none (f name)
pads_front f (p ∷ ps) name =
    pads_front (pads_with f p.0 p.1) ps name
    ∙ pad_assoc (f name) (cond (bytes_eq p.0 name) (Some p.1) None) (pads_with_all no_pads ps name)
    ∙ sym (ap (first_pad (f name)) (pads_front (pads_with no_pads p.0 p.1) ps name))

pad_test : (b : Bool) (N : Numbers) (x : Path) (o : Option ℕ) (rest : Path) → pad_or (N []) o ≡ N rest → pad_or (N []) (first_pad (cond b (Some (N x)) None) o) ≡ N (if b then x else rest)
pad_test true N x o rest e = refl
pad_test false N x o rest e = e

pub pad_found : (N : Numbers) (pads : Pads) (name : List ℕ) → pad_or (N []) (pads_with_all no_pads (numbered N pads) name) ≡ N (pad_of pads name)
pad_found N [] name = refl
pad_found N (p ∷ pads) name =
    ap (pad_or (N [])) (pads_front (pads_with no_pads p.0 (N p.1)) (numbered N pads) name)
    ∙ pad_test (bytes_eq p.0 name) N p.1 (pads_with_all no_pads (numbered N pads) name) (pad_of pads name) (pad_found N pads name)

-- behind a port
way_front : (N : Numbers) (w : Way) (name : List ℕ) (x : Path) (pads : Pads) → way_numbers w name (N x) ++ numbered N pads ≡ numbered N (way_pad w name x ++ pads)
way_front N Inward name x pads = refl
way_front N Outward name x pads = refl
way_front N Both name x pads = refl

pub passed_are : (N : Numbers) (pads : Pads) (ports : List Port) (args : List ActualTree) → passed_numbers (λ name. N (pad_of pads name)) ports args ≡ numbered N (passed_pads pads ports args)
passed_are N pads [] args = refl
passed_are N pads (p ∷ ports) [] = refl
passed_are N pads (p ∷ ports) (a ∷ args) =
    ap (λ l. way_numbers p.way p.name (N (pad_of pads (bare_name a.value))) ++ l) (passed_are N pads ports args)
    ∙ way_front N p.way p.name (pad_of pads (bare_name a.value)) (passed_pads pads ports args)

pub own_are : (N : Numbers) (ports : List Port) → own_numbers (λ name. N (name ∷ [])) ports ≡ numbered N (own_pads ports)
own_are N [] = refl
own_are N (p ∷ ports) = ap (λ l. way_numbers p.way p.name (N (p.name ∷ [])) ++ l) (own_are N ports) ∙ way_front N p.way p.name (p.name ∷ []) (own_pads ports)

pub passed_none : (f : List ℕ → ℕ) (qs : List Port) (rs : List ActualTree) → (qs ≡ []) ⊎ (rs ≡ []) → passed_numbers f qs rs ≡ []
passed_none f [] rs none = refl
passed_none f (q ∷ qs) [] none = refl
passed_none f (q ∷ qs) (a ∷ rs) none = elim none [ inl e ↦ absurd (let g : q ∷ qs ≡ [] = e in cc) | inr e ↦ absurd (let g : a ∷ rs ≡ [] = e in cc) ]

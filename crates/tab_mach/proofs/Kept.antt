-- Words that are kept, by the number of their phase.
use Rattle.std.proofs.Common.{◌≡◌, ℕ, zero, suc, ◌<◌, List, length, replicate, set, Option, Some, None, refl, ap, ◌∙◌, inl, inr}
use Rattle.std.specs.Prelude.{nat_eq}
use Rattle.std.proofs.lemmas.Bool.{cases_Bool, eqb-true, eqb-false}
use Rattle.lola_bits.specs.declared.vector.Bits.{Bits}
use Rattle.lola_bits.proofs.Places.{get_set_same, get_set_other}
use Rattle.tab_tree.specs.Names.{nothing}
use Rattle.tab_tree.specs.Step.{Words, no_words, with_at, with_turned, with_loaded}
use Rattle.tab_mach.specs.Known.{or_none, slot}

-- nothing at first
slot_none : (n j : ℕ) → slot (replicate n None) j ≡ None
slot_none zero j = refl
slot_none (suc n) zero = refl
slot_none (suc n) (suc j) = slot_none n j

no_slots : (n : ℕ) (xs : List (Option Bits)) → xs ≡ replicate n None → slot xs ≡ nothing
no_slots n xs e = λ i j. (ap (λ ys. slot ys j) e ∙ slot_none n j) i

words_by : (f g f' g' : ℕ → Option Bits) → f ≡ f' → g ≡ g' →
    (let m : Words = record { loaded = f; turned = g } in m) ≡ (let m : Words = record { loaded = f'; turned = g' } in m)
words_by f g f' g' p q = λ i. record { loaded = p i; turned = q i }

pub none_yet : (n : ℕ) (loaded turned : List (Option Bits)) → loaded ≡ replicate n None → turned ≡ replicate n None →
    (let m : Words = record { loaded = slot loaded; turned = slot turned } in m) ≡ no_words
none_yet n loaded turned p q = words_by (slot loaded) (slot turned) nothing nothing (no_slots n loaded p) (no_slots n turned q)

-- one place
slot_set : (xs : List (Option Bits)) (p : ℕ) (x : Option Bits) → p < length xs → (j : ℕ) → slot (set xs p x) j ≡ with_at (slot xs) p x j
slot_set xs p x within j = elim (cases_Bool (nat_eq j p)) [
  | inl same ↦
      let e : j ≡ p = eqb-true j p same in
      rw same (ap (λ k. slot (set xs p x) k) e ∙ ap or_none (get_set_same xs p x within))
  | inr other ↦ rw other (ap or_none (get_set_other xs p j x (eqb-false j p other)))
]

slots_set : (xs ys : List (Option Bits)) (p : ℕ) (x : Option Bits) → p < length xs → ys ≡ set xs p x → slot ys ≡ with_at (slot xs) p x
slots_set xs ys p x within e = λ i j. (ap (λ zs. slot zs j) e ∙ slot_set xs p x within j) i

pub turned_set : (loaded xs ys : List (Option Bits)) (p : ℕ) (x : Option Bits) → p < length xs → ys ≡ set xs p x →
    (let m : Words = record { loaded = slot loaded; turned = slot ys } in m) ≡ with_turned (record { loaded = slot loaded; turned = slot xs }) p x
turned_set loaded xs ys p x within e = words_by (slot loaded) (slot ys) (slot loaded) (with_at (slot xs) p x) refl (slots_set xs ys p x within e)

pub loaded_set : (turned xs ys : List (Option Bits)) (p : ℕ) (x : Bits) → p < length xs → ys ≡ set xs p (Some x) →
    (let m : Words = record { loaded = slot ys; turned = slot turned } in m) ≡ with_loaded (record { loaded = slot xs; turned = slot turned }) p x
loaded_set turned xs ys p x within e = words_by (slot ys) (slot turned) (with_at (slot xs) p (Some x)) (slot turned) (slots_set xs ys p (Some x) within e) refl

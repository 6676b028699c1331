-- The steps of a trial's loops.
use Rattle.std.proofs.Common.{◌≡◌, ℕ, zero, suc, ◌+◌, ◌-◌, ◌/◌, ◌%◌, ◌<◌, ◌≤◌, ◌^◌, Bool, true, false, List, [], ◌∷◌, ◌++◌, length, map, take, drop, get_or, Option, Some, refl, sym, ap, ap₂, ◌∙◌, subst, arith, append_assoc, inl, inr}
use Rattle.std.specs.Prelude.{nat_eq, min, slice_index_or}
use Rattle.std.proofs.lemmas.List.{length-take, get_or-append_right}
use Rattle.std.proofs.Math.Nat.{div-div-eq-div-mul}
use Rattle.std.proofs.lemmas.Nat.{pow-add}
use Rattle.std.proofs.lemmas.Bool.{cases_Bool}
use Rattle.lola_bits.specs.BitLists.{number_of}
use Rattle.lola_bits.proofs.Places.{drop_item}
use Rattle.lola_elab.specs.declared.flat.Flat.{Flat}
use Rattle.lola_elab.specs.declared.vector.Vector.{Vector}
use Rattle.lola_elab.specs.Elaborated.{vector_widths}
use Rattle.lola_elab.proofs.Widths.{equal_is}
use Rattle.lola_app.specs.declared.obligation.Which.{Which}
use Rattle.lola_app.specs.declared.obligation.Which.TheVariants as which
use Rattle.lola_app.specs.declared.subject.Subject.{Subject}
use Rattle.lola_app.specs.Obligations.{total}
use Rattle.lola_app.specs.Values.{hex_digit, hex_digits}
use Rattle.lola_app.specs.Trial.{but_one, seen, tried_widths, IsTriable}
use Rattle.lola_app.specs.Valuations.{AreWithin}

-- one hexadecimal digit less
pub digit_step : (value rest i : ℕ) → rest ≡ value / 16 ^ i → rest / 16 ≡ value / 16 ^ (i + 1)
digit_step value rest i e = ap (λ (n : ℕ). n / 16) e ∙ div-div-eq-div-mul value (16 ^ i) 16 ∙ ap (λ (n : ℕ). value / n) (sym (pow-add 16 i 1))

-- one hexadecimal digit more
pub digits_step : (left value digit byte : ℕ) (text longer all : List ℕ) → 1 ≤ left → digit ≡ value / 16 ^ (left - 1) % 16 → byte ≡ hex_digit digit → text ++ hex_digits left value ≡ all → longer ≡ text ++ byte ∷ [] →
    longer ++ hex_digits (left - 1) value ≡ all
digits_step zero value digit byte text longer all some is spelled made more = absurd (omega (arith, some))
digits_step (suc k) value digit byte text longer all some is spelled made more =
    let less : suc k - 1 ≡ k = omega arith in
    let this : byte ≡ hex_digit (value / 16 ^ k % 16) = spelled ∙ ap hex_digit (is ∙ ap (λ (n : ℕ). value / 16 ^ n % 16) less) in
    ap (λ (xs : List ℕ). xs ++ hex_digits (suc k - 1) value) (more ∙ ap (λ (b : ℕ). text ++ b ∷ []) this)
    ∙ ap (λ (n : ℕ). (text ++ hex_digit (value / 16 ^ k % 16) ∷ []) ++ hex_digits n value) less
    ∙ append_assoc text (hex_digit (value / 16 ^ k % 16) ∷ []) (hex_digits k value) ∙ made

-- a list that goes on at a place is longer
drop_long : {X : Type 0} (xs : List X) (i : ℕ) (y : X) (ys : List X) → drop i xs ≡ y ∷ ys → i < length xs
drop_long [] zero y ys e = cc
drop_long [] (suc i) y ys e = cc
drop_long (x ∷ xs) zero y ys e = omega arith
drop_long (x ∷ xs) (suc i) y ys e = let h = drop_long xs i y ys e in omega (arith, h)

-- where nothing is left, all vectors are there
pub filled : (widths numbers : List ℕ) (vectors : List (List Bool)) (place : ℕ) → length numbers ≤ place → AreWithin (drop place widths) (drop place numbers) → map length vectors ++ drop place widths ≡ widths →
    map number_of vectors ++ drop place numbers ≡ numbers → (map length vectors ≡ widths) × (map number_of vectors ≡ numbers)
filled widths numbers vectors place end within long mean =
    let none : drop place numbers ≡ [] = dropped numbers place end in
    let nothing : drop place widths ≡ [] = empty (drop place widths) (subst (AreWithin (drop place widths)) none within) in (
      sym (append_none (map length vectors)) ∙ ap (λ (ws : List ℕ). map length vectors ++ ws) (sym nothing) ∙ long,
      sym (append_none (map number_of vectors)) ∙ ap (λ (ns : List ℕ). map number_of vectors ++ ns) (sym none) ∙ mean,
    )
  where
    dropped : (xs : List ℕ) (i : ℕ) → length xs ≤ i → drop i xs ≡ []
    dropped [] zero h = refl
    dropped [] (suc i) h = refl
    dropped (x ∷ xs) zero h = absurd (omega arith)
    dropped (x ∷ xs) (suc i) h = dropped xs i (omega arith)

    empty : (ws : List ℕ) → AreWithin ws [] → ws ≡ []
    empty [] within = refl
    empty (w ∷ ws) within = absurd within

    append_none : (xs : List ℕ) → xs ++ [] ≡ xs
    append_none [] = refl
    append_none (x ∷ xs) = ap (λ (l : List ℕ). x ∷ l) (append_none xs)

one_seen : (w n : ℕ) (ws ns : List ℕ) → seen (w ∷ ws) (n ∷ ns) ≡ seen (w ∷ []) (n ∷ []) ++ seen ws ns
one_seen w n ws ns = elim (cases_Bool (nat_eq w 1)) [
  | inl e ↦ rw e refl
  | inr e ↦ rw e refl
]

pub not_one : (n : ℕ) → (n ≡ 1 → ⊥) → nat_eq n 1 ≡ false
not_one n other = elim (cases_Bool (nat_eq n 1)) [
  | inl e ↦ absurd (other (equal_is n 1 e))
  | inr e ↦ e
]

pub some_left : (n : ℕ) → (n ≡ 0 → ⊥) → 1 ≤ n
some_left zero some = absurd (some refl)
some_left (suc n) some = omega arith

-- the next values of the registers that are left
module _ (wide : Flat → Option ℕ) (value : Flat → ℕ) where
  abbrev pub AreWide : List Flat → List Vector → Type 0
  AreWide flats registers = map wide flats ≡ map (λ (v : Vector). Some v.width) registers

  first_flat : (flats : List Flat) (r : Vector) (rs : List Vector) → AreWide flats (r ∷ rs) → (f : Flat) × ((fs : List Flat) × (flats ≡ f ∷ fs) × (wide f ≡ Some r.width) × AreWide fs rs)
  first_flat [] r rs e = cc
  first_flat (f ∷ fs) r rs e =
      let head : wide f ≡ Some r.width = cc in
      let tail : map wide fs ≡ map (λ (v : Vector). Some v.width) rs = cc in
      (f, (fs, refl, head, tail))

  pub record Next (registers : List Vector) (nexts : List Flat) (place : ℕ) (r : Vector) : Type 0 where
    pub inside : place < length nexts
    pub fits : (f : Flat) → f ≡ get_or nexts place f → wide f ≡ Some r.width
    pub later : AreWide (drop (place + 1) nexts) (drop (place + 1) registers)

  pub next_at : (registers : List Vector) (nexts : List Flat) (place : ℕ) (r : Vector) → place < length registers → r ≡ get_or registers place r → AreWide (drop place nexts) (drop place registers) → Next registers nexts place r
  next_at registers nexts place r there is e =
      let item : drop place registers ≡ r ∷ drop (place + 1) registers = drop_item registers place r there is in
      let first = first_flat (drop place nexts) r (drop (place + 1) registers) (subst (AreWide (drop place nexts)) item e) in
      let inside = drop_long nexts place first.0 first.1.0 first.1.1 in
      let same : (f : Flat) → f ≡ get_or nexts place f → (f ≡ first.0) × (drop (place + 1) nexts ≡ first.1.0) = λ f at.
      let both : f ∷ drop (place + 1) nexts ≡ first.0 ∷ first.1.0 = sym (drop_item nexts place f inside at) ∙ first.1.1 in
      (let h : f ≡ first.0 = cc in h, let t : drop (place + 1) nexts ≡ first.1.0 = cc in t) in
      record {
        inside = inside;
        fits = λ f at. ap wide (same f at).0 ∙ first.1.2;
        later = subst (λ (fs : List Flat). AreWide fs (drop (place + 1) registers)) (sym (same first.0 (taken nexts place first.0 first.1.0 first.1.1)).1) first.1.3;
      }
    where
      taken : (fs : List Flat) (i : ℕ) (f : Flat) (gs : List Flat) → drop i fs ≡ f ∷ gs → f ≡ get_or fs i f
      taken [] zero f gs e = cc
      taken [] (suc i) f gs e = cc
      taken (x ∷ fs) zero f gs e = cc
      taken (x ∷ fs) (suc i) f gs e = taken fs i f gs e

  -- one more
  pub next_step : (registers : List Vector) (nexts : List Flat) (place : ℕ) (r : Vector) (f : Flat) (after longer all : List Bool) → place < length registers → r ≡ get_or registers place r → AreWide (drop place nexts) (drop place registers) →
      f ≡ get_or nexts place f → after ++ seen (vector_widths (drop place registers)) (map value (drop place nexts)) ≡ all → longer ≡ after ++ seen (r.width ∷ []) (value f ∷ []) →
      longer ++ seen (vector_widths (drop (place + 1) registers)) (map value (drop (place + 1) nexts)) ≡ all
  next_step registers nexts place r f after longer all there is e at made more =
      let rest = seen (vector_widths (drop (place + 1) registers)) (map value (drop (place + 1) nexts)) in
      ap (λ (bs : List Bool). bs ++ rest) more ∙ append_assoc after (seen (r.width ∷ []) (value f ∷ [])) rest
      ∙ ap (λ (bs : List Bool). after ++ bs) (sym (one_seen r.width (value f) (vector_widths (drop (place + 1) registers)) (map value (drop (place + 1) nexts))))
      ∙ ap₂ (λ (rs : List Vector) (fs : List Flat). after ++ seen (vector_widths rs) (map value fs)) (sym (drop_item registers place r there is)) (sym (drop_item nexts place f (next_at registers nexts place r there is e).inside at)) ∙ made

  -- the next values of one bit behind a register of one bit, and behind a wider one
  next_items : (registers : List Vector) (nexts : List Flat) (place : ℕ) (r : Vector) → place < length registers → r ≡ get_or registers place r → AreWide (drop place nexts) (drop place registers) →
      (f : Flat) × (drop place nexts ≡ f ∷ drop (place + 1) nexts)
  next_items registers nexts place r there is e =
      let first = first_flat (drop place nexts) r (drop (place + 1) registers) (subst (AreWide (drop place nexts)) (drop_item registers place r there is) e) in
      (first.0, first.1.1 ∙ ap (λ (fs : List Flat). first.0 ∷ fs) (sym (behind nexts place first.0 first.1.0 first.1.1)))
    where
      behind : (fs : List Flat) (i : ℕ) (f : Flat) (gs : List Flat) → drop i fs ≡ f ∷ gs → drop (i + 1) fs ≡ gs
      behind [] zero f gs e = cc
      behind [] (suc i) f gs e = cc
      behind (x ∷ fs) zero f gs e =
          let first : drop (0 + 1) (x ∷ fs) ≡ fs = let n : 0 + 1 ≡ 1 = omega arith in ap (λ (k : ℕ). drop k (x ∷ fs)) n in
          let tail : fs ≡ gs = cc in first ∙ tail
      behind (x ∷ fs) (suc i) f gs e =
          let next : drop (suc i + 1) (x ∷ fs) ≡ drop (i + 1) fs = let n : suc i + 1 ≡ suc (i + 1) = omega arith in ap (λ (k : ℕ). drop k (x ∷ fs)) n in
          next ∙ behind fs i f gs e

  pub next_behind : (registers : List Vector) (nexts : List Flat) (place left : ℕ) (r : Vector) → place < length registers → r ≡ get_or registers place r → AreWide (drop place nexts) (drop place registers) →
      r.width ≡ 1 → 1 ≤ left →
      slice_index_or (seen (vector_widths (drop (place + 1) registers)) (map value (drop (place + 1) nexts))) (left - 1) false ≡ slice_index_or (seen (vector_widths (drop place registers)) (map value (drop place nexts))) left false
  next_behind registers nexts place left r there is e one some =
      let items = next_items registers nexts place r there is e in
      let on : nat_eq r.width 1 ≡ true = ap (λ (n : ℕ). nat_eq n 1) one in
      let step : seen (vector_widths (r ∷ drop (place + 1) registers)) (map value (items.0 ∷ drop (place + 1) nexts)) ≡ nat_eq (value items.0) 1 ∷ seen (vector_widths (drop (place + 1) registers)) (map value (drop (place + 1) nexts)) =
      rw on refl in
      later (nat_eq (value items.0) 1) (seen (vector_widths (drop (place + 1) registers)) (map value (drop (place + 1) nexts))) left some
      ∙ ap (λ (bs : List Bool). slice_index_or bs left false) (sym step)
      ∙ ap₂ (λ (rs : List Vector) (fs : List Flat). slice_index_or (seen (vector_widths rs) (map value fs)) left false) (sym (drop_item registers place r there is)) (sym items.1)
    where
      later : (b : Bool) (bs : List Bool) (left : ℕ) → 1 ≤ left → slice_index_or bs (left - 1) false ≡ slice_index_or (b ∷ bs) left false
      later b bs zero some = absurd (omega (arith, some))
      later b bs (suc left) some = let less : suc left - 1 ≡ left = omega arith in ap (λ (n : ℕ). slice_index_or bs n false) less

  pub next_passed : (registers : List Vector) (nexts : List Flat) (place left : ℕ) (r : Vector) → place < length registers → r ≡ get_or registers place r → AreWide (drop place nexts) (drop place registers) →
      nat_eq r.width 1 ≡ false →
      slice_index_or (seen (vector_widths (drop (place + 1) registers)) (map value (drop (place + 1) nexts))) left false ≡ slice_index_or (seen (vector_widths (drop place registers)) (map value (drop place nexts))) left false
  next_passed registers nexts place left r there is e off =
      let items = next_items registers nexts place r there is e in
      let step : seen (vector_widths (r ∷ drop (place + 1) registers)) (map value (items.0 ∷ drop (place + 1) nexts)) ≡ seen (vector_widths (drop (place + 1) registers)) (map value (drop (place + 1) nexts)) = rw off refl in
      ap (λ (bs : List Bool). slice_index_or bs left false) (sym step)
      ∙ ap₂ (λ (rs : List Vector) (fs : List Flat). slice_index_or (seen (vector_widths rs) (map value fs)) left false) (sym (drop_item registers place r there is)) (sym items.1)

-- a leaf behind those of the inputs
pub behind_inputs : (k : ℕ) (before rest : List Bool) (leaf m : ℕ) → m ≡ min k (length before) → m ≤ leaf → slice_index_or (take k before ++ rest) leaf false ≡ slice_index_or rest (leaf - m) false
behind_inputs k before rest leaf m is behind = get_or-append_right (take k before) rest m leaf false (length-take k before ∙ sym is) behind

same_most : (n : ℕ) → n ≤ n
same_most n = omega arith

nothing_left : (n : ℕ) → drop {A = ℕ} n [] ≡ []
nothing_left zero = refl
nothing_left (suc n) = refl

-- vectors but one have no more bits than all
but_one_few : (place : ℕ) (ws vs : List ℕ) → total (but_one place ws vs) ≤ total (ws ++ vs)
but_one_few zero [] vs = same_most (total vs)
but_one_few (suc place) [] vs = subst (λ (l : List ℕ). total (l ++ vs) ≤ total vs) (sym (nothing_left (suc place + 1))) (same_most (total vs))
but_one_few zero (w ∷ ws) vs =
    let first : drop (0 + 1) (w ∷ ws) ≡ ws = let n : 0 + 1 ≡ 1 = omega arith in ap (λ (k : ℕ). drop k (w ∷ ws)) n in
    subst (λ (l : List ℕ). total (l ++ vs) ≤ w + total (ws ++ vs)) (sym first) (omega arith)
but_one_few (suc place) (w ∷ ws) vs =
    let next : drop (suc place + 1) (w ∷ ws) ≡ drop (place + 1) ws = let n : suc place + 1 ≡ suc (place + 1) = omega arith in ap (λ (k : ℕ). drop k (w ∷ ws)) n in
    let h = but_one_few place ws vs in
    subst (λ (l : List ℕ). w + total (take place ws ++ (l ++ vs)) ≤ w + total (ws ++ vs)) (sym next) (omega (arith, h))

pub tried_few : (subject : Subject) (which : Which) → IsTriable subject → total (tried_widths subject which) ≤ 16777216
tried_few subject which.Cover is = omega arith
tried_few subject (which.Reset goal) is =
    let h = but_one_few subject.reset (vector_widths subject.design.inputs.items) (vector_widths subject.design.registers.items) in
    let f = is.few in
    omega (arith, h, f)
tried_few subject (which.End goal) is =
    let h = but_one_few subject.reset (vector_widths subject.design.inputs.items) (vector_widths subject.design.registers.items) in
    let f = is.few in
    omega (arith, h, f)

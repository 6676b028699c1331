-- Numbers that are read are those that are written.
use Rattle.std.proofs.Common.{◌≡◌, ◌≢◌, ℕ, zero, suc, ◌+◌, ◌-◌, ◌*◌, ◌^◌, ◌<◌, ◌≤◌, ℤ, pos, negsuc, neg_ℤ, unsigned_abs, Bool, true, false, not, ◌&&◌, nat_eq, nat_lt, decimal, List, [], ◌∷◌, length, get_or, drop, Option, None, Some, refl, sym, ◌∙◌, ap, subst, arith, inl, inr}
use Rattle.std.specs.Fmt.{signed_decimal}
use Rattle.std.proofs.lemmas.Bool.{cases_Bool}
use Rattle.std.proofs.lemmas.List.{drop_more}
use Rattle.std.proofs.lemmas.Bool.Decides.{Decides-eqb, Decides-ltb, not_from_Decides}
use Rattle.std.proofs.lemmas.Str.Parse.{IsNumeralModel, numerals_by_fold}
use Rattle.std.proofs.lemmas.Fmt.{digits_decimal, digits_value-decimal, decimal-digits_value, decimal_nonempty, first_decimal, decimal_digit}
use Rattle.lola_bits.proofs.Options.{some_same, nothing}
use Rattle.lola_bits.proofs.Tests.{not_both}
use Rattle.lrat_text.specs.Text.{IsId, IsLiteral, IsHint}
use Rattle.lrat_text.specs.Number.{is_digit, next_value, value_from, read_number, ranged, read_id, positive, negative, read_hint, small, read_literal}

-- all are digits, and the number that they write behind another
abbrev pub all_digits : List ℕ → Bool
all_digits [] = true
all_digits (d ∷ ds) = is_digit d && all_digits ds

abbrev pub on_from : ℕ → List ℕ → ℕ
on_from n [] = n
on_from n (d ∷ ds) = on_from (n * 10 + (d - 48)) ds

pub both : (a b : Bool) → (a && b) ≡ true → (a ≡ true) × (b ≡ true)
both true b e = (refl, e)
both false b e = let q : false ≡ true = e in absurd (cc)

pub digit_low : (d : ℕ) → is_digit d ≡ true → 48 ≤ d
digit_low d e = elim (cases_Bool (nat_lt d 48)) [
  | inl t ↦ let q : false ≡ true = rw t at e in absurd (cc)
  | inr f ↦ let n = not_from_Decides _ (Decides-ltb d 48) f in omega (arith, n)
]

digit_high : (d : ℕ) → is_digit d ≡ true → d ≤ 57
digit_high d e = elim (cases_Bool (nat_lt 57 d)) [
  | inl t ↦ let r : not (nat_lt 57 d) ≡ true = (both (not (nat_lt d 48)) (not (nat_lt 57 d)) e).1 in let s : false ≡ true = rw t at r in absurd (cc)
  | inr f ↦ let n = not_from_Decides _ (Decides-ltb 57 d) f in omega (arith, n)
]

is_a_digit : (d : ℕ) → 48 ≤ d → d ≤ 57 → is_digit d ≡ true
is_a_digit d l h = elim (cases_Bool (nat_lt d 48)) [
  | inl t ↦ let q : d < 48 = (Decides-ltb d 48).0 t in absurd (omega (arith, q, l))
  | inr f ↦ elim (cases_Bool (nat_lt 57 d)) [
    | inl t ↦ let q : 57 < d = (Decides-ltb 57 d).0 t in absurd (omega (arith, q, h))
    | inr g ↦ rw (f, g) refl
  ]
]

own : IsNumeralModel (λ ds. all_digits ds ≡ true) (on_from 0)
own = numerals_by_fold _ (record {
  empty = refl;
  parts = λ c cs e. let p = both (is_digit c) (all_digits cs) e in ((digit_low c p.0, digit_high c p.0), p.1);
  more = λ c cs r e. rw (is_a_digit c r.0 r.1) e;
}) on_from (record { empty = λ n. refl; more = λ n c cs r. refl })

on_from_le : (v : ℕ) (ds : List ℕ) → v ≤ on_from v ds
on_from_le v [] = omega arith
on_from_le v (d ∷ ds) = let h = on_from_le (v * 10 + (d - 48)) ds in omega (arith, h)

value_sound : (v n : ℕ) (ds : List ℕ) → v < 2 ^ 64 → value_from v ds ≡ Some n → (all_digits ds ≡ true) × ((on_from v ds ≡ n) × (n < 2 ^ 64))
value_sound v n [] h e = let same = some_same v n e in (refl, (same, subst (λ (m : ℕ). m < 2 ^ 64) same h))
value_sound v n (d ∷ ds) h e = elim (cases_Bool (is_digit d && nat_lt (v * 10 + (d - 48)) (2 ^ 64))) [
  | inl t ↦ let p = both (is_digit d) (nat_lt (v * 10 + (d - 48)) (2 ^ 64)) t in
      let q = value_sound (v * 10 + (d - 48)) n ds ((Decides-ltb _ _).0 p.1) (rw t at e) in (rw p.0 q.0, q.1)
  | inr f ↦ nothing n (rw f at e)
]

value_complete : (v : ℕ) (ds : List ℕ) → all_digits ds ≡ true → on_from v ds < 2 ^ 64 → value_from v ds ≡ Some (on_from v ds)
value_complete v [] a h = refl
value_complete v (d ∷ ds) a h =
    let p = both (is_digit d) (all_digits ds) a in
    let l = on_from_le (v * 10 + (d - 48)) ds in
    let t : nat_lt (v * 10 + (d - 48)) (2 ^ 64) ≡ true = (Decides-ltb _ _).1 (omega (arith, l, h)) in
    rw (p.0, t) (value_complete (v * 10 + (d - 48)) ds p.1 h)

pub number_sound : (ds : List ℕ) (n : ℕ) → read_number ds ≡ Some n → (ds ≡ decimal n) × (n < 2 ^ 64)
number_sound [] n e = nothing n e
number_sound (d ∷ []) n e =
    let p = value_sound 0 n (d ∷ []) (omega arith) e in
    let w = decimal-digits_value own (d ∷ []) p.0 (omega arith) (λ _. refl) (rw p.1.0 p.1.1) in
    (sym w ∙ ap decimal p.1.0, p.1.1)
number_sound (d ∷ f ∷ ds) n e = elim (cases_Bool (nat_eq d 48)) [
  | inl t ↦ nothing n (rw t at e)
  | inr g ↦
      let p = value_sound 0 n (d ∷ f ∷ ds) (omega arith) (rw g at e) in
      let w = decimal-digits_value own (d ∷ f ∷ ds) p.0 (omega arith) (λ z. not_both ((Decides-eqb d 48).1 z) g) (rw p.1.0 p.1.1) in
      (sym w ∙ ap decimal p.1.0, p.1.1)
]

read_digits : (ds : List ℕ) → all_digits ds ≡ true → 0 < length ds → (2 ≤ length ds → get_or ds 0 0 ≢ 48) → on_from 0 ds < 2 ^ 64 → read_number ds ≡ Some (on_from 0 ds)
read_digits [] a l f h = absurd (omega (arith, l))
read_digits (d ∷ []) a l f h = value_complete 0 (d ∷ []) a h
read_digits (d ∷ e ∷ ds) a l f h = elim (cases_Bool (nat_eq d 48)) [
  | inl t ↦ absurd (f (omega arith) ((Decides-eqb d 48).0 t))
  | inr g ↦ rw g (value_complete 0 (d ∷ e ∷ ds) a h)
]

pub number_complete : (n : ℕ) → n < 2 ^ 64 → read_number (decimal n) ≡ Some n
number_complete n h =
    let v = digits_value-decimal own n h in
    read_digits (decimal n) (digits_decimal own n h) (decimal_nonempty n h)
    (λ l z. elim (cases_Bool (nat_eq n 0)) [
      | inl t ↦ let e : n ≡ 0 = (Decides-eqb n 0).0 t in
          let one : length (decimal n) ≡ 1 = ap length (ap decimal e ∙ decimal_digit 0 (omega arith)) in absurd (omega (arith, l, one))
      | inr g ↦ let p : n ≢ 0 = not_from_Decides _ (Decides-eqb n 0) g in let q = first_decimal n (omega (arith, p)) h in absurd (omega (arith, q, z))
    ])
    (rw v h) ∙ ap Some v

pub decimal_digits : (n : ℕ) → n < 2 ^ 64 → all_digits (decimal n) ≡ true
decimal_digits n h = digits_decimal own n h

ranged_sound : (o : Option ℕ) (n : ℕ) → ranged o ≡ Some n → (o ≡ Some n) × IsId n
ranged_sound None n e = nothing n e
ranged_sound (Some m) n e = elim (cases_Bool (nat_eq m 0)) [
  | inl t ↦ nothing n (rw t at e)
  | inr f ↦ elim (cases_Bool (nat_lt m (2 ^ 63))) [
    | inl t ↦ let same = some_same m n (rw (f, t) at e) in let p : m ≢ 0 = not_from_Decides _ (Decides-eqb m 0) f in
        let b : m < 2 ^ 63 = (Decides-ltb m (2 ^ 63)).0 t in
        (ap Some same, record { positive = omega (arith, p, same); below = omega (arith, b, same) })
    | inr g ↦ nothing n (rw (f, g) at e)
  ]
]

pub id_sound : (item : List ℕ) (n : ℕ) → read_id item ≡ Some n → (item ≡ decimal n) × IsId n
id_sound item n e = let p = ranged_sound (read_number item) n e in ((number_sound item n p.0).0, p.1)

pub id_complete : (n : ℕ) → IsId n → read_id (decimal n) ≡ Some n
id_complete n i =
    let p = i.positive in let b = i.below in
    let z : nat_eq n 0 ≡ false = elim (cases_Bool (nat_eq n 0)) [ inl t ↦ let q : n ≡ 0 = (Decides-eqb n 0).0 t in absurd (omega (arith, q, p)) | inr f ↦ f ] in
    let l : nat_lt n (2 ^ 63) ≡ true = (Decides-ltb n (2 ^ 63)).1 b in
    ap ranged (number_complete n (omega (arith, b))) ∙ (rw (z, l) refl)

positive_sound : (o : Option ℕ) (h : ℤ) → positive o ≡ Some h → (n : ℕ) × ((o ≡ Some n) × (pos n ≡ h))
positive_sound None h e = nothing h e
positive_sound (Some n) h e = (n, (refl, some_same (pos n) h e))

negative_sound : (o : Option ℕ) (h : ℤ) → negative o ≡ Some h → (n : ℕ) × ((o ≡ Some n) × (neg_ℤ (pos n) ≡ h))
negative_sound None h e = nothing h e
negative_sound (Some n) h e = (n, (refl, some_same (neg_ℤ (pos n)) h e))

minus : (n : ℕ) (bs : List ℕ) → IsId n → bs ≡ decimal n → (45 ∷ bs ≡ signed_decimal (neg_ℤ (pos n))) × IsHint (neg_ℤ (pos n))
minus zero bs i e = let p = i.positive in absurd (omega (arith, p))
minus (suc m) bs i e = (ap (λ (x : List ℕ). 45 ∷ x) e, record { positive = i.positive; below = i.below })

pub hint_sound : (item : List ℕ) (h : ℤ) → read_hint item ≡ Some h → (item ≡ signed_decimal h) × IsHint h
hint_sound [] h e = nothing h e
hint_sound (b ∷ bs) h e = elim (cases_Bool (nat_eq b 45)) [
  | inl t ↦
      let p = negative_sound (read_id bs) h (rw t at e) in
      let q = id_sound bs p.0 p.1.0 in
      let r = minus p.0 bs q.1 q.0 in
      (ap (λ (x : ℕ). x ∷ bs) ((Decides-eqb b 45).0 t) ∙ r.0 ∙ ap signed_decimal p.1.1, subst IsHint p.1.1 r.1)
  | inr f ↦
      let p = positive_sound (read_id (b ∷ bs)) h (rw f at e) in
      let q = id_sound (b ∷ bs) p.0 p.1.0 in
      (q.0 ∙ ap signed_decimal p.1.1, subst IsHint p.1.1 (record { positive = q.1.positive; below = q.1.below }))
]

without_minus : (ds : List ℕ) (o : Option ℕ) (n : ℕ) → all_digits ds ≡ true → read_id ds ≡ Some n → read_hint ds ≡ Some (pos n)
without_minus [] o n a e = nothing n e
without_minus (d ∷ ds) o n a e =
    let l = digit_low d (both (is_digit d) (all_digits ds) a).0 in
    let f : nat_eq d 45 ≡ false = elim (cases_Bool (nat_eq d 45)) [ inl t ↦ let q : d ≡ 45 = (Decides-eqb d 45).0 t in absurd (omega (arith, q, l)) | inr g ↦ g ] in
    rw (f, e) refl

pub hint_complete : (h : ℤ) → IsHint h → read_hint (signed_decimal h) ≡ Some h
hint_complete (pos n) i = let b = i.below in without_minus (decimal n) None n (decimal_digits n (omega (arith, b))) (id_complete n (record { positive = i.positive; below = i.below }))
hint_complete (negsuc m) i = ap negative (id_complete (suc m) (record { positive = i.positive; below = i.below }))

small_sound : (o : Option ℤ) (l : ℤ) → small o ≡ Some l → (o ≡ Some l) × (unsigned_abs l < 2 ^ 31)
small_sound None l e = nothing l e
small_sound (Some h) l e = elim (cases_Bool (nat_lt (unsigned_abs h) (2 ^ 31))) [
  | inl t ↦ let same = some_same h l (rw t at e) in (ap Some same, subst (λ (z : ℤ). unsigned_abs z < 2 ^ 31) same ((Decides-ltb _ _).0 t))
  | inr f ↦ nothing l (rw f at e)
]

pub literal_sound : (item : List ℕ) (l : ℤ) → read_literal item ≡ Some l → (item ≡ signed_decimal l) × IsLiteral l
literal_sound item l e = let p = small_sound (read_hint item) l e in let q = hint_sound item l p.0 in (q.0, record { positive = q.1.positive; below = p.1 })

pub literal_complete : (l : ℤ) → IsLiteral l → read_literal (signed_decimal l) ≡ Some l
literal_complete l i = let b = i.below in
    ap small (hint_complete l (record { positive = i.positive; below = omega (arith, b) })) ∙ (let t : nat_lt (unsigned_abs l) (2 ^ 31) ≡ true = (Decides-ltb _ _).1 b in rw t refl)

-- one digit more of those that are read
pub one_digit : (v w i d : ℕ) (digits : List ℕ) (R : Option ℕ) → i < length digits → d ≡ get_or digits i 0 → Some w ≡ next_value v d → value_from v (drop i digits) ≡ R → value_from w (drop (i + 1) digits) ≡ R
one_digit v w i d digits R h is e inv = elim (cases_Bool (is_digit d && nat_lt (v * 10 + (d - 48)) (2 ^ 64))) [
  | inl t ↦
      let same : v * 10 + (d - 48) ≡ w = some_same (v * 10 + (d - 48)) w (sym (rw t at e)) in
      let front : drop i digits ≡ d ∷ drop (i + 1) digits = drop_more digits i 0 h ∙ ap (λ (x : ℕ). x ∷ drop (i + 1) digits) (sym is) in
      let one : value_from v (d ∷ drop (i + 1) digits) ≡ value_from (v * 10 + (d - 48)) (drop (i + 1) digits) = rw t refl in
      ap (λ (x : ℕ). value_from x (drop (i + 1) digits)) (sym same) ∙ sym one ∙ subst (λ (ds : List ℕ). value_from v ds ≡ R) front inv
  | inr f ↦ nothing w (sym (rw f at e))
]

pub no_digit : (v i d : ℕ) (digits : List ℕ) (R : Option ℕ) → i < length digits → d ≡ get_or digits i 0 → None ≡ next_value v d → value_from v (drop i digits) ≡ R → None ≡ R
no_digit v i d digits R h is e inv = elim (cases_Bool (is_digit d && nat_lt (v * 10 + (d - 48)) (2 ^ 64))) [
  | inl t ↦ nothing (v * 10 + (d - 48)) (rw t at e)
  | inr f ↦
      let front : drop i digits ≡ d ∷ drop (i + 1) digits = drop_more digits i 0 h ∙ ap (λ (x : ℕ). x ∷ drop (i + 1) digits) (sym is) in
      let one : value_from v (d ∷ drop (i + 1) digits) ≡ None = rw f refl in
      sym one ∙ subst (λ (ds : List ℕ). value_from v ds ≡ R) front inv
]

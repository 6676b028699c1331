-- What the items of a line are, is what is written so.
use Rattle.std.proofs.Common.{◌≡◌, ◌≢◌, ℕ, suc, ℤ, true, false, nat_eq, bytes_eq, codes, decimal, List, [], ◌∷◌, ◌++◌, map, length, Option, None, Some, refl, sym, ◌∙◌, ap, ap₂, subst, arith, inl, inr}
use Rattle.std.specs.Fmt.{signed_decimal}
use Rattle.std.specs.List.{AllByRecursion, list_all}
use Rattle.std.proofs.lemmas.Bool.{cases_Bool}
use Rattle.std.proofs.lemmas.Bool.Decides.{Decides-eqb, not_from_Decides}
use Rattle.std.proofs.lemmas.Slice.Eq.{bytes_eq-Decides}
use Rattle.lola_bits.proofs.Options.{some_same, nothing}
use Rattle.lrat_check.specs.declared.clause.Clause.{Clause}
use Rattle.lrat_check.specs.declared.line.Line.TheVariants.{Add, Delete}
use Rattle.lrat_text.specs.Text.{TextLine, First, Named, Taken, Ended, text_items, TextFits, is_name_byte, IsId, IsLiteral, IsHint}
use Rattle.lrat_text.specs.Number.{read_number, read_id, read_hint, read_literal}
use Rattle.lrat_text.specs.Parse.{with_number, numbers, deleted, hinted, added, numbered, of_id, named, of_count, ended, first, parse}
use Rattle.lrat_text.proofs.Decimals.{number_sound, number_complete, id_sound, id_complete, hint_sound, hint_complete, literal_sound, literal_complete}

same_bytes : (x y : List ℕ) → bytes_eq x y ≡ true → x ≡ y
same_bytes x y t = (bytes_eq-Decides x y).0 t

-- what can't be read is no number
other_word : {N : Type 0} (read : List ℕ → Option N) (item word : List ℕ) (n : N) → read item ≡ Some n → read word ≡ None → bytes_eq item word ≡ false
other_word {N = N} read item word n e none = elim (cases_Bool (bytes_eq item word)) [
  | inl t ↦ nothing n (sym none ∙ ap read (sym (same_bytes item word t)) ∙ e)
  | inr f ↦ f
]

module _ {N : Type 0} (read : List ℕ → Option N) (text : N → List ℕ) (Fit : N → Type 0)
    (sound : (x : List ℕ) (n : N) → read x ≡ Some n → (x ≡ text n) × Fit n) (complete : (n : N) → Fit n → read (text n) ≡ Some n) (zero_none : read (codes "0") ≡ None) where
  with_sound : (x : List ℕ) (xs : List (List ℕ)) (r : Option N) (o : Option (List N × List (List ℕ))) (p : List N × List (List ℕ)) → read x ≡ r
      → ((q : List N × List (List ℕ)) → o ≡ Some q → (xs ≡ map text q.0 ++ codes "0" ∷ q.1) × AllByRecursion Fit q.0) → with_number r o ≡ Some p
      → (x ∷ xs ≡ map text p.0 ++ codes "0" ∷ p.1) × AllByRecursion Fit p.0
  with_sound x xs None o p r h e = nothing p e
  with_sound x xs (Some n) None p r h e = nothing p e
  with_sound x xs (Some n) (Some q) p r h e =
      let s = sound x n r in
      let i = h q refl in
      let same = some_same (n ∷ q.0, q.1) p e in
      subst (λ (z : List N × List (List ℕ)). (x ∷ xs ≡ map text z.0 ++ codes "0" ∷ z.1) × AllByRecursion Fit z.0) same (ap₂ (λ (y : List ℕ) (ys : List (List ℕ)). y ∷ ys) s.0 i.0, (s.1, i.1))

  pub numbers_sound : (xs : List (List ℕ)) (p : List N × List (List ℕ)) → numbers read xs ≡ Some p → (xs ≡ map text p.0 ++ codes "0" ∷ p.1) × AllByRecursion Fit p.0
  numbers_sound [] p e = nothing p e
  numbers_sound (x ∷ xs) p e = elim (cases_Bool (bytes_eq x (codes "0"))) [
    | inl t ↦ let same = some_same ([], xs) p (rw t at e) in
        subst (λ (z : List N × List (List ℕ)). (x ∷ xs ≡ map text z.0 ++ codes "0" ∷ z.1) × AllByRecursion Fit z.0) same (ap (λ (y : List ℕ). y ∷ xs) (same_bytes x (codes "0") t), tt)
    | inr f ↦ with_sound x xs (read x) (numbers read xs) p refl (numbers_sound xs) (rw f at e)
  ]

  pub numbers_complete : (ns : List N) (rest : List (List ℕ)) → AllByRecursion Fit ns → numbers read (map text ns ++ codes "0" ∷ rest) ≡ Some (ns, rest)
  numbers_complete [] rest a = refl
  numbers_complete (n ∷ ns) rest a =
      let r = complete n a.0 in
      rw (other_word read (text n) (codes "0") n r zero_none, r, numbers_complete ns rest a.1) refl

pub ids_sound : (xs : List (List ℕ)) (p : List ℕ × List (List ℕ)) → numbers read_id xs ≡ Some p → (xs ≡ map decimal p.0 ++ codes "0" ∷ p.1) × AllByRecursion IsId p.0
ids_sound = numbers_sound read_id decimal IsId id_sound id_complete refl

ids_complete : (ns : List ℕ) (rest : List (List ℕ)) → AllByRecursion IsId ns → numbers read_id (map decimal ns ++ codes "0" ∷ rest) ≡ Some (ns, rest)
ids_complete = numbers_complete read_id decimal IsId id_sound id_complete refl

hints_sound : (xs : List (List ℕ)) (p : List ℤ × List (List ℕ)) → numbers read_hint xs ≡ Some p → (xs ≡ map signed_decimal p.0 ++ codes "0" ∷ p.1) × AllByRecursion IsHint p.0
hints_sound = numbers_sound read_hint signed_decimal IsHint hint_sound hint_complete refl

hints_complete : (ns : List ℤ) (rest : List (List ℕ)) → AllByRecursion IsHint ns → numbers read_hint (map signed_decimal ns ++ codes "0" ∷ rest) ≡ Some (ns, rest)
hints_complete = numbers_complete read_hint signed_decimal IsHint hint_sound hint_complete refl

literals_sound : (xs : List (List ℕ)) (p : List ℤ × List (List ℕ)) → numbers read_literal xs ≡ Some p → (xs ≡ map signed_decimal p.0 ++ codes "0" ∷ p.1) × AllByRecursion IsLiteral p.0
literals_sound = numbers_sound read_literal signed_decimal IsLiteral literal_sound literal_complete refl

literals_complete : (ns : List ℤ) (rest : List (List ℕ)) → AllByRecursion IsLiteral ns → numbers read_literal (map signed_decimal ns ++ codes "0" ∷ rest) ≡ Some (ns, rest)
literals_complete = numbers_complete read_literal signed_decimal IsLiteral literal_sound literal_complete refl

none_left : (xs : List (List ℕ)) → nat_eq (length xs) 0 ≡ true → xs ≡ []
none_left [] t = refl
none_left (x ∷ xs) t = let q : suc (length xs) ≡ 0 = (Decides-eqb (suc (length xs)) 0).0 t in absurd (omega (arith, q))

-- the items are those of a line, which fits
abbrev pub IsOf : List (List ℕ) → TextLine → Type 0
IsOf xs t = (xs ≡ text_items t) × TextFits t

deleted_sound : (x : List ℕ) (id : ℕ) (xs : List (List ℕ)) (o : Option (List ℕ × List (List ℕ))) (t : TextLine) → numbers read_id xs ≡ o → x ≡ decimal id → IsId id
    → deleted id o ≡ Some t → IsOf (x ∷ codes "d" ∷ xs) t
deleted_sound x id xs None t n e i d = nothing t d
deleted_sound x id xs (Some p) t n e i d = elim (cases_Bool (nat_eq (length p.1) 0)) [
  | inl z ↦
      let s = ids_sound xs p n in
      let all : xs ≡ map decimal p.0 ++ codes "0" ∷ [] = s.0 ∙ ap (λ (r : List (List ℕ)). map decimal p.0 ++ codes "0" ∷ r) (none_left p.1 z) in
      subst (IsOf (x ∷ codes "d" ∷ xs)) (some_same (Taken (Delete id p.0)) t (rw z at d)) (ap₂ (λ (y : List ℕ) (ys : List (List ℕ)). y ∷ codes "d" ∷ ys) e all, (i, s.1))
  | inr f ↦ nothing t (rw f at d)
]

hinted_sound : (x : List ℕ) (id : ℕ) (literals : List ℤ) (xs ys : List (List ℕ)) (o : Option (List ℤ × List (List ℕ))) (t : TextLine) → numbers read_hint ys ≡ o → x ≡ decimal id → IsId id
    → xs ≡ map signed_decimal literals ++ codes "0" ∷ ys → AllByRecursion IsLiteral literals → hinted id literals o ≡ Some t → IsOf (x ∷ xs) t
hinted_sound x id literals xs ys None t n e i l a d = nothing t d
hinted_sound x id literals xs ys (Some p) t n e i l a d = elim (cases_Bool (nat_eq (length p.1) 0)) [
  | inl z ↦
      let s = hints_sound ys p n in
      let all : ys ≡ map signed_decimal p.0 ++ codes "0" ∷ [] = s.0 ∙ ap (λ (r : List (List ℕ)). map signed_decimal p.0 ++ codes "0" ∷ r) (none_left p.1 z) in
      subst (IsOf (x ∷ xs)) (some_same (Taken (Add id (record { literals = literals }) p.0)) t (rw z at d))
      (ap₂ (λ (y : List ℕ) (zs : List (List ℕ)). y ∷ zs) e (l ∙ ap (λ (r : List (List ℕ)). map signed_decimal literals ++ codes "0" ∷ r) all), (i, (a, s.1)))
  | inr f ↦ nothing t (rw f at d)
]

added_sound : (x : List ℕ) (id : ℕ) (xs : List (List ℕ)) (o : Option (List ℤ × List (List ℕ))) (t : TextLine) → numbers read_literal xs ≡ o → x ≡ decimal id → IsId id
    → added id o ≡ Some t → IsOf (x ∷ xs) t
added_sound x id xs None t n e i d = nothing t d
added_sound x id xs (Some p) t n e i d = let s = literals_sound xs p n in hinted_sound x id p.0 xs p.1 (numbers read_hint p.1) t refl e i s.0 s.1 d

numbered_sound : (x : List ℕ) (id : ℕ) (xs : List (List ℕ)) (t : TextLine) → x ≡ decimal id → IsId id → numbered id xs ≡ Some t → IsOf (x ∷ xs) t
numbered_sound x id [] t e i d = nothing t d
numbered_sound x id (y ∷ ys) t e i d = elim (cases_Bool (bytes_eq y (codes "d"))) [
  | inl z ↦ let w = deleted_sound x id ys (numbers read_id ys) t refl e i (rw z at d) in
      subst (λ (v : List ℕ). IsOf (x ∷ v ∷ ys) t) (sym (same_bytes y (codes "d") z)) w
  | inr f ↦ added_sound x id (y ∷ ys) (numbers read_literal (y ∷ ys)) t refl e i (rw f at d)
]

of_id_sound : (x : List ℕ) (xs : List (List ℕ)) (o : Option ℕ) (t : TextLine) → read_id x ≡ o → of_id o xs ≡ Some t → IsOf (x ∷ xs) t
of_id_sound x xs None t r d = nothing t d
of_id_sound x xs (Some id) t r d = let s = id_sound x id r in numbered_sound x id xs t s.0 s.1 d

named_sound : (xs : List (List ℕ)) (t : TextLine) → named xs ≡ Some t → IsOf (codes "o" ∷ xs) t
named_sound [] t d = nothing t d
named_sound (name ∷ []) t d = elim (cases_Bool (nat_eq (length name) 0)) [
  | inl z ↦ nothing t (rw z at d)
  | inr f ↦ elim (cases_Bool (list_all is_name_byte name)) [
    | inl b ↦ let p : length name ≢ 0 = not_from_Decides _ (Decides-eqb (length name) 0) f in
        subst (IsOf (codes "o" ∷ name ∷ [])) (some_same (Named name) t (rw (f, b) at d)) (refl, record { some = omega (arith, p); bytes = b })
    | inr g ↦ nothing t (rw (f, g) at d)
  ]
]
named_sound (name ∷ x ∷ xs) t d = nothing t d

of_count_sound : (x : List ℕ) (o : Option ℕ) (t : TextLine) → read_number x ≡ o → of_count o ≡ Some t → IsOf (codes "end" ∷ x ∷ []) t
of_count_sound x None t r d = nothing t d
of_count_sound x (Some n) t r d = let s = number_sound x n r in
    subst (IsOf (codes "end" ∷ x ∷ [])) (some_same (Ended n) t d) (ap (λ (y : List ℕ). codes "end" ∷ y ∷ []) s.0, s.1)

ended_sound : (xs : List (List ℕ)) (t : TextLine) → ended xs ≡ Some t → IsOf (codes "end" ∷ xs) t
ended_sound [] t d = nothing t d
ended_sound (count ∷ []) t d = of_count_sound count (read_number count) t refl d
ended_sound (count ∷ x ∷ xs) t d = nothing t d

first_sound : (xs : List (List ℕ)) (t : TextLine) → first xs ≡ Some t → IsOf (codes "lola-cert" ∷ xs) t
first_sound [] t d = nothing t d
first_sound (one ∷ []) t d = elim (cases_Bool (bytes_eq one (codes "1"))) [
  | inl z ↦ subst (IsOf (codes "lola-cert" ∷ one ∷ [])) (some_same First t (rw z at d)) (ap (λ (y : List ℕ). codes "lola-cert" ∷ y ∷ []) (same_bytes one (codes "1") z), tt)
  | inr f ↦ nothing t (rw f at d)
]
first_sound (one ∷ x ∷ xs) t d = nothing t d

pub parse_sound : (xs : List (List ℕ)) (t : TextLine) → parse xs ≡ Some t → IsOf xs t
parse_sound [] t d = nothing t d
parse_sound (x ∷ xs) t d = elim (cases_Bool (bytes_eq x (codes "o"))) [
  | inl a ↦ subst (λ (y : List ℕ). IsOf (y ∷ xs) t) (sym (same_bytes x (codes "o") a)) (named_sound xs t (rw a at d))
  | inr a ↦ elim (cases_Bool (bytes_eq x (codes "end"))) [
    | inl b ↦ subst (λ (y : List ℕ). IsOf (y ∷ xs) t) (sym (same_bytes x (codes "end") b)) (ended_sound xs t (rw (a, b) at d))
    | inr b ↦ elim (cases_Bool (bytes_eq x (codes "lola-cert"))) [
      | inl e ↦ subst (λ (y : List ℕ). IsOf (y ∷ xs) t) (sym (same_bytes x (codes "lola-cert") e)) (first_sound xs t (rw (a, b, e) at d))
      | inr e ↦ of_id_sound x xs (read_id x) t refl (rw (a, b, e) at d)
    ]
  ]
]

-- what is written of a line is parsed to it
numbered_complete : (id : ℕ) (clause : Clause) (hints : List ℤ) → IsId id → AllByRecursion IsLiteral clause.literals → AllByRecursion IsHint hints
    → added id (numbers read_literal (map signed_decimal clause.literals ++ codes "0" ∷ (map signed_decimal hints ++ codes "0" ∷ []))) ≡ Some (Taken (Add id clause hints))
numbered_complete id clause hints i l h = rw (literals_complete clause.literals (map signed_decimal hints ++ codes "0" ∷ []) l, hints_complete hints [] h) refl

addition_numbered : (id : ℕ) (literals : List ℤ) (rest : List (List ℕ)) → AllByRecursion IsLiteral literals
    → numbered id (map signed_decimal literals ++ codes "0" ∷ rest) ≡ added id (numbers read_literal (map signed_decimal literals ++ codes "0" ∷ rest))
addition_numbered id [] rest a = refl
addition_numbered id (l ∷ ls) rest a = rw (other_word read_literal (signed_decimal l) (codes "d") l (literal_complete l a.0) refl) refl

id_parsed : (id : ℕ) (xs : List (List ℕ)) → IsId id → parse (decimal id ∷ xs) ≡ numbered id xs
id_parsed id xs i =
    let r = id_complete id i in
    rw (
      other_word read_id (decimal id) (codes "o") id r refl,
      other_word read_id (decimal id) (codes "end") id r refl,
      other_word read_id (decimal id) (codes "lola-cert") id r refl,
      r,
    ) refl

pub parse_complete : (t : TextLine) → TextFits t → parse (text_items t) ≡ Some t
parse_complete First f = refl
parse_complete (Named name) f =
    let some = f.some in
    let z : nat_eq (length name) 0 ≡ false = elim (cases_Bool (nat_eq (length name) 0)) [ inl t ↦ let q : length name ≡ 0 = (Decides-eqb (length name) 0).0 t in absurd (omega (arith, q, some)) | inr g ↦ g ] in
    rw (z, f.bytes) refl
parse_complete (Taken (Add id clause hints)) f =
    id_parsed id (map signed_decimal clause.literals ++ codes "0" ∷ (map signed_decimal hints ++ codes "0" ∷ [])) f.0 ∙ addition_numbered id clause.literals (map signed_decimal hints ++ codes "0" ∷ []) f.1.0 ∙ numbered_complete id clause hints f.0 f.1.0 f.1.1
parse_complete (Taken (Delete id ids)) f = id_parsed id (codes "d" ∷ (map decimal ids ++ codes "0" ∷ [])) f.0 ∙ ap (deleted id) (ids_complete ids [] f.1)
parse_complete (Ended count) f = ap of_count (number_complete count f)

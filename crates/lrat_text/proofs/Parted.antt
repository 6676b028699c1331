-- Cutting bytes, and items that are parted by one blank.
use Rattle.std.proofs.Common.{◌≡◌, ◌≢◌, ℕ, ◌+◌, ◌<◌, Bool, true, false, not, nat_eq, List, [], ◌∷◌, ◌++◌, take, drop, length, get_or, Option, None, Some, refl, sym, ◌∙◌, ap, ap₂, arith, inl, inr, append_assoc}
use Rattle.std.specs.List.{onto_first, join_with_byte, list_all, AllByRecursion}
use Rattle.std.proofs.lemmas.Bool.{cases_Bool}
use Rattle.std.proofs.lemmas.Bool.Decides.{Decides-eqb}
use Rattle.std.proofs.lemmas.List.{drop_more, take_more}
use Rattle.std.proofs.lemmas.List.Splits.{join_with_byte-slice_split, slice_split-cons_yes, slice_split-cons_no}
use Rattle.lola_bits.proofs.Options.{nothing, some_same}
use Rattle.lrat_text.specs.Cut.{with_front, cut, items_of}
use Rattle.lrat_text.specs.Text.{is_name_byte}
use Rattle.lrat_text.proofs.Decimals.{both}
use Rattle.std.proofs.lemmas.List.Folds.{list_all-append}

fronts : (xs ys : List ℕ) (o : Option (List ℕ × List ℕ)) → with_front (xs ++ ys) o ≡ with_front xs (with_front ys o)
fronts xs ys None = refl
fronts xs ys (Some p) = ap (λ (z : List ℕ). Some (z, p.1)) (append_assoc xs ys p.0)

no_front : (o : Option (List ℕ × List ℕ)) → with_front [] o ≡ o
no_front None = refl
no_front (Some p) = refl

-- a byte that isn't the one is passed
pub cut_past : (byte : ℕ) (bytes : List ℕ) (i d : ℕ) → i < length bytes → get_or bytes i d ≢ byte → cut byte bytes ≡ with_front (take i bytes) (cut byte (drop i bytes))
    → cut byte bytes ≡ with_front (take (i + 1) bytes) (cut byte (drop (i + 1) bytes))
cut_past byte bytes i d h other inv =
    let b = get_or bytes i d in
    let f : nat_eq b byte ≡ false = elim (cases_Bool (nat_eq b byte)) [ inl t ↦ absurd (other ((Decides-eqb b byte).0 t)) | inr g ↦ g ] in
    let one : cut byte (b ∷ drop (i + 1) bytes) ≡ with_front (b ∷ []) (cut byte (drop (i + 1) bytes)) = rw f refl in
    inv ∙ ap (λ (xs : List ℕ). with_front (take i bytes) (cut byte xs)) (drop_more bytes i d h) ∙ ap (with_front (take i bytes)) one
    ∙ sym (fronts (take i bytes) (b ∷ []) (cut byte (drop (i + 1) bytes))) ∙ ap (λ (xs : List ℕ). with_front xs (cut byte (drop (i + 1) bytes))) (sym (take_more bytes i d h))

-- at the byte itself the front is whole
pub cut_here : (byte : ℕ) (bytes front rest behind : List ℕ) (i d : ℕ) → i < length bytes → get_or bytes i d ≡ byte → cut byte bytes ≡ with_front (take i bytes) (cut byte (drop i bytes))
    → front ≡ take i bytes → behind ≡ drop 1 (drop i bytes) → Some (front, behind) ≡ cut byte bytes
cut_here byte bytes front rest behind i d h here inv f b =
    let e = drop_more bytes i d h in
    let t : nat_eq (get_or bytes i d) byte ≡ true = (Decides-eqb _ _).1 here in
    let one : cut byte (get_or bytes i d ∷ drop (i + 1) bytes) ≡ Some ([], drop (i + 1) bytes) = rw t refl in
    let later : behind ≡ drop (i + 1) bytes = b ∙ ap (drop 1) e in
    sym (inv ∙ ap (λ (xs : List ℕ). with_front (take i bytes) (cut byte xs)) e ∙ ap (with_front (take i bytes)) one
    ∙ ap₂ (λ (x y : List ℕ). Some (x, y)) (append_nil (take i bytes) ∙ sym f) (sym later))
  where
    append_nil : (xs : List ℕ) → xs ++ [] ≡ xs
    append_nil [] = refl
    append_nil (x ∷ xs) = ap (λ (ys : List ℕ). x ∷ ys) (append_nil xs)

pub cut_start : (byte : ℕ) (bytes : List ℕ) → cut byte bytes ≡ with_front (take 0 bytes) (cut byte (drop 0 bytes))
cut_start byte bytes = sym (no_front (cut byte bytes))

pub cut_end : (byte : ℕ) (bytes : List ℕ) (i : ℕ) → drop i bytes ≡ [] → cut byte bytes ≡ with_front (take i bytes) (cut byte (drop i bytes)) → None ≡ cut byte bytes
cut_end byte bytes i e inv = sym (inv ∙ ap (λ (xs : List ℕ). with_front (take i bytes) (cut byte xs)) e)

-- items of what is cut at a blank
abbrev pub items_from : Option (List ℕ × List ℕ) → List ℕ → List (List ℕ)
items_from None line = line ∷ []
items_from (Some p) line = p.0 ∷ items_of p.1

onto : (b : ℕ) (bs : List ℕ) (o : Option (List ℕ × List ℕ)) → onto_first b (items_from o bs) ≡ items_from (with_front (b ∷ []) o) (b ∷ bs)
onto b bs None = refl
onto b bs (Some p) = refl

pub items_cut : (line : List ℕ) → items_of line ≡ items_from (cut 32 line) line
items_cut [] = refl
items_cut (b ∷ bs) = elim (cases_Bool (nat_eq b 32)) [
  | inl t ↦ let one : cut 32 (b ∷ bs) ≡ Some ([], bs) = rw t refl in
      slice_split-cons_yes (λ c. nat_eq c 32) b bs t ∙ ap (λ (o : Option (List ℕ × List ℕ)). items_from o (b ∷ bs)) (sym one)
  | inr f ↦ let one : cut 32 (b ∷ bs) ≡ with_front (b ∷ []) (cut 32 bs) = rw f refl in
      slice_split-cons_no (λ c. nat_eq c 32) b bs f ∙ ap (onto_first b) (items_cut bs) ∙ onto b bs (cut 32 bs) ∙ ap (λ (o : Option (List ℕ × List ℕ)). items_from o (b ∷ bs)) (sym one)
]

pub items_last : (line : List ℕ) → None ≡ cut 32 line → items_of line ≡ line ∷ []
items_last line e = items_cut line ∙ ap (λ (o : Option (List ℕ × List ℕ)). items_from o line) (sym e)

pub items_more : (line front behind : List ℕ) → Some (front, behind) ≡ cut 32 line → items_of line ≡ front ∷ items_of behind
items_more line front behind e = items_cut line ∙ ap (λ (o : Option (List ℕ × List ℕ)). items_from o line) (sym e)

-- bytes without a byte, and items with neither a blank nor a line feed
abbrev pub lacks : ℕ → List ℕ → Bool
lacks byte bytes = list_all (λ b. not (nat_eq b byte)) bytes

abbrev pub is_plain : List ℕ → Bool
is_plain item = list_all is_name_byte item

pub plain_lacks : (xs : List ℕ) → is_plain xs ≡ true → (lacks 32 xs ≡ true) × (lacks 10 xs ≡ true)
plain_lacks [] e = (refl, refl)
plain_lacks (b ∷ bs) e =
    let p = both (is_name_byte b) (is_plain bs) e in
    let q = both (not (nat_eq b 32)) (not (nat_eq b 10)) p.0 in
    let r = plain_lacks bs p.1 in (rw q.0 r.0, rw q.1 r.1)

no_cut : (byte : ℕ) (x : List ℕ) → lacks byte x ≡ true → cut byte x ≡ None
no_cut byte [] e = refl
no_cut byte (b ∷ bs) e = elim (cases_Bool (nat_eq b byte)) [
  | inl t ↦ let q : false ≡ true = rw t at e in absurd (cc)
  | inr f ↦ rw f (ap (with_front (b ∷ [])) (no_cut byte bs (rw f at e)))
]

pub cut_at : (byte : ℕ) (x rest : List ℕ) → lacks byte x ≡ true → cut byte (x ++ byte ∷ rest) ≡ Some (x, rest)
cut_at byte [] rest e = let t : nat_eq byte byte ≡ true = (Decides-eqb byte byte).1 refl in rw t refl
cut_at byte (b ∷ bs) rest e = elim (cases_Bool (nat_eq b byte)) [
  | inl t ↦ let q : false ≡ true = rw t at e in absurd (cc)
  | inr f ↦ rw f (ap (with_front (b ∷ [])) (cut_at byte bs rest (rw f at e)))
]

-- items joined by blanks are found again, and have no line feed
pub items_joined : (x : List ℕ) (xs : List (List ℕ)) → AllByRecursion (λ item. is_plain item ≡ true) (x ∷ xs) → items_of (join_with_byte 32 (x ∷ xs)) ≡ x ∷ xs
items_joined x [] a = items_last x (sym (no_cut 32 x (plain_lacks x a.0).0))
items_joined x (y ∷ ys) a = items_more (x ++ 32 ∷ join_with_byte 32 (y ∷ ys)) x (join_with_byte 32 (y ∷ ys)) (sym (cut_at 32 x (join_with_byte 32 (y ∷ ys)) (plain_lacks x a.0).0))
    ∙ ap (λ (zs : List (List ℕ)). x ∷ zs) (items_joined y ys a.1)

pub joined_lacks : (x : List ℕ) (xs : List (List ℕ)) → AllByRecursion (λ item. is_plain item ≡ true) (x ∷ xs) → lacks 10 (join_with_byte 32 (x ∷ xs)) ≡ true
joined_lacks x [] a = (plain_lacks x a.0).1
joined_lacks x (y ∷ ys) a =
    let f = (plain_lacks x a.0).1 in
    let r = joined_lacks y ys a.1 in
    list_all-append (λ b. not (nat_eq b 10)) x (32 ∷ join_with_byte 32 (y ∷ ys)) ∙ (rw f r)

pub joined_items : (line : List ℕ) → join_with_byte 32 (items_of line) ≡ line
joined_items line = join_with_byte-slice_split 32 line

shorter_by : (b : ℕ) (bs : List ℕ) (o : Option (List ℕ × List ℕ)) (p : List ℕ × List ℕ) → ((q : List ℕ × List ℕ) → o ≡ Some q → length q.1 < length bs) → with_front (b ∷ []) o ≡ Some p
    → length p.1 < length (b ∷ bs)
shorter_by b bs None p h e = nothing p e
shorter_by b bs (Some q) p h e = let l = h q refl in let same : q.1 ≡ p.1 = ap (λ (r : List ℕ × List ℕ). r.1) (some_same (b ∷ q.0, q.1) p e) in
    let k = ap length same in omega (arith, l, k)

-- what stands behind a cut is shorter
pub cut_shorter : (byte : ℕ) (bytes : List ℕ) (p : List ℕ × List ℕ) → cut byte bytes ≡ Some p → length p.1 < length bytes
cut_shorter byte [] p e = nothing p e
cut_shorter byte (b ∷ bs) p e = elim (cases_Bool (nat_eq b byte)) [
  | inl t ↦ let same : bs ≡ p.1 = ap (λ (r : List ℕ × List ℕ). r.1) (some_same ([], bs) p (rw t at e)) in let k = ap length same in omega (arith, k)
  | inr f ↦ shorter_by b bs (cut byte bs) p (λ q g. cut_shorter byte bs q g) (rw f at e)
]

-- a line has some item, and more than one where it is cut
some_cut : (o : Option (List ℕ × List ℕ)) (line : List ℕ) → items_from o line ≢ []
some_cut None line e = absurd (omega (arith, ap length e))
some_cut (Some p) line e = absurd (omega (arith, ap length e))

some_item : (line : List ℕ) → items_of line ≢ []
some_item line e = some_cut (cut 32 line) line (sym (items_cut line) ∙ e)

pub not_one : (line front behind item : List ℕ) → Some (front, behind) ≡ cut 32 line → items_of line ≢ item ∷ []
not_one line front behind item e o = some_item behind (ap (λ (xs : List (List ℕ)). drop 1 xs) (sym (items_more line front behind e) ∙ o))

pub some_left : (line : List ℕ) → nat_eq (length (items_of line)) 0 ≡ false
some_left line = items_left (items_of line) (some_item line)
  where
    items_left : (xs : List (List ℕ)) → xs ≢ [] → nat_eq (length xs) 0 ≡ false
    items_left [] h = absurd (h refl)
    items_left (x ∷ xs) h = elim (cases_Bool (nat_eq (length (x ∷ xs)) 0)) [ inl t ↦ let q : length (x ∷ xs) ≡ 0 = (Decides-eqb (length (x ∷ xs)) 0).0 t in absurd (omega (arith, q)) | inr f ↦ f ]

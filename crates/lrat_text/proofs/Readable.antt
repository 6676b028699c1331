-- A line reads as what its items are, and as nothing else.
use Rattle.std.proofs.Common.{◌≡◌, ℕ, suc, ◌<◌, ◌^◌, ℤ, pos, negsuc, unsigned_abs, true, false, nat_eq, codes, decimal, List, [], ◌∷◌, ◌++◌, map, Option, None, Some, refl, sym, ◌∙◌, ap, arith, inl, inr}
use Rattle.std.specs.Fmt.{signed_decimal}
use Rattle.std.specs.List.{AllByRecursion, join_with_byte}
use Rattle.std.proofs.lemmas.Bool.{cases_Bool}
use Rattle.std.proofs.lemmas.Bool.Decides.{Decides-eqb}
use Rattle.lola_bits.proofs.All.{all_append, all_weaker}
use Rattle.lola_bits.proofs.Options.{nothing, none_or_some}
use Rattle.lrat_check.specs.declared.line.Line.TheVariants.{Add, Delete}
use Rattle.lrat_text.specs.Text.{TextLine, First, Named, Taken, Ended, text_items, line_text, TextFits, IsId, IsLiteral, IsHint}
use Rattle.lrat_text.specs.Reading.{Reads}
use Rattle.lrat_text.specs.Cut.{items_of}
use Rattle.lrat_text.specs.Number.{is_digit}
use Rattle.lrat_text.specs.Parse.{parse}
use Rattle.lrat_text.proofs.Decimals.{all_digits, decimal_digits, both, digit_low}
use Rattle.lrat_text.proofs.Parted.{lacks, is_plain, items_joined, joined_lacks, joined_items}
use Rattle.lrat_text.proofs.Parsed.{parse_sound, parse_complete}

digits_plain : (ds : List ℕ) → all_digits ds ≡ true → is_plain ds ≡ true
digits_plain [] a = refl
digits_plain (d ∷ ds) a =
    let p = both (is_digit d) (all_digits ds) a in
    let l = digit_low d p.0 in
    let f : nat_eq d 32 ≡ false = elim (cases_Bool (nat_eq d 32)) [ inl t ↦ let q : d ≡ 32 = (Decides-eqb d 32).0 t in absurd (omega (arith, q, l)) | inr g ↦ g ] in
    let g : nat_eq d 10 ≡ false = elim (cases_Bool (nat_eq d 10)) [ inl t ↦ let q : d ≡ 10 = (Decides-eqb d 10).0 t in absurd (omega (arith, q, l)) | inr h ↦ h ] in
    rw (f, g) (digits_plain ds p.1)

decimal_plain : (n : ℕ) → n < 2 ^ 64 → is_plain (decimal n) ≡ true
decimal_plain n h = digits_plain (decimal n) (decimal_digits n h)

signed_plain : (z : ℤ) → unsigned_abs z < 2 ^ 63 → is_plain (signed_decimal z) ≡ true
signed_plain (pos n) h = decimal_plain n (omega (arith, h))
signed_plain (negsuc n) h = decimal_plain (suc n) (omega (arith, h))

ids_plain : (ns : List ℕ) → AllByRecursion IsId ns → AllByRecursion (λ item. is_plain item ≡ true) (map decimal ns)
ids_plain [] a = tt
ids_plain (n ∷ ns) a = (let b = a.0.below in decimal_plain n (omega (arith, b)), ids_plain ns a.1)

signs_plain : (zs : List ℤ) → AllByRecursion (λ z. unsigned_abs z < 2 ^ 63) zs → AllByRecursion (λ item. is_plain item ≡ true) (map signed_decimal zs)
signs_plain [] a = tt
signs_plain (z ∷ zs) a = (signed_plain z a.0, signs_plain zs a.1)

-- no item of a line has a blank or a line feed
pub items_plain : (t : TextLine) → TextFits t → AllByRecursion (λ item. is_plain item ≡ true) (text_items t)
items_plain First f = (refl, (refl, tt))
items_plain (Named name) f = (refl, (f.bytes, tt))
items_plain (Taken (Add id clause hints)) f =
    let zero : AllByRecursion (λ item. is_plain item ≡ true) (codes "0" ∷ []) = (refl, tt) in
    let literals = signs_plain clause.literals (all_weaker IsLiteral (λ z. unsigned_abs z < 2 ^ 63) (λ z l. let b = l.below in omega (arith, b)) clause.literals f.1.0) in
    let behind = signs_plain hints (all_weaker IsHint (λ z. unsigned_abs z < 2 ^ 63) (λ z h. h.below) hints f.1.1) in (
      let b = f.0.below in decimal_plain id (omega (arith, b)),
      all_append (λ item. is_plain item ≡ true) (map signed_decimal clause.literals) (codes "0" ∷ (map signed_decimal hints ++ codes "0" ∷ [])) literals
          (refl, all_append (λ item. is_plain item ≡ true) (map signed_decimal hints) (codes "0" ∷ []) behind zero),
    )
items_plain (Taken (Delete id ids)) f =
    (let b = f.0.below in decimal_plain id (omega (arith, b)), (refl, all_append (λ item. is_plain item ≡ true) (map decimal ids) (codes "0" ∷ []) (ids_plain ids f.1) (refl, tt)))
items_plain (Ended count) f = (refl, (decimal_plain count f, tt))

-- what holds of each list of items with a first one holds of those of a line
by_items : (P : List (List ℕ) → Type 0) → ((x : List ℕ) (xs : List (List ℕ)) → AllByRecursion (λ item. is_plain item ≡ true) (x ∷ xs) → P (x ∷ xs)) → (t : TextLine) → TextFits t → P (text_items t)
by_items P h First f = h _ _ (items_plain First f)
by_items P h (Named name) f = h _ _ (items_plain (Named name) f)
by_items P h (Taken (Add id clause hints)) f = h _ _ (items_plain (Taken (Add id clause hints)) f)
by_items P h (Taken (Delete id ids)) f = h _ _ (items_plain (Taken (Delete id ids)) f)
by_items P h (Ended count) f = h _ _ (items_plain (Ended count) f)

pub items_of_text : (t : TextLine) → TextFits t → items_of (line_text t) ≡ text_items t
items_of_text = by_items (λ xs. items_of (join_with_byte 32 xs) ≡ xs) items_joined

-- a line has no line feed
pub line_lacks : (t : TextLine) → TextFits t → lacks 10 (line_text t) ≡ true
line_lacks = by_items (λ xs. lacks 10 (join_with_byte 32 xs) ≡ true) joined_lacks

parsed_text : (line : List ℕ) (t : TextLine) → TextFits t → line ≡ line_text t → parse (items_of line) ≡ Some t
parsed_text line t f e = ap (λ (l : List ℕ). parse (items_of l)) e ∙ ap parse (items_of_text t f) ∙ parse_complete t f

reads_by : (line : List ℕ) (o : Option TextLine) → parse (items_of line) ≡ o → Reads line o
reads_by line None e = λ t f l. nothing t (sym e ∙ parsed_text line t f l)
reads_by line (Some t) e = let s = parse_sound (items_of line) t e in (sym (joined_items line) ∙ ap (join_with_byte 32) s.0, s.1)

pub reads_line : (line : List ℕ) → Reads line (parse (items_of line))
reads_line line = reads_by line (parse (items_of line)) refl

is_parsed : (line : List ℕ) (s : Option TextLine) → Reads line s → s ≡ parse (items_of line)
is_parsed line None r = elim (none_or_some (parse (items_of line))) [
  | inl e ↦ sym e
  | inr p ↦ let q = reads_by line (Some p.0) p.1 in absurd (r p.0 q.1 q.0)
]
is_parsed line (Some t) r = sym (parsed_text line t r.1 r.0)

pub reads_once : (line : List ℕ) (s t : Option TextLine) → Reads line s → Reads line t → s ≡ t
reads_once line s t p q = is_parsed line s p ∙ sym (is_parsed line t q)

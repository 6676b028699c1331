-- The number at the front of a text.
use Rattle.std.proofs.Common.{◌≡◌, ℕ, suc, ◌≤◌, Bool, true, false, List, [], ◌∷◌, ◌++◌, length, take, drop, nat_eq, Option, Some, None, ◌⊎◌, refl, sym, ap, ◌∙◌, inl, inr, arith, append_assoc, length-append, take-append-drop}
use Rattle.std.proofs.Math.Numerals.{one-add}
use Rattle.std.proofs.lemmas.Bool.{cases_Bool, eqb-true}
use Rattle.std.proofs.lemmas.List.Folds.{length-prefix_len}
use Rattle.std.specs.List.{list_all, prefix_len}
use Rattle.lola_scan.specs.Bytes.{is_digit, is_hex_digit}
use Rattle.lola_scan.specs.Piece.{Piece, Number, IsPiece, IsFront, IsWidth, text_of, base_text, width_text}
use Rattle.lola_scan.specs.Front.{begins_with, width_of}
use Rattle.lola_scan.proofs.Runs.{Ends, same, shorter, another, heads, tails, run_passes, run_ends, run_same, run_longest}
use Rattle.lola_scan.proofs.FirstByte.{digit, other, kind_of, kind, kind_of_digit, first_kind, opens_kind}

-- an H at the front of a text, or nothing
pub base_splits : (text : List ℕ) → text ≡ base_text (begins_with 72 text) ++ drop (length (base_text (begins_with 72 text))) text
base_splits [] = refl
base_splits (c ∷ cs) = elim (cases_Bool (nat_eq c 72)) [
  | inl e ↦ (let h : c ≡ 72 = eqb-true c 72 e in rw h refl)
  | inr e ↦ rw e refl
]

-- a width at the front of a text, or nothing
pub width_splits : (text : List ℕ) → text ≡ width_text (width_of text) ++ drop (length (width_text (width_of text))) text
width_splits [] = refl
width_splits (c ∷ cs) = elim (cases_Bool (nat_eq c 39)) [
  | inl e ↦ (let h : c ≡ 39 = eqb-true c 39 e in rw h (ap (λ t. 39 ∷ t) (rw length-prefix_len (sym (take-append-drop (prefix_len is_digit cs) cs)))))
  | inr e ↦ rw e refl
]

pub width_passes : (text : List ℕ) → IsWidth (width_of text)
width_passes [] = tt
width_passes (c ∷ cs) = elim (cases_Bool (nat_eq c 39)) [
  | inl e ↦ rw e (run_passes is_digit cs)
  | inr e ↦ rw e tt
]

width_longest : (text : List ℕ) (width : Option (List ℕ)) (behind : List ℕ) → IsWidth width → text ≡ width_text width ++ behind →
    length (width_text width) ≤ length (width_text (width_of text))
width_longest text None behind p s = omega arith
width_longest [] (Some digits) behind p s = cc
width_longest (c ∷ cs) (Some digits) behind p s =
    let h : c ≡ 39 = heads s in
    let r = run_longest is_digit (take (prefix_len is_digit cs) cs) (drop (prefix_len is_digit cs) cs) digits behind (run_passes is_digit cs) p (run_ends is_digit cs) (take-append-drop (prefix_len is_digit cs) cs ∙ tails s) in
    rw h (omega (arith, r))

-- what follows the run of a number is no hexadecimal digit
abbrev suffix : Bool → Option (List ℕ) → List ℕ
suffix hexadecimal width = base_text hexadecimal ++ width_text width

pub suffix_ends : (hexadecimal : Bool) (width : Option (List ℕ)) (behind : List ℕ) → (length (suffix hexadecimal width) ≡ 0) ⊎ Ends is_hex_digit (suffix hexadecimal width ++ behind)
suffix_ends true width behind = inr refl
suffix_ends false None behind = inl refl
suffix_ends false (Some digits) behind = inr refl

suffix_longest : (text : List ℕ) (hexadecimal : Bool) (width : Option (List ℕ)) (behind : List ℕ) → IsWidth width → text ≡ suffix hexadecimal width ++ behind →
    length (suffix hexadecimal width) ≤ length (suffix (begins_with 72 text) (width_of (drop (length (base_text (begins_with 72 text))) text)))
suffix_longest [] true width behind p s = cc
suffix_longest (c ∷ cs) true width behind p s =
    let h : c ≡ 72 = heads s in
    rw h (omega (arith, width_longest cs width behind p (tails s)))
suffix_longest [] false width behind p s = width_longest [] width behind p s
suffix_longest (c ∷ cs) false None behind p s = omega arith
suffix_longest (c ∷ cs) false (Some digits) behind p s =
    let h : c ≡ 39 = heads s in
    let e : nat_eq c 72 ≡ false = rw h refl in
    rw e (width_longest (c ∷ cs) (Some digits) behind p s)

-- the parts of the number that begins with a digit
abbrev pub digits_behind : List ℕ → List ℕ
digits_behind bs = take (prefix_len is_hex_digit bs) bs

abbrev pub suffix_behind : List ℕ → List ℕ
suffix_behind bs = drop (prefix_len is_hex_digit bs) bs

abbrev pub is_hexadecimal : List ℕ → Bool
is_hexadecimal bs = begins_with 72 (suffix_behind bs)

abbrev pub width_behind : List ℕ → List ℕ
width_behind bs = drop (length (base_text (is_hexadecimal bs))) (suffix_behind bs)

abbrev pub width_at : List ℕ → Option (List ℕ)
width_at bs = width_of (width_behind bs)

abbrev pub number_at : ℕ → List ℕ → Piece
number_at b bs = Number b (digits_behind bs) (is_hexadecimal bs) (width_at bs)

abbrev pub rest_at : List ℕ → List ℕ
rest_at bs = drop (length (width_text (width_at bs))) (width_behind bs)

number_splits : (b : ℕ) (bs : List ℕ) → b ∷ bs ≡ text_of (number_at b bs) ++ rest_at bs
number_splits b bs = ap (λ t. b ∷ t) (
    sym (take-append-drop (prefix_len is_hex_digit bs) bs)
    ∙ ap (λ t. digits_behind bs ++ t) (
    base_splits (suffix_behind bs)
    ∙ ap (λ t. base_text (is_hexadecimal bs) ++ t) (width_splits (width_behind bs))
    ∙ sym (append_assoc (base_text (is_hexadecimal bs)) (width_text (width_at bs)) (rest_at bs)))
    ∙ sym (append_assoc (digits_behind bs) (base_text (is_hexadecimal bs) ++ width_text (width_at bs)) (rest_at bs)))

number_longest : (b : ℕ) (bs : List ℕ) (piece : Piece) (behind : List ℕ) → kind piece ≡ digit → IsPiece piece → b ∷ bs ≡ text_of piece ++ behind →
    length (text_of piece) ≤ length (text_of (number_at b bs))
number_longest b bs (Number first more hexadecimal width) behind k p s =
    let t : digits_behind bs ++ suffix_behind bs ≡ more ++ (suffix hexadecimal width ++ behind) =
    take-append-drop (prefix_len is_hex_digit bs) bs ∙ tails s ∙ append_assoc more (suffix hexadecimal width) behind in
    elim (another is_hex_digit (digits_behind bs) (suffix_behind bs) more (suffix hexadecimal width ++ behind) (run_passes is_hex_digit bs) p.1 (run_ends is_hex_digit bs) t) [
      | same e f ↦ omega (arith, length-append more (suffix hexadecimal width), length-append (digits_behind bs) (suffix (is_hexadecimal bs) (width_at bs)), ap length e, suffix_longest (suffix_behind bs) hexadecimal width behind p.2 f)
      | shorter d ds e h l ↦ elim (suffix_ends hexadecimal width behind) [
        | inl z ↦ omega (arith, length-append more (suffix hexadecimal width), length-append (digits_behind bs) (suffix (is_hexadecimal bs) (width_at bs)))
        | inr g ↦ (let n : Ends is_hex_digit (d ∷ ds) = rw e at g in absurd (cc))
      ]
    ]
number_longest b bs piece behind k p s = cc

pub front_number : (b : ℕ) (bs : List ℕ) → is_digit b ≡ true → IsFront (b ∷ bs) (number_at b bs) (rest_at bs)
front_number b bs e = let k : kind_of b ≡ digit = kind_of_digit b e in record {
  is_piece = (e, run_passes is_hex_digit bs, width_passes (width_behind bs));
  splits = number_splits b bs;
  longest = λ piece behind p s. number_longest b bs piece behind (sym (first_kind piece behind b bs p s) ∙ k) p s;
  comment = λ o. let n : kind_of b ≡ other = opens_kind b bs o in cc;
}

suffix_stops : (hexadecimal : Bool) (width : Option (List ℕ)) → Ends is_hex_digit (suffix hexadecimal width)
suffix_stops true width = refl
suffix_stops false None = tt
suffix_stops false (Some digits) = refl

width_same : (width wide : Option (List ℕ)) → width_text width ≡ width_text wide → width ≡ wide
width_same None None s = refl
width_same None (Some digits) s = cc
width_same (Some digits) None s = cc
width_same (Some digits) (Some others) s = ap Some (tails s)

suffix_same : (hexadecimal base : Bool) (width wide : Option (List ℕ)) → suffix hexadecimal width ≡ suffix base wide → (hexadecimal ≡ base) × (width ≡ wide)
suffix_same true true width wide s = (refl, width_same width wide (tails s))
suffix_same true false width None s = cc
suffix_same true false width (Some digits) s = absurd (omega (arith, heads {x = 72} {y = 39} s))
suffix_same false true None wide s = cc
suffix_same false true (Some digits) wide s = absurd (omega (arith, heads {x = 39} {y = 72} s))
suffix_same false false width wide s = (refl, width_same width wide s)

-- two numbers of one text have the same parts
pub number_same : (first : ℕ) (more : List ℕ) (hexadecimal : Bool) (width : Option (List ℕ)) (begin : ℕ) (digits : List ℕ) (base : Bool) (wide : Option (List ℕ)) →
    list_all is_hex_digit more ≡ true → list_all is_hex_digit digits ≡ true →
    text_of (Number first more hexadecimal width) ≡ text_of (Number begin digits base wide) →
    Number first more hexadecimal width ≡ Number begin digits base wide
number_same first more hexadecimal width begin digits base wide p q s =
    let r = run_same is_hex_digit more (suffix hexadecimal width) digits (suffix base wide) p q (suffix_stops hexadecimal width) (suffix_stops base wide) (tails s) in
    let t = suffix_same hexadecimal base width wide r.1 in
    let e : first ≡ begin = heads s in
    let f : more ≡ digits = r.0 in
    let g : hexadecimal ≡ base = t.0 in
    let h : width ≡ wide = t.1 in
    cc

-- where a text begins with a digit, its run and what stands behind it
pub cut_run : (b : ℕ) (bs : List ℕ) (n : ℕ) → is_digit b ≡ true → n ≡ prefix_len is_hex_digit (b ∷ bs) →
    (take n (b ∷ bs) ≡ b ∷ digits_behind bs) × (drop n (b ∷ bs) ≡ suffix_behind bs)
cut_run b bs n e l =
    let h : is_hex_digit b ≡ true = rw e refl in
    let m : n ≡ suc (prefix_len is_hex_digit bs) = l ∙ rw h (one-add (prefix_len is_hex_digit bs)) in
    rw m (refl, refl)

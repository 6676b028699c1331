-- The tokens that a text spells lie within it and are spelled in ASCII.
use Rattle.std.proofs.Common.{◌≡◌, ℕ, ◌+◌, ◌-◌, ◌<◌, Bool, true, false, ◌||◌, inl, inr, nat_lt, List, [], ◌∷◌, ◌++◌, length, take, drop, Option, Some, None, refl, sym, ap, subst, ◌∙◌, arith, length-append, append_assoc}
use Rattle.std.proofs.lemmas.Bool.{and_parts, cases_Bool}
use Rattle.std.proofs.lemmas.Bool.Decides.{nat_tests}
use Rattle.std.proofs.lemmas.List.{take_at, drop_at}
use Rattle.std.proofs.lemmas.Slice.Eq.{bytes_eq-Decides}
use Rattle.std.proofs.lemmas.Str.Ascii.{IsAscii-nil, IsAscii-cons}
use Rattle.std.specs.Prelude.{bytes_eq, slice_range}
use Rattle.std.specs.List.{list_all, list_any}
use Rattle.std.specs.Str.{IsAscii}
use Rattle.lola_scan.specs.declared.token.Token.{Token}
use Rattle.lola_scan.specs.declared.token.TokenKind.{TokenKind}
use Rattle.lola_scan.specs.Bytes.{is_letter, is_digit, is_word_byte, is_hex_digit, is_pattern_byte}
use Rattle.lola_scan.specs.Piece.{Piece, Blank, Comment, Word, Number, Pattern, Mark, text_of, IsPiece, IsWidth, tokens_of, marks, base_text, width_text}
use Rattle.lola_scan.specs.Tokens.{Spells, no_piece, one_piece}
use Rattle.lola_parse.specs.Symbols.{IsIn, AreIn}

or_right : (a b : Bool) → a ≡ false → (a || b) ≡ true → b ≡ true
or_right true b e h = absurd (let p : true ≡ false = e in cc)
or_right false b e h = h

abbrev Ascii : List ℕ → Type 0
Ascii [] = Unit {0}
Ascii (b ∷ bs) = (b < 128) × Ascii bs

ascii : (bs : List ℕ) → Ascii bs → IsAscii bs
ascii [] h = IsAscii-nil
ascii (b ∷ bs) h = IsAscii-cons b bs h.0 (ascii bs h.1)

ascii_append : (xs ys : List ℕ) → Ascii xs → Ascii ys → Ascii (xs ++ ys)
ascii_append [] ys h k = k
ascii_append (x ∷ xs) ys h k = (h.0, ascii_append xs ys h.1 k)

ascii_all : (p : ℕ → Bool) → ((b : ℕ) → p b ≡ true → b < 128) → (bs : List ℕ) → list_all p bs ≡ true → Ascii bs
ascii_all p below [] h = tt
ascii_all p below (b ∷ bs) h = (below b (and_parts (p b) (list_all p bs) h).0, ascii_all p below bs (and_parts (p b) (list_all p bs) h).1)

letter : (b : ℕ) → is_letter b ≡ true → b < 128
letter b h = grind (arith, nat_tests)

digit : (b : ℕ) → is_digit b ≡ true → b < 128
digit b h = grind (arith, nat_tests)

word_byte : (b : ℕ) → is_word_byte b ≡ true → b < 128
word_byte b h = grind (arith, nat_tests)

hex_digit : (b : ℕ) → is_hex_digit b ≡ true → b < 128
hex_digit b h = grind (arith, nat_tests)

pattern_byte : (b : ℕ) → is_pattern_byte b ≡ true → b < 128
pattern_byte b h = grind (arith, nat_tests)

abbrev below_128 : ℕ → Bool
below_128 b = nat_lt b 128

low : (b : ℕ) → below_128 b ≡ true → b < 128
low b h = grind (arith, nat_tests)

one_of : (ms : List (List ℕ)) → list_all (list_all below_128) ms ≡ true → (bytes : List ℕ) → list_any (λ m. bytes_eq m bytes) ms ≡ true → Ascii bytes
one_of [] all bytes h = absurd (let p : false ≡ true = h in cc)
one_of (m ∷ ms) all bytes h =
    elim (cases_Bool (bytes_eq m bytes)) [
      | inl e ↦ subst Ascii ((bytes_eq-Decides m bytes).0 e) (ascii_all below_128 low m (and_parts (list_all below_128 m) (list_all (list_all below_128) ms) all).0)
      | inr e ↦
          one_of ms (and_parts (list_all below_128 m) (list_all (list_all below_128) ms) all).1 bytes
          (or_right (bytes_eq m bytes) (list_any (λ m. bytes_eq m bytes) ms) e h)
    ]

marks_ascii : list_all (list_all below_128) marks ≡ true
marks_ascii = refl

width_ascii : (width : Option (List ℕ)) → IsWidth width → Ascii (width_text width)
width_ascii None h = tt
width_ascii (Some digits) h = (omega arith, ascii_all is_digit digit digits h)

base_ascii : (hexadecimal : Bool) → Ascii (base_text hexadecimal)
base_ascii true = (omega arith, tt)
base_ascii false = tt

-- a piece of bytes that are ASCII, at its place in a text
token_in : (whole front p rest : List ℕ) (at : ℕ) (k : TokenKind) → whole ≡ front ++ (p ++ rest) → length front ≡ at → Ascii p →
    IsIn whole record { kind = k; from = at; to = at + length p }
token_in whole front p rest at k splits place is =
    let long = ap length splits in
    let total = length-append front (p ++ rest) in
    let behind = length-append p rest in
    let size : length p ≡ at + length p - at = omega arith in
    let there : drop at whole ≡ p ++ rest = ap (drop at) splits ∙ drop_at front (p ++ rest) at place in
    let same : slice_range whole at (at + length p) ≡ p = ap (take (at + length p - at)) there ∙ take_at p rest (at + length p - at) size in
    record { ordered = omega arith; within = omega arith; ascii = subst IsAscii (sym same) (ascii p is) }

AreIn-append : (text : List ℕ) (xs ys : List Token) → AreIn text xs → AreIn text ys → AreIn text (xs ++ ys)
AreIn-append text [] ys h k = k
AreIn-append text (x ∷ xs) ys h k = (h.0, AreIn-append text xs ys h.1 k)

piece_in : (whole front rest : List ℕ) (at : ℕ) (piece : Piece) → whole ≡ front ++ (text_of piece ++ rest) → length front ≡ at → IsPiece piece →
    AreIn whole (tokens_of at piece)
piece_in whole front rest at (Blank b) splits place is = tt
piece_in whole front rest at (Comment inside) splits place is = tt
piece_in whole front rest at (Word first more) splits place is =
    (token_in whole front (first ∷ more) rest at _ splits place (letter first is.0, ascii_all is_word_byte word_byte more is.1), tt)
piece_in whole front rest at (Number first more hexadecimal width) splits place is = (
  token_in whole front (text_of (Number first more hexadecimal width)) rest at _ splits place (
    digit first is.0,
    ascii_append more _ (ascii_all is_hex_digit hex_digit more is.1)
        (ascii_append (base_text hexadecimal) _ (base_ascii hexadecimal) (width_ascii width is.2)),
  ),
  tt,
)
piece_in whole front rest at (Pattern inside) splits place is = (
  token_in whole front (text_of (Pattern inside)) rest at _ splits place
      (omega arith, ascii_append inside _ (ascii_all is_pattern_byte pattern_byte inside is) (omega arith, tt)),
  tt,
)
piece_in whole front rest at (Mark bytes) splits place is =
    (token_in whole front bytes rest at _ splits place (one_of marks marks_ascii bytes is), tt)

lie_from : (whole front : List ℕ) {at : ℕ} {text : List ℕ} {tokens : List Token} → whole ≡ front ++ text → length front ≡ at → Spells at text tokens → AreIn whole tokens
lie_from whole front splits place no_piece = tt
lie_from whole front {at = at} splits place (one_piece piece rest behind fits sound more is) =
    let here : whole ≡ front ++ (text_of piece ++ rest) = splits ∙ ap (λ t. front ++ t) fits.splits in
    let after : whole ≡ (front ++ text_of piece) ++ rest = here ∙ sym (append_assoc front (text_of piece) rest) in
    let later : length (front ++ text_of piece) ≡ at + length (text_of piece) = length-append front (text_of piece) ∙ ap (λ n. n + length (text_of piece)) place in
    subst (AreIn whole) (sym is) (AreIn-append whole (tokens_of at piece) behind (piece_in whole front rest at piece here place fits.is_piece) (lie_from whole (front ++ text_of piece) after later more))

pub lie : (text : List ℕ) (tokens : List Token) → Spells 0 text tokens → AreIn text tokens
lie text tokens spells = lie_from text [] refl refl spells

-- What a piece can be, by its first byte.
use Rattle.std.proofs.Common.{◌≡◌, ℕ, ◌<◌, ◌≤◌, Bool, true, false, cond, List, [], ◌∷◌, ◌++◌, length, bytes_eq, nat_eq, codes, refl, inl, inr, arith}
use Rattle.std.proofs.lemmas.Bool.{and_parts, or_cases}
use Rattle.std.proofs.lemmas.Bool.Decides.{nat_tests}
use Rattle.std.proofs.lemmas.Slice.Eq.{bytes_eq-Decides}
use Rattle.std.specs.List.{list_all, list_any}
use Rattle.lola_scan.specs.Bytes.{is_blank, is_letter, is_digit}
use Rattle.lola_scan.specs.Piece.{Piece, Blank, Comment, Word, Number, Pattern, Mark, IsPiece, text_of, marks, is_mark, Opens}

-- the kinds of first bytes
pub data Kind : Type 0 where
  blank : Kind
  letter : Kind
  digit : Kind
  quote : Kind
  other : Kind

abbrev pub kind_of : ℕ → Kind
kind_of b = cond (is_blank b) blank (cond (is_letter b) letter (cond (is_digit b) digit (cond (nat_eq b 34) quote other)))

-- the kind of a piece's first byte
abbrev pub kind : Piece → Kind
kind (Blank b) = blank
kind (Comment inside) = other
kind (Word first more) = letter
kind (Number first more hexadecimal width) = digit
kind (Pattern inside) = quote
kind (Mark bytes) = other

pub letter_not_blank : (b : ℕ) → is_letter b ≡ true → is_blank b ≡ false
letter_not_blank b e = grind (arith, nat_tests)

pub digit_not_blank : (b : ℕ) → is_digit b ≡ true → is_blank b ≡ false
digit_not_blank b e = grind (arith, nat_tests)

pub digit_not_letter : (b : ℕ) → is_digit b ≡ true → is_letter b ≡ false
digit_not_letter b e = grind (arith, nat_tests)

pub kind_of_letter : (b : ℕ) → is_letter b ≡ true → kind_of b ≡ letter
kind_of_letter b e = rw (letter_not_blank b e, e) refl

pub kind_of_digit : (b : ℕ) → is_digit b ≡ true → kind_of b ≡ digit
kind_of_digit b e = rw (digit_not_blank b e, digit_not_letter b e, e) refl

-- what each mark passes, a given mark passes
pub of_mark : (test : List ℕ → Bool) (all : List (List ℕ)) (bytes : List ℕ) → list_all test all ≡ true →
    list_any (λ mark. bytes_eq mark bytes) all ≡ true → test bytes ≡ true
of_mark test [] bytes p q = cc
of_mark test (m ∷ ms) bytes p q =
    let r = and_parts (test m) (list_all test ms) p in
    elim (or_cases (bytes_eq m bytes) (list_any (λ mark. bytes_eq mark bytes) ms) q) [
      | inl e ↦ (let f : m ≡ bytes = (bytes_eq-Decides m bytes).0 e in rw (← f) r.0)
      | inr e ↦ of_mark test ms bytes r.1 e
    ]

abbrev is_other : Kind → Bool
is_other other = true
is_other blank = false
is_other letter = false
is_other digit = false
is_other quote = false

other_kind : (k : Kind) → is_other k ≡ true → k ≡ other
other_kind other e = refl
other_kind blank e = cc
other_kind letter e = cc
other_kind digit e = cc
other_kind quote e = cc

-- one or two bytes, the first of the kind of a mark's
abbrev fits_mark : List ℕ → Bool
fits_mark [] = false
fits_mark (b ∷ []) = is_other (kind_of b)
fits_mark (b ∷ c ∷ []) = is_other (kind_of b)
fits_mark (b ∷ c ∷ d ∷ ds) = false

mark_fits : (bytes : List ℕ) → is_mark bytes ≡ true → fits_mark bytes ≡ true
mark_fits bytes e = of_mark fits_mark marks bytes refl e

pub mark_length_at_most : (bytes : List ℕ) → is_mark bytes ≡ true → (0 < length bytes) × (length bytes ≤ 2)
mark_length_at_most [] e = absurd (let f : fits_mark [] ≡ true = mark_fits [] e in cc)
mark_length_at_most (b ∷ []) e = (omega arith, omega arith)
mark_length_at_most (b ∷ c ∷ []) e = (omega arith, omega arith)
mark_length_at_most (b ∷ c ∷ d ∷ ds) e = absurd (let f : fits_mark (b ∷ c ∷ d ∷ ds) ≡ true = mark_fits (b ∷ c ∷ d ∷ ds) e in cc)

kind_of_mark : (b : ℕ) (bs : List ℕ) → is_mark (b ∷ bs) ≡ true → kind_of b ≡ other
kind_of_mark b [] e = other_kind (kind_of b) (mark_fits (b ∷ []) e)
kind_of_mark b (c ∷ []) e = other_kind (kind_of b) (mark_fits (b ∷ c ∷ []) e)
kind_of_mark b (c ∷ d ∷ ds) e = absurd (let f : fits_mark (b ∷ c ∷ d ∷ ds) ≡ true = mark_fits (b ∷ c ∷ d ∷ ds) e in cc)

-- the first byte of a text is of the kind of the piece at its front
pub first_kind : (piece : Piece) (rest : List ℕ) (b : ℕ) (bs : List ℕ) → IsPiece piece → b ∷ bs ≡ text_of piece ++ rest → kind_of b ≡ kind piece
first_kind (Blank c) rest b bs p s = let e : b ≡ c = cc in rw (e, p) refl
first_kind (Comment inside) rest b bs p s = let e : b ≡ 40 = cc in rw e refl
first_kind (Word first more) rest b bs p s = let e : b ≡ first = cc in rw e (kind_of_letter first p.0)
first_kind (Number first more hexadecimal width) rest b bs p s = let e : b ≡ first = cc in rw e (kind_of_digit first p.0)
first_kind (Pattern inside) rest b bs p s = let e : b ≡ 34 = cc in rw e refl
first_kind (Mark []) rest b bs p s = absurd (let f : fits_mark [] ≡ true = mark_fits [] p in cc)
first_kind (Mark (m ∷ ms)) rest b bs p s = let e : b ≡ m = cc in rw e (kind_of_mark m ms p)

-- no piece is empty
pub piece_not_empty : (piece : Piece) → IsPiece piece → 0 < length (text_of piece)
piece_not_empty (Blank c) p = omega arith
piece_not_empty (Comment inside) p = omega arith
piece_not_empty (Word first more) p = omega arith
piece_not_empty (Number first more hexadecimal width) p = omega arith
piece_not_empty (Pattern inside) p = omega arith
piece_not_empty (Mark bytes) p = (mark_length_at_most bytes p).0

-- where a comment opens the first byte is of the kind of a mark's
pub opens_kind : (b : ℕ) (bs : List ℕ) → Opens (b ∷ bs) → kind_of b ≡ other
opens_kind b bs (inside, s) = let e : b ≡ 40 = cc in rw e refl

-- a comment opens where one stands
pub comment_opens : (text inside behind : List ℕ) → text ≡ text_of (Comment inside) ++ behind → Opens text
comment_opens text inside behind s = ((inside ++ codes "*)") ++ behind, s)

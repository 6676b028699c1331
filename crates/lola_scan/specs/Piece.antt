-- The pieces that a text is made of: tokens, blanks and comments.
use Rattle.std.specs.Prelude.{◌≡◌, ℕ, ◌+◌, ◌≤◌, ◌^◌, Bool, true, false, cond, not, List, [], ◌∷◌, ◌++◌, length, Option, Some, None, codes, bytes_eq, nat_le, position}
use Rattle.std.specs.List.{list_all, list_any}
use Rattle.lola_scan.specs.declared.token.Token.{Token}
use Rattle.lola_scan.specs.declared.token.TokenKind.TheVariants as kind
use Rattle.lola_scan.specs.declared.token.ScanError.{ScanError}
use Rattle.lola_scan.specs.declared.token.ScanError.TheVariants.{BadByte, NumberTooLarge}
use Rattle.lola_scan.specs.Bytes.{is_blank, is_letter, is_digit, is_word_byte, is_hex_digit, is_pattern_byte, number_of}

-- a piece of a text: a blank byte; a comment with what stands inside it; a word; a number with its
-- run of digits, whether an H follows, and the digits behind a ', where there is one; a pattern with
-- what stands between its quotes; a mark
pub data Piece : Type 0 where
  Blank : (b : ℕ) → Piece
  Comment : (inside : List ℕ) → Piece
  Word : (first : ℕ) (more : List ℕ) → Piece
  Number : (first : ℕ) (more : List ℕ) (hexadecimal : Bool) (width : Option (List ℕ)) → Piece
  Pattern : (inside : List ℕ) → Piece
  Mark : (bytes : List ℕ) → Piece

-- the marks
abbrev pub marks : List (List ℕ)
marks =
    codes "(" ∷ codes ")" ∷ codes "[" ∷ codes "]" ∷ codes "{" ∷ codes "}" ∷ codes "," ∷ codes ";" ∷ codes ":" ∷ codes ":=" ∷ codes "."
    ∷ codes "->" ∷ codes "=" ∷ codes "#" ∷ codes "<" ∷ codes "<=" ∷ codes ">" ∷ codes ">=" ∷ codes "+" ∷ codes "-" ∷ codes "|"
    ∷ codes "^" ∷ codes "&" ∷ codes "~" ∷ codes "!" ∷ codes "@" ∷ []

abbrev pub is_mark : List ℕ → Bool
is_mark bytes = list_any (λ mark. bytes_eq mark bytes) marks

-- the H of a hexadecimal number
abbrev pub base_text : Bool → List ℕ
base_text hexadecimal = cond hexadecimal (codes "H") []

-- the width of a number, behind its '
abbrev pub width_text : Option (List ℕ) → List ℕ
width_text None = []
width_text (Some digits) = codes "'" ++ digits

-- the bytes of a piece
abbrev pub text_of : Piece → List ℕ
text_of (Blank b) = b ∷ []
text_of (Comment inside) = codes "(*" ++ (inside ++ codes "*)")
text_of (Word first more) = first ∷ more
text_of (Number first more hexadecimal width) = first ∷ (more ++ (base_text hexadecimal ++ width_text width))
text_of (Pattern inside) = 34 ∷ (inside ++ 34 ∷ [])
text_of (Mark bytes) = bytes

-- the end of a comment stands nowhere in these bytes
abbrev pub NoEnd : List ℕ → Type 0
NoEnd bytes = (front back : List ℕ) → bytes ≡ front ++ (codes "*)" ++ back) → ⊥

abbrev pub IsWidth : Option (List ℕ) → Type 0
IsWidth None = Unit {0}
IsWidth (Some digits) = list_all is_digit digits ≡ true

-- the bytes that each piece may have; a comment ends at the first `*)` behind its `(*`
abbrev pub IsPiece : Piece → Type 0
IsPiece (Blank b) = is_blank b ≡ true
IsPiece (Comment inside) = NoEnd (inside ++ codes "*")
IsPiece (Word first more) = (is_letter first ≡ true) × (list_all is_word_byte more ≡ true)
IsPiece (Number first more hexadecimal width) = (is_digit first ≡ true) × (list_all is_hex_digit more ≡ true) × IsWidth width
IsPiece (Pattern inside) = list_all is_pattern_byte inside ≡ true
IsPiece (Mark bytes) = is_mark bytes ≡ true

-- a comment opens here
abbrev pub Opens : List ℕ → Type 0
Opens text = (inside : List ℕ) × (text ≡ codes "(*" ++ inside)

abbrev pub IsComment : Piece → Type 0
IsComment (Comment inside) = Unit {0}
IsComment (Blank b) = ⊥
IsComment (Word first more) = ⊥
IsComment (Number first more hexadecimal width) = ⊥
IsComment (Pattern inside) = ⊥
IsComment (Mark bytes) = ⊥

-- a word, a number or a mark
abbrev pub IsUnquoted : Piece → Type 0
IsUnquoted (Word first more) = Unit {0}
IsUnquoted (Number first more hexadecimal width) = Unit {0}
IsUnquoted (Mark bytes) = Unit {0}
IsUnquoted (Blank b) = ⊥
IsUnquoted (Comment inside) = ⊥
IsUnquoted (Pattern inside) = ⊥

-- the piece that stands at the front of a text: no piece there is longer, and where a comment opens
-- it is that comment
pub record IsFront (text : List ℕ) (piece : Piece) (rest : List ℕ) : Type 0 where
  pub is_piece : IsPiece piece
  pub splits : text ≡ text_of piece ++ rest
  pub longest : (other : Piece) (behind : List ℕ) → IsPiece other → text ≡ text_of other ++ behind → length (text_of other) ≤ length (text_of piece)
  pub comment : Opens text → IsComment piece

-- the run of a number's digits and whether an H follows it, as its value; none where a digit is
-- wrong for its base
abbrev pub run_value : List ℕ → Bool → Option ℕ
run_value run true = Some (number_of 16 run)
run_value run false = cond (list_all is_digit run) (Some (number_of 10 run)) None

-- 2 to 128 or more
abbrev pub is_too_large : Option ℕ → Bool
is_too_large None = false
is_too_large (Some n) = nat_le (2 ^ 128) n

abbrev pub width_value : Option (List ℕ) → Option ℕ
width_value None = None
width_value (Some digits) = Some (number_of 10 digits)

-- where a digit of a decimal run is none, the place of the first
abbrev pub wrong_digit : List ℕ → Bool → Option ℕ
wrong_digit run true = None
wrong_digit run false = position (λ b. not (is_digit b)) run

-- a ' without a digit behind it
abbrev pub is_bare : Option (List ℕ) → Bool
is_bare (Some []) = true
is_bare (Some (d ∷ ds)) = false
is_bare None = false

-- a digit that is wrong for the base, or else a ' without a digit behind it, which stands `bare`
-- bytes behind the number's place
abbrev pub shape_fault : ℕ → Option ℕ → ℕ → Option (List ℕ) → Option ScanError
shape_fault at (Some place) bare width = Some (BadByte (at + place))
shape_fault at None bare width = cond (is_bare width) (Some (BadByte (at + bare))) None

-- the fault of a number that begins at a place: too large a value or width, at its first byte; else
-- one of its shape
abbrev pub number_fault : ℕ → List ℕ → Bool → Option (List ℕ) → Option ScanError
number_fault at run hexadecimal width =
    cond (is_too_large (run_value run hexadecimal)) (Some (NumberTooLarge at))
    (cond (is_too_large (width_value width)) (Some (NumberTooLarge at))
    (shape_fault at (wrong_digit run hexadecimal) (length run + length (base_text hexadecimal)) width))

-- the fault of a piece that begins at a place, if it has one
abbrev pub fault_of : ℕ → Piece → Option ScanError
fault_of at (Number first more hexadecimal width) = number_fault at (first ∷ more) hexadecimal width
fault_of at (Blank b) = None
fault_of at (Comment inside) = None
fault_of at (Word first more) = None
fault_of at (Pattern inside) = None
fault_of at (Mark bytes) = None

abbrev pub value_or : Option ℕ → ℕ
value_or None = 0
value_or (Some n) = n

-- the token of a piece that begins at a place; blanks and comments have none
abbrev pub tokens_of : ℕ → Piece → List Token
tokens_of at (Blank b) = []
tokens_of at (Comment inside) = []
tokens_of at (Word first more) = record { kind = kind.Word; from = at; to = at + length (first ∷ more) } ∷ []
tokens_of at (Number first more hexadecimal width) =
    record {
      kind = kind.Number (value_or (run_value (first ∷ more) hexadecimal)) (width_value width);
      from = at;
      to = at + length (text_of (Number first more hexadecimal width));
    } ∷ []
tokens_of at (Pattern inside) = record { kind = kind.Pattern; from = at; to = at + length (text_of (Pattern inside)) } ∷ []
tokens_of at (Mark bytes) = record { kind = kind.Mark; from = at; to = at + length bytes } ∷ []

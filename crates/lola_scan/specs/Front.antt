-- What the steps of the scanner answer.
use Rattle.std.specs.Prelude.{◌≡◌, ℕ, ◌+◌, ◌<◌, ◌≤◌, ◌^◌, Bool, true, false, cond, List, [], ◌∷◌, ◌++◌, length, take, Option, Some, None, Result, Ok, Err, codes, nat_eq, nat_lt}
use Rattle.std.specs.List.{prefix_len}
use Rattle.lola_scan.specs.declared.token.Token.{Token}
use Rattle.lola_scan.specs.declared.token.TokenKind.{TokenKind}
use Rattle.lola_scan.specs.declared.token.TokenKind.TheVariants as kind
use Rattle.lola_scan.specs.declared.token.ScanError.{ScanError}
use Rattle.lola_scan.specs.declared.bytes.Class.{Class}
use Rattle.lola_scan.specs.declared.bytes.Class.TheVariants as class
use Rattle.lola_scan.specs.declared.front.Front.{Front}
use Rattle.lola_scan.specs.declared.number.RunValue.{RunValue}
use Rattle.lola_scan.specs.declared.number.RunValue.TheVariants as run
use Rattle.lola_scan.specs.declared.number.WidthValue.{WidthValue}
use Rattle.lola_scan.specs.declared.number.WidthValue.TheVariants as width
use Rattle.lola_scan.specs.Bytes.{is_word_byte, is_hex_digit, is_digit, is_pattern_byte}
use Rattle.lola_scan.specs.Piece.{Piece, IsFront, NoEnd, text_of, fault_of, tokens_of, is_mark, run_value, width_value, wrong_digit, is_too_large, value_or, number_fault, is_bare}
use Rattle.lola_scan.specs.Tokens.{Fails}

-- whether a byte is of a class
abbrev pub is_in : Class → ℕ → Bool
is_in class.Word b = is_word_byte b
is_in class.Hexadecimal b = is_hex_digit b
is_in class.Decimal b = is_digit b
is_in class.Pattern b = is_pattern_byte b

-- the base that a number's digits are read to
abbrev pub base_of : Bool → ℕ
base_of hexadecimal = cond hexadecimal 16 10

-- a number, if it is below 2 to 128
abbrev pub limited : ℕ → Option ℕ
limited n = cond (nat_lt n (2 ^ 128)) (Some n) None

-- a text begins with a byte that passes a test
abbrev pub Starts : (ℕ → Bool) → List ℕ → Type 0
Starts test [] = ⊥
Starts test (b ∷ bs) = test b ≡ true

-- whether a text begins with a byte
abbrev pub begins_with : ℕ → List ℕ → Bool
begins_with b [] = false
begins_with b (c ∷ cs) = nat_eq c b

-- the decimal digits behind a ' at the front of a text
abbrev pub width_of : List ℕ → Option (List ℕ)
width_of [] = None
width_of (c ∷ cs) = cond (nat_eq c 39) (Some (take (prefix_len is_digit cs) cs)) None

-- the value of a run of digits
abbrev pub IsRunValue : List ℕ → Bool → RunValue → Type 0
IsRunValue digits hexadecimal (run.Number n) = (wrong_digit digits hexadecimal ≡ None) × (run_value digits hexadecimal ≡ Some n) × (n < 2 ^ 128)
IsRunValue digits hexadecimal run.TooLarge = is_too_large (run_value digits hexadecimal) ≡ true
IsRunValue digits hexadecimal (run.WrongDigit place) = (wrong_digit digits hexadecimal ≡ Some place) × (run_value digits hexadecimal ≡ None)

-- the value of a width
abbrev pub IsWidthValue : Option (List ℕ) → WidthValue → Type 0
IsWidthValue digits width.NoWidth = digits ≡ None
IsWidthValue digits (width.Number n) = (is_bare digits ≡ false) × (width_value digits ≡ Some n) × (n < 2 ^ 128)
IsWidthValue digits width.TooLarge = is_too_large (width_value digits) ≡ true
IsWidthValue digits width.Bare = digits ≡ Some []

-- the kind of the token of a number that begins at a place, or the number's fault
abbrev pub IsNumberKind : ℕ → List ℕ → Bool → Option (List ℕ) → Result TokenKind ScanError → Type 0
IsNumberKind at digits hexadecimal width (Ok k) = (number_fault at digits hexadecimal width ≡ None) × (k ≡ kind.Number (value_or (run_value digits hexadecimal)) (width_value width))
IsNumberKind at digits hexadecimal width (Err fault) = number_fault at digits hexadecimal width ≡ Some fault

-- where the first end of a comment stands in the text behind its `(*`
abbrev pub EndsAt : List ℕ → Option ℕ → Type 0
EndsAt inside None = NoEnd inside
EndsAt inside (Some n) = (front rest : List ℕ) × (inside ≡ front ++ (codes "*)" ++ rest)) × (length front ≡ n) × NoEnd (front ++ codes "*")

-- the length of the longest mark at the front of a text
abbrev pub mark_length : List ℕ → Option ℕ
mark_length [] = None
mark_length (b ∷ []) = cond (is_mark (b ∷ [])) (Some 1) None
mark_length (b ∷ c ∷ cs) = cond (is_mark (b ∷ c ∷ [])) (Some 2) (cond (is_mark (b ∷ [])) (Some 1) None)

-- the token of a kind, from a place on
abbrev pub token_at : ℕ → Option TokenKind → ℕ → List Token
token_at at None to = []
token_at at (Some k) to = record { kind = k; from = at; to = to } ∷ []

-- the piece that was read at the front of a text that begins at a place
pub record IsRead (at : ℕ) (text : List ℕ) (front : Front) : Type 0 where
  pub piece : Piece
  pub rest : List ℕ
  pub is_front : IsFront text piece rest
  pub sound : fault_of at piece ≡ None
  pub long : front.length ≡ length (text_of piece)
  pub token : tokens_of at piece ≡ token_at at front.kind (at + front.length)
  pub some : 0 < front.length
  pub within : front.length ≤ length text

-- what stands at the front of a text that begins at a place, or the text's first fault
abbrev pub Reads : ℕ → List ℕ → Result Front ScanError → Type 0
Reads at text (Ok front) = IsRead at text front
Reads at text (Err fault) = Fails at text fault

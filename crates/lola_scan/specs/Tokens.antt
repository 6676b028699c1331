-- Which tokens a text spells, and which fault is its first.
use Rattle.std.specs.Prelude.{◌≡◌, ℕ, ◌+◌, true, false, List, [], ◌∷◌, ◌++◌, length, Some, None, Result, Ok, Err, codes}
use Rattle.std.specs.List.{list_all}
use Rattle.lola_scan.specs.declared.token.Token.{Token}
use Rattle.lola_scan.specs.declared.token.ScanError.{ScanError}
use Rattle.lola_scan.specs.declared.token.ScanError.TheVariants.{BadByte, NumberTooLarge, OpenComment, Memory}
use Rattle.lola_scan.specs.Bytes.{is_pattern_byte}
use Rattle.lola_scan.specs.Piece.{Piece, text_of, IsPiece, IsFront, NoEnd, fault_of, tokens_of}

-- a text that begins at a place spells these tokens: piece by piece, each without a fault
pub data Spells : ℕ → List ℕ → List Token → Type 0 where
  no_piece : {at : ℕ} → Spells at [] []
  one_piece : {at : ℕ} {text : List ℕ} {tokens : List Token} (piece : Piece) (rest : List ℕ) (behind : List Token) →
      IsFront text piece rest → fault_of at piece ≡ None → Spells (at + length (text_of piece)) rest behind →
      tokens ≡ tokens_of at piece ++ behind → Spells at text tokens

-- no piece stands at the front of the text
abbrev pub NoPiece : List ℕ → Type 0
NoPiece text = (piece : Piece) (rest : List ℕ) → IsPiece piece → text ≡ text_of piece ++ rest → ⊥

-- the text begins with a quote
abbrev pub Quotes : List ℕ → Type 0
Quotes text = (inside : List ℕ) × (text ≡ 34 ∷ inside)

-- the first fault of a text that begins at a place
pub data Fails : ℕ → List ℕ → ScanError → Type 0 where
  -- the piece at the front has a fault of its own
  faulty : {at : ℕ} {text : List ℕ} {fault : ScanError} (piece : Piece) (rest : List ℕ) →
      IsFront text piece rest → fault_of at piece ≡ Some fault → Fails at text fault
  -- a comment opens and has no end
  unclosed : {at : ℕ} {text : List ℕ} {fault : ScanError} (inside : List ℕ) →
      text ≡ codes "(*" ++ inside → NoEnd inside → fault ≡ OpenComment at → Fails at text fault
  -- a quote opens a pattern, and a byte comes that no pattern has
  broken : {at : ℕ} {text : List ℕ} {fault : ScanError} (inside : List ℕ) (wrong : ℕ) (rest : List ℕ) →
      text ≡ 34 ∷ (inside ++ wrong ∷ rest) → list_all is_pattern_byte inside ≡ true → is_pattern_byte wrong ≡ false →
      (wrong ≡ 34 → ⊥) → fault ≡ BadByte (at + 1 + length inside) → Fails at text fault
  -- a quote opens a pattern, and the text ends
  unquoted : {at : ℕ} {text : List ℕ} {fault : ScanError} (inside : List ℕ) →
      text ≡ 34 ∷ inside → list_all is_pattern_byte inside ≡ true → fault ≡ BadByte at → Fails at text fault
  -- a byte that begins nothing
  stray : {at : ℕ} {text : List ℕ} {fault : ScanError} → (text ≡ [] → ⊥) → NoPiece text → (Quotes text → ⊥) →
      fault ≡ BadByte at → Fails at text fault
  -- the piece at the front has none, and the fault is behind it
  later : {at : ℕ} {text : List ℕ} {fault : ScanError} (piece : Piece) (rest : List ℕ) →
      IsFront text piece rest → fault_of at piece ≡ None → Fails (at + length (text_of piece)) rest fault → Fails at text fault

-- what `scan` answers: the tokens that the text spells, or its first fault
abbrev pub Scanned : {V : Type 0} → List ℕ → (V → List Token) → Result V ScanError → Type 0
Scanned text items (Ok tokens) = Spells 0 text (items tokens)
Scanned text items (Err Memory) = Unit {0}
Scanned text items (Err (BadByte at)) = Fails 0 text (BadByte at)
Scanned text items (Err (NumberTooLarge at)) = Fails 0 text (NumberTooLarge at)
Scanned text items (Err (OpenComment at)) = Fails 0 text (OpenComment at)

-- a text has one reading: one list of tokens or one first fault, never both
pub record HasOneReading (text : List ℕ) : Type 0 where
  pub one_list : (first second : List Token) → Spells 0 text first → Spells 0 text second → first ≡ second
  pub one_fault : (first second : ScanError) → Fails 0 text first → Fails 0 text second → first ≡ second
  pub never_both : (tokens : List Token) (fault : ScanError) → Spells 0 text tokens → Fails 0 text fault → ⊥

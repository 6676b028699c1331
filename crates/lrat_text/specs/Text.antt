-- The text of a certificate: its lines, each of items that are parted by one blank.
use Rattle.std.specs.Prelude.{◌≡◌, ◌≤◌, ◌<◌, ◌^◌, ℕ, ℤ, Bool, true, nat_eq, not, ◌&&◌, unsigned_abs, List, [], ◌∷◌, ◌++◌, map, length, codes, decimal}
use Rattle.std.specs.List.{AllByRecursion, list_all, flat_map, join_with_byte}
use Rattle.std.specs.Fmt.{signed_decimal}
use Rattle.lrat_check.specs.declared.line.Line.{Line}
use Rattle.lrat_check.specs.declared.line.Line.TheVariants.{Add, Delete}

-- a line of the text: the first one, that of an obligation's name, a line of a refutation, or the last one
pub data TextLine : Type 0 where
  First : TextLine
  Named : (name : List ℕ) → TextLine
  Taken : (line : Line) → TextLine
  Ended : (count : ℕ) → TextLine

-- the items of a line of a refutation: an addition is `id literals 0 hints 0`, a deletion `id d ids 0`
abbrev pub line_items : Line → List (List ℕ)
line_items (Add id clause hints) = decimal id ∷ (map signed_decimal clause.literals ++ codes "0" ∷ (map signed_decimal hints ++ codes "0" ∷ []))
line_items (Delete id ids) = decimal id ∷ codes "d" ∷ (map decimal ids ++ codes "0" ∷ [])

abbrev pub text_items : TextLine → List (List ℕ)
text_items First = codes "lola-cert" ∷ codes "1" ∷ []
text_items (Named name) = codes "o" ∷ name ∷ []
text_items (Taken line) = line_items line
text_items (Ended count) = codes "end" ∷ decimal count ∷ []

-- its bytes without the line feed
abbrev pub line_text : TextLine → List ℕ
line_text line = join_with_byte 32 (text_items line)

-- ids, literals and hints in their ranges
pub record IsId (n : ℕ) : Type 0 where
  pub positive : 1 ≤ n
  pub below : n < 2 ^ 63

pub record IsLiteral (l : ℤ) : Type 0 where
  pub positive : 1 ≤ unsigned_abs l
  pub below : unsigned_abs l < 2 ^ 31

pub record IsHint (h : ℤ) : Type 0 where
  pub positive : 1 ≤ unsigned_abs h
  pub below : unsigned_abs h < 2 ^ 63

abbrev pub LineFits : Line → Type 0
LineFits (Add id clause hints) = IsId id × (AllByRecursion IsLiteral clause.literals × AllByRecursion IsHint hints)
LineFits (Delete id ids) = IsId id × AllByRecursion IsId ids

-- a name isn't empty and has neither a blank nor a line feed
abbrev pub is_name_byte : ℕ → Bool
is_name_byte b = not (nat_eq b 32) && not (nat_eq b 10)

pub record NameFits (name : List ℕ) : Type 0 where
  pub some : 1 ≤ length name
  pub bytes : list_all is_name_byte name ≡ true

abbrev pub TextFits : TextLine → Type 0
TextFits First = Unit {0}
TextFits (Named name) = NameFits name
TextFits (Taken line) = LineFits line
TextFits (Ended count) = count < 2 ^ 64

-- lines with their line feeds
abbrev pub lines_text : List TextLine → List ℕ
lines_text lines = flat_map (λ line. line_text line ++ 10 ∷ []) lines

-- the lines of obligations, each a name with the lines of its refutation
abbrev pub parts_lines : List (List ℕ × List Line) → List TextLine
parts_lines [] = []
parts_lines (p ∷ ps) = Named p.0 ∷ (map Taken p.1 ++ parts_lines ps)

-- the text of a certificate, whose last line has the number of its obligations
abbrev pub cert_text : List (List ℕ × List Line) → List ℕ
cert_text parts = lines_text (First ∷ (parts_lines parts ++ Ended (length parts) ∷ []))

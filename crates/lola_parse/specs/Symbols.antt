-- Tokens as the grammar reads them: what kind of symbol each is, the bytes that it is spelled with,
-- and its place.
use Rattle.std.specs.Prelude.{◌≡◌, ℕ, ◌≤◌, Bool, true, false, cond, List, [], ◌∷◌, map, length, Option, Some, None, bytes_eq, codes, nat_eq, slice_range}
use Rattle.std.specs.List.{list_any}
use Rattle.std.specs.Str.{IsAscii}
use Rattle.lola_scan.specs.declared.token.Token.{Token}
use Rattle.lola_scan.specs.declared.token.TokenKind.{TokenKind}
use Rattle.lola_scan.specs.declared.token.TokenKind.TheVariants as kind
use Rattle.lola_parse.specs.declared.symbol.Symbol.{Symbol}
use Rattle.lola_parse.specs.declared.symbol.Symbol.TheVariants as sym
use Rattle.lola_parse.specs.declared.symbol.Language.{Language}
use Rattle.lola_parse.specs.declared.symbol.Language.TheVariants.{Design, Table}

-- the words that designs and tables reserve, which stand in types, expressions and pads
abbrev pub reserved_in_types : List ℕ → Option Symbol
reserved_in_types w =
    cond (bytes_eq w (codes "BIT")) (Some sym.Bit)
    (cond (bytes_eq w (codes "BYTE")) (Some sym.Byte)
    (cond (bytes_eq w (codes "WORD")) (Some sym.Word)
    (cond (bytes_eq w (codes "SHL")) (Some sym.Shl)
    (cond (bytes_eq w (codes "SHR")) (Some sym.Shr)
    (cond (bytes_eq w (codes "ASR")) (Some sym.Asr)
    (cond (bytes_eq w (codes "ROR")) (Some sym.Ror)
    (cond (bytes_eq w (codes "TS")) (Some sym.Ts) None)))))))

-- the words that designs and tables reserve
abbrev pub reserved : List ℕ → Option Symbol
reserved w =
    cond (bytes_eq w (codes "MODULE")) (Some sym.Module)
    (cond (bytes_eq w (codes "IN")) (Some sym.In)
    (cond (bytes_eq w (codes "OUT")) (Some sym.Out)
    (cond (bytes_eq w (codes "INOUT")) (Some sym.Inout)
    (cond (bytes_eq w (codes "CONST")) (Some sym.Const)
    (cond (bytes_eq w (codes "REG")) (Some sym.Reg)
    (cond (bytes_eq w (codes "VAR")) (Some sym.Var)
    (cond (bytes_eq w (codes "BEGIN")) (Some sym.Begin)
    (cond (bytes_eq w (codes "END")) (Some sym.End) (reserved_in_types w)))))))))

-- the words that tables alone reserve: those of rows, roles and classes
abbrev pub row_words : List (List ℕ)
row_words =
    codes "TABLE" ∷ codes "FOR" ∷ codes "ROLES" ∷ codes "STATE" ∷ codes "IS" ∷ codes "FIELDS" ∷ codes "INVARIANT" ∷ codes "BOUNDARY" ∷ codes "START"
    ∷ codes "OUTSIDE" ∷ codes "CLASS" ∷ codes "LET" ∷ codes "SET" ∷ []

abbrev pub role_words : List (List ℕ)
role_words =
    codes "RESET" ∷ codes "STALL" ∷ codes "CODE" ∷ codes "FETCHED" ∷ codes "LOADED" ∷ codes "READ" ∷ codes "WRITE" ∷ codes "ADDRESS" ∷ codes "DATA" ∷ []

abbrev pub class_words : List (List ℕ)
class_words =
    codes "PHASE" ∷ codes "TURNS" ∷ codes "OF" ∷ codes "FROM" ∷ codes "STEP" ∷ codes "LOAD" ∷ codes "STORE" ∷ codes "FETCH" ∷ codes "SHOWS"
    ∷ codes "LINK" ∷ codes "ACCESS" ∷ []

abbrev pub is_one_of : List (List ℕ) → List ℕ → Bool
is_one_of words w = list_any (λ word. bytes_eq w word) words

abbrev pub is_table_word : List ℕ → Bool
is_table_word w = cond (is_one_of row_words w) true (cond (is_one_of role_words w) true (is_one_of class_words w))

-- a word that isn't reserved for both is a name, but for those that tables reserve in a table
abbrev pub free_word : Language → List ℕ → Symbol
free_word Design w = sym.Name
free_word Table w = cond (is_table_word w) sym.TableWord sym.Name

abbrev pub symbol_or : Option Symbol → Symbol → Symbol
symbol_or (Some s) other = s
symbol_or None other = other

abbrev pub word_symbol : Language → List ℕ → Symbol
word_symbol language w = symbol_or (reserved w) (free_word language w)

-- the marks
abbrev pub short_mark : ℕ → Symbol
short_mark b =
    cond (nat_eq b 40) sym.OpenParen (cond (nat_eq b 41) sym.CloseParen (cond (nat_eq b 91) sym.OpenBracket (cond (nat_eq b 93) sym.CloseBracket
    (cond (nat_eq b 123) sym.OpenBrace (cond (nat_eq b 125) sym.CloseBrace (cond (nat_eq b 44) sym.Comma (cond (nat_eq b 59) sym.Semicolon
    (cond (nat_eq b 58) sym.Colon (cond (nat_eq b 46) sym.Dot (cond (nat_eq b 61) sym.Equal (cond (nat_eq b 35) sym.Unequal
    (cond (nat_eq b 60) sym.Less (cond (nat_eq b 62) sym.Greater (cond (nat_eq b 43) sym.Plus (cond (nat_eq b 45) sym.Minus
    (cond (nat_eq b 124) sym.Or (cond (nat_eq b 94) sym.Xor (cond (nat_eq b 38) sym.And (cond (nat_eq b 126) sym.Not
    (cond (nat_eq b 33) sym.Times (cond (nat_eq b 64) sym.At sym.Stray)))))))))))))))))))))

abbrev pub long_mark : ℕ → ℕ → Symbol
long_mark a b =
    cond (nat_eq a 58) (cond (nat_eq b 61) sym.Assign sym.Stray)
    (cond (nat_eq a 45) (cond (nat_eq b 62) sym.Arrow sym.Stray)
    (cond (nat_eq a 60) (cond (nat_eq b 61) sym.AtMost sym.Stray)
    (cond (nat_eq a 62) (cond (nat_eq b 61) sym.AtLeast sym.Stray) sym.Stray)))

abbrev pub mark_symbol : List ℕ → Symbol
mark_symbol [] = sym.Stray
mark_symbol (a ∷ []) = short_mark a
mark_symbol (a ∷ b ∷ []) = long_mark a b
mark_symbol (a ∷ b ∷ c ∷ more) = sym.Stray

abbrev pub symbol_of : Language → TokenKind → List ℕ → Symbol
symbol_of language kind.Word text = word_symbol language text
symbol_of language (kind.Number value width) text = sym.Number value width
symbol_of language kind.Pattern text = sym.Pattern
symbol_of language kind.Mark text = mark_symbol text

abbrev pub is_word_kind : TokenKind → Bool
is_word_kind kind.Word = true
is_word_kind (kind.Number value width) = false
is_word_kind kind.Pattern = false
is_word_kind kind.Mark = false

-- a number
abbrev pub is_number : Symbol → Bool
is_number (sym.Number value width) = true
is_number other = false

-- a token as the grammar reads it; reserved words are words too
pub record Item : Type 0 where
  pub symbol : Symbol
  pub is_word : Bool
  pub spelled : List ℕ
  pub at : ℕ

-- the bytes of a token
abbrev pub text_of : List ℕ → Token → List ℕ
text_of text token = slice_range text token.from token.to

abbrev pub item_of : Language → List ℕ → Token → Item
item_of language text token = record {
  symbol = symbol_of language token.kind (text_of text token);
  is_word = is_word_kind token.kind;
  spelled = text_of text token;
  at = token.from;
}

abbrev pub items_of : Language → List ℕ → List Token → List Item
items_of language text tokens = map (item_of language text) tokens

-- a token lies within its text, and is spelled in ASCII
pub record IsIn (text : List ℕ) (token : Token) : Type 0 where
  pub ordered : token.from ≤ token.to
  pub within : token.to ≤ length text
  pub ascii : IsAscii (text_of text token)

-- so does each of them
abbrev pub AreIn : List ℕ → List Token → Type 0
AreIn text [] = Unit {0}
AreIn text (token ∷ more) = IsIn text token × AreIn text more

-- the item at the front of a list, field by field, and the rest; a word is no number. Of an empty list
-- the symbol is Nothing, the place 0, and the rest is empty
abbrev pub IsNext : List Item → Symbol → Bool → List ℕ → ℕ → List Item → Type 0
IsNext [] symbol is_word spelled at rest = (symbol ≡ sym.Nothing) × (is_word ≡ false) × (at ≡ 0) × (rest ≡ [])
IsNext (item ∷ more) symbol is_word spelled at rest =
    (item ≡ record { symbol = symbol; is_word = is_word; spelled = spelled; at = at }) × (more ≡ rest) ×
    (is_word ≡ true → is_number symbol ≡ false)

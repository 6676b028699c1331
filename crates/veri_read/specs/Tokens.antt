-- The tokens of a text.
use Rattle.std.specs.Prelude.{ℕ, zero, suc, ◌-◌, Bool, cond, ◌||◌, ◌&&◌, nat_eq, nat_le, List, [], ◌∷◌, take, bytes_eq, codes}
use Rattle.std.specs.List.{prefix_len}
use Rattle.veri_read.specs.declared.symbol.Symbol.{Symbol}
use Rattle.veri_read.specs.declared.symbol.Symbol.TheVariants as symbol

-- space, tab, line feed, carriage return
abbrev pub is_blank : ℕ → Bool
is_blank b = nat_eq b 32 || (nat_eq b 9 || (nat_eq b 10 || nat_eq b 13))

abbrev pub is_letter : ℕ → Bool
is_letter b = (nat_le 65 b && nat_le b 90) || (nat_le 97 b && nat_le b 122)

abbrev pub is_digit : ℕ → Bool
is_digit b = nat_le 48 b && nat_le b 57

-- a name begins with a letter or `_`, and goes on with letters, digits and `_`
abbrev pub begins_name : ℕ → Bool
begins_name b = is_letter b || nat_eq b 95

abbrev pub is_name_byte : ℕ → Bool
is_name_byte b = (is_letter b || is_digit b) || nat_eq b 95

-- the words, which are no names
abbrev pub statement_word : List ℕ → Symbol
statement_word w =
    cond (bytes_eq w (codes "assign")) symbol.Assign
    (cond (bytes_eq w (codes "always")) symbol.Always
    (cond (bytes_eq w (codes "posedge")) symbol.Posedge
    (cond (bytes_eq w (codes "begin")) symbol.Begin
    (cond (bytes_eq w (codes "end")) symbol.End symbol.Name))))

abbrev pub word_symbol : List ℕ → Symbol
word_symbol w =
    cond (bytes_eq w (codes "module")) symbol.Module
    (cond (bytes_eq w (codes "endmodule")) symbol.EndModule
    (cond (bytes_eq w (codes "input")) symbol.Input
    (cond (bytes_eq w (codes "output")) symbol.Output
    (cond (bytes_eq w (codes "inout")) symbol.Inout
    (cond (bytes_eq w (codes "wire")) symbol.Wire
    (cond (bytes_eq w (codes "reg")) symbol.Reg (statement_word w)))))))

-- a text begins with these bytes, which are so many
abbrev pub stands : ℕ → List ℕ → List ℕ → Bool
stands n bytes text = bytes_eq bytes (take n text)

-- the constants
abbrev pub constant_symbol : List ℕ → Symbol
constant_symbol text =
    cond (stands 4 (codes "1'b0") text) symbol.Low
    (cond (stands 4 (codes "1'b1") text) symbol.High
    (cond (stands 4 (codes "1'bz") text) symbol.Floating symbol.Stray))

-- the marks, the constants, and bytes that begin no token
abbrev pub mark_symbol : ℕ → List ℕ → Symbol
mark_symbol b text =
    cond (nat_eq b 40) symbol.OpenParen
    (cond (nat_eq b 41) symbol.CloseParen
    (cond (nat_eq b 44) symbol.Comma
    (cond (nat_eq b 59) symbol.Semicolon
    (cond (nat_eq b 61) symbol.Equal
    (cond (nat_eq b 38) symbol.And
    (cond (nat_eq b 63) symbol.Question
    (cond (nat_eq b 58) symbol.Colon
    (cond (nat_eq b 126) symbol.Not
    (cond (nat_eq b 64) symbol.At
    (cond (nat_eq b 60) (cond (stands 2 (codes "<=") text) symbol.Arrow symbol.Stray)
    (constant_symbol text)))))))))))

abbrev pub mark_length : Symbol → ℕ
mark_length symbol.Low = 4
mark_length symbol.High = 4
mark_length symbol.Floating = 4
mark_length symbol.Arrow = 2
mark_length s = 1

-- the token at the front of a text whose first byte is no blank: a name or word is as long as it can be
abbrev pub front_symbol : ℕ → List ℕ → Symbol
front_symbol b text = cond (begins_name b) (word_symbol (take (prefix_len is_name_byte text) text)) (mark_symbol b text)

abbrev pub front_length : ℕ → List ℕ → ℕ
front_length b text = cond (begins_name b) (prefix_len is_name_byte text) (mark_length (mark_symbol b text))

-- a token: its symbol, the text of a name or word, and the offset of its first byte
pub record Item : Type 0 where
  pub symbol : Symbol
  pub spelled : List ℕ
  pub at : ℕ

abbrev pub front_item : ℕ → ℕ → List ℕ → Item
front_item at b text = record { symbol = front_symbol b text; spelled = cond (begins_name b) (take (front_length b text) text) []; at = at }

-- the end of a text
abbrev pub end_item : ℕ → Item
end_item at = record { symbol = symbol.Nothing; spelled = []; at = at }

-- the tokens of a text that begins at an offset, behind so many bytes that belong to a token before; at the end of the text stands the token Nothing
abbrev pub items_from : ℕ → ℕ → List ℕ → List Item
items_from skip at [] = end_item at ∷ []
items_from (suc skip) at (b ∷ bs) = items_from skip (suc at) bs
items_from zero at (b ∷ bs) = cond (is_blank b) (items_from 0 (suc at) bs) (front_item at b (b ∷ bs) ∷ items_from (front_length b (b ∷ bs) - 1) (suc at) bs)

abbrev pub items : List ℕ → List Item
items text = items_from 0 0 text

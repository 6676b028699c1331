-- The grammar of expressions, rule by rule. `Expression language all e rest` says that `all` begins with an
-- expression whose tree is e, and that `rest` stands behind it; so for each rule. `{..}` is a chain
-- that carries what stands before it. Trees and their places are those of `lola_tree`.
use Rattle.std.specs.Prelude.{◌≡◌, ℕ, Bool, true, false, List, [], ◌∷◌, ◌++◌, Option, Some, None}
use Rattle.lola_bits.specs.declared.op.Op.{Op}
use Rattle.lola_bits.specs.declared.op.Op.TheVariants as op
use Rattle.lola_tree.specs.declared.named.Count.{Count}
use Rattle.lola_tree.specs.declared.named.Count.TheVariants as count
use Rattle.lola_tree.specs.declared.named.Ref.{Ref}
use Rattle.lola_tree.specs.Tree.{Tree, number, whole, bit, slice, index, concat, negation, binary, choice, Parts, no_part, one_part}
use Rattle.lola_parse.specs.declared.symbol.Symbol.{Symbol}
use Rattle.lola_parse.specs.declared.symbol.Symbol.TheVariants as sym
use Rattle.lola_parse.specs.declared.symbol.Language.{Language}
use Rattle.lola_parse.specs.declared.symbol.Language.TheVariants.{Design, Table}
use Rattle.lola_parse.specs.Symbols.{Item, is_number}

-- a symbol stands at the front, at this place, and the rest behind it
pub record Stands (symbol : Symbol) (at : ℕ) (all rest : List Item) : Type 0 where
  pub is_word : Bool
  pub spelled : List ℕ
  pub splits : all ≡ record { symbol = symbol; is_word = is_word; spelled = spelled; at = at } ∷ rest

-- a symbol stands at the front, wherever that is
abbrev pub Passes : Symbol → List Item → List Item → Type 0
Passes symbol all rest = (at : ℕ) × Stands symbol at all rest

-- a name does, which is spelled so
pub record Names (name : List ℕ) (at : ℕ) (all rest : List Item) : Type 0 where
  pub is_word : Bool
  pub splits : all ≡ record { symbol = sym.Name; is_word = is_word; spelled = name; at = at } ∷ rest

-- a word does, reserved or not, which is spelled so; a number is no word
pub record Words (word : List ℕ) (all rest : List Item) : Type 0 where
  pub symbol : Symbol
  pub at : ℕ
  pub no_number : is_number symbol ≡ false
  pub splits : all ≡ record { symbol = symbol; is_word = true; spelled = word; at = at } ∷ rest

-- the place of what stands at the front
abbrev pub place_of : List Item → ℕ
place_of [] = 0
place_of (item ∷ more) = item.at

-- the operators of relations, sums and shifts
abbrev pub relation_of : Symbol → Option Op
relation_of sym.Equal = Some op.Eq
relation_of sym.Unequal = Some op.Ne
relation_of sym.Less = Some op.Lt
relation_of sym.AtMost = Some op.Le
relation_of sym.Greater = Some op.Gt
relation_of sym.AtLeast = Some op.Ge
relation_of other = None

abbrev pub adding_of : Symbol → Option Op
adding_of sym.Plus = Some op.Add
adding_of sym.Minus = Some op.Sub
adding_of sym.Or = Some op.Or
adding_of sym.Xor = Some op.Xor
adding_of other = None

abbrev pub shift_of : Symbol → Option Op
shift_of sym.Shl = Some op.Shl
shift_of sym.Shr = Some op.Shr
shift_of sym.Asr = Some op.Asr
shift_of sym.Ror = Some op.Ror
shift_of other = None

-- count = number | name. The number has no width; in a table it is no name
pub data Counted (l : Language) : List Item → Count → List Item → Type 0 where
  fixed : {all rest : List Item} {c : Count} (value at : ℕ) → Stands (sym.Number value None) at all rest → c ≡ count.Fixed value at → Counted l all c rest
  constant : {all rest : List Item} {c : Count} (name : List ℕ) (at : ℕ) → l ≡ Design → Names name at all rest →
      c ≡ count.Const record { name = name; at = at } → Counted l all c rest

-- {"." word}, behind the words of a path
pub data Path : List (List ℕ) → List Item → List (List ℕ) → List Item → Type 0 where
  no_word : {before path : List (List ℕ)} {all rest : List Item} → path ≡ before → rest ≡ all → Path before all path rest
  one_word : {before path : List (List ℕ)} {all rest : List Item} {at : ℕ} {word : List ℕ} (dot behind : List Item) → Stands sym.Dot at all dot →
      Words word dot behind → Path (before ++ word ∷ []) behind path rest → Path before all path rest

-- ref = name | "@" word {"." word}, the second in tables
pub data Reference (l : Language) : List Item → Ref → List Item → Type 0 where
  plain : {all rest : List Item} {r : Ref} (name : List ℕ) (at : ℕ) → Names name at all rest →
      r ≡ record { source = false; path = name ∷ []; at = at } → Reference l all r rest
  source : {all rest : List Item} {r : Ref} {word : List ℕ} (path : List (List ℕ)) (at : ℕ) (first behind : List Item) → l ≡ Table →
      Stands sym.At at all first → Words word first behind → Path (word ∷ []) behind path rest → r ≡ record { source = true; path = path; at = at } →
      Reference l all r rest

-- ["!" count], where a part that begins at a place stands once without it
pub data Times (l : Language) (at : ℕ) (all : List Item) : Count → List Item → Type 0 where
  once : {times : Count} {rest : List Item} → times ≡ count.Fixed 1 at → rest ≡ all → Times l at all times rest
  repeated : {times : Count} {rest : List Item} {sign_at : ℕ} (behind : List Item) → Stands sym.Times sign_at all behind → Counted l behind times rest →
      Times l at all times rest

-- the parts with one more at the end
abbrev pub with_part : Parts → Tree → Count → Parts
with_part no_part e times = one_part e times no_part
with_part (one_part f n more) e times = one_part f n (with_part more e times)

mutual
  -- expr = rel ["->" expr ":" expr]
  pub data Expression (l : Language) : List Item → Tree → List Item → Type 0 where
    one_rel : {all rest : List Item} {e : Tree} → Rel l all e rest → Expression l all e rest
    chosen : {all rest : List Item} {e test first second : Tree} {at colon_at : ℕ} (arrow yes colon no : List Item) → Rel l all test arrow →
        Stands sym.Arrow at arrow yes → Expression l yes first colon → Stands sym.Colon colon_at colon no → Expression l no second rest →
        e ≡ choice test first second at → Expression l all e rest

  -- rel = sum [relation sum]
  pub data Rel (l : Language) : List Item → Tree → List Item → Type 0 where
    one_sum : {all rest : List Item} {e : Tree} → Sum l all e rest → Rel l all e rest
    related : {all rest : List Item} {e a b : Tree} {symbol : Symbol} {o : Op} {at : ℕ} (sign behind : List Item) → Sum l all a sign →
        Stands symbol at sign behind → relation_of symbol ≡ Some o → Sum l behind b rest → e ≡ binary o a b at → Rel l all e rest

  -- sum = term {adding term}
  pub data Sum (l : Language) : List Item → Tree → List Item → Type 0 where
    sum : {all rest : List Item} {e a : Tree} (behind : List Item) → Term l all a behind → Terms l a behind e rest → Sum l all e rest

  pub data Terms (l : Language) : Tree → List Item → Tree → List Item → Type 0 where
    no_term : {all rest : List Item} {a e : Tree} → e ≡ a → rest ≡ all → Terms l a all e rest
    one_term : {all rest : List Item} {a b e : Tree} {symbol : Symbol} {o : Op} {at : ℕ} (first behind : List Item) → Stands symbol at all first →
        adding_of symbol ≡ Some o → Term l first b behind → Terms l (binary o a b at) behind e rest → Terms l a all e rest

  -- term = factor {"&" factor}
  pub data Term (l : Language) : List Item → Tree → List Item → Type 0 where
    term : {all rest : List Item} {e a : Tree} (behind : List Item) → Factor l all a behind → Factors l a behind e rest → Term l all e rest

  pub data Factors (l : Language) : Tree → List Item → Tree → List Item → Type 0 where
    no_factor : {all rest : List Item} {a e : Tree} → e ≡ a → rest ≡ all → Factors l a all e rest
    one_factor : {all rest : List Item} {a b e : Tree} {at : ℕ} (first behind : List Item) → Stands sym.And at all first → Factor l first b behind →
        Factors l (binary op.And a b at) behind e rest → Factors l a all e rest

  -- factor = "~" factor | number | ref ["." count | "[" count ":" count "]" | "[" expr "]"]
  --          | "{" part {"," part} "}" | shift "(" expr "," expr ")" | "(" expr ")"
  pub data Factor (l : Language) : List Item → Tree → List Item → Type 0 where
    negated : {all rest : List Item} {e a : Tree} {at : ℕ} (behind : List Item) → Stands sym.Not at all behind → Factor l behind a rest →
        e ≡ negation a at → Factor l all e rest
    numbered : {all rest : List Item} {e : Tree} {value at : ℕ} {width : Option ℕ} → Stands (sym.Number value width) at all rest →
        e ≡ number value width at → Factor l all e rest
    named : {all rest : List Item} {e : Tree} {of : Ref} → Reference l all of rest → e ≡ whole of → Factor l all e rest
    one_bit : {all rest : List Item} {e : Tree} {of : Ref} {place : Count} {at : ℕ} (dot behind : List Item) → Reference l all of dot →
        Stands sym.Dot at dot behind → Counted l behind place rest → e ≡ bit of place at → Factor l all e rest
    sliced : {all rest : List Item} {e : Tree} {of : Ref} {high low : Count} {at colon_at close_at : ℕ} (bracket first colon second close : List Item) →
        Reference l all of bracket → Stands sym.OpenBracket at bracket first → Counted l first high colon → Stands sym.Colon colon_at colon second →
        Counted l second low close → Stands sym.CloseBracket close_at close rest → e ≡ slice of high low at → Factor l all e rest
    indexed : {all rest : List Item} {e place : Tree} {of : Ref} {at close_at : ℕ} (bracket first close : List Item) → Reference l all of bracket →
        Stands sym.OpenBracket at bracket first → Expression l first place close → Stands sym.CloseBracket close_at close rest → e ≡ index of place at →
        Factor l all e rest
    joined : {all rest : List Item} {e a : Tree} {times : Count} {parts : Parts} {at close_at : ℕ} (first behind close : List Item) →
        Stands sym.OpenBrace at all first → OnePart l first a times behind → MoreParts l (one_part a times no_part) behind parts close →
        Stands sym.CloseBrace close_at close rest → e ≡ concat parts at → Factor l all e rest
    shifted : {all rest : List Item} {e a b : Tree} {symbol : Symbol} {o : Op} {at open_at comma_at close_at : ℕ} (paren first comma second close : List Item) →
        Stands symbol at all paren → shift_of symbol ≡ Some o → Stands sym.OpenParen open_at paren first → Expression l first a comma →
        Stands sym.Comma comma_at comma second → Expression l second b close → Stands sym.CloseParen close_at close rest → e ≡ binary o a b at → Factor l all e rest
    nested : {all rest : List Item} {e : Tree} {open_at close_at : ℕ} (first close : List Item) → Stands sym.OpenParen open_at all first →
        Expression l first e close → Stands sym.CloseParen close_at close rest → Factor l all e rest

  -- part = expr ["!" count]
  pub data OnePart (l : Language) : List Item → Tree → Count → List Item → Type 0 where
    part : {all rest : List Item} {e : Tree} {times : Count} (behind : List Item) → Expression l all e behind → Times l (place_of all) behind times rest →
        OnePart l all e times rest

  -- {"," part}
  pub data MoreParts (l : Language) : Parts → List Item → Parts → List Item → Type 0 where
    no_more : {all rest : List Item} {before parts : Parts} → parts ≡ before → rest ≡ all → MoreParts l before all parts rest
    one_more : {all rest : List Item} {before parts : Parts} {e : Tree} {times : Count} {at : ℕ} (first behind : List Item) → Stands sym.Comma at all first →
        OnePart l first e times behind → MoreParts l (with_part before e times) behind parts rest → MoreParts l before all parts rest

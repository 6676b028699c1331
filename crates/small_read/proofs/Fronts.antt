-- Lemmas on what stands at the front: it is one thing, and where one does, no other does.
use Rattle.std.proofs.Common.{◌≡◌, ℕ, Bool, true, false, List, [], ◌∷◌, Option, refl, sym, ap, ◌∙◌}
use Rattle.std.specs.Prelude.{bytes_eq, codes, if◌then◌else◌, filter}
use Rattle.lola_parse.specs.declared.symbol.Symbol.{Symbol}
use Rattle.lola_parse.specs.declared.symbol.Symbol.TheVariants as s
use Rattle.lola_parse.specs.declared.cursor.Next.{Next}
use Rattle.lola_parse.specs.Symbols.{Item, IsNext}
use Rattle.lola_parse.specs.Read.{Stops}
use Rattle.lola_parse.specs.Grammar.{Passes, Words}
use Rattle.small_read.specs.Grammar.{Keyword, Named, Patterned, is_place}
use Rattle.small_read.specs.Read.{Lacks, LacksName, LacksRole, LacksRow, LacksClass, Digit}

one_front : {item other : Item} {all rest more : List Item} → all ≡ item ∷ rest → all ≡ other ∷ more → (item ≡ other) × (rest ≡ more)
one_front h k = let e = sym h ∙ k in (cc, cc)

abbrev symbol_of : Item → Symbol
symbol_of item = item.symbol

abbrev spelled_of : Item → List ℕ
spelled_of item = item.spelled

pub keyword_one : {word : List ℕ} {all rest more : List Item} → Keyword word all rest → Keyword word all more → rest ≡ more
keyword_one h k = (one_front h.splits k.splits).1

pub passes_one : {symbol : Symbol} {all rest more : List Item} → Passes symbol all rest → Passes symbol all more → rest ≡ more
passes_one h k = (one_front h.1.splits k.1.splits).1

pub name_one : {name other : List ℕ} {all rest more : List Item} → Named name all rest → Named other all more → (name ≡ other) × (rest ≡ more)
name_one h k = let e = one_front h.1.splits k.1.splits in (ap spelled_of e.0, e.1)

pub word_one : {word other : List ℕ} {all rest more : List Item} → Words word all rest → Words other all more → (word ≡ other) × (rest ≡ more)
word_one h k = let e = one_front h.splits k.splits in (ap spelled_of e.0, e.1)

pub pattern_one : {pattern other : List ℕ} {all rest more : List Item} → Patterned pattern all rest → Patterned other all more → (pattern ≡ other) × (rest ≡ more)
pattern_one h k =
    let e = one_front h.splits k.splits in
    (h.places ∙ (ap (λ item. filter is_place (spelled_of item)) e.0 ∙ sym k.places), e.1)

-- the number of a digit
abbrev digit : Bool → ℕ
digit one = if one then 1 else 0

digit_is : (one other : Bool) → digit one ≡ digit other → one ≡ other
digit_is true true e = refl
digit_is true false e = absurd (let p : 1 ≡ 0 = e in cc)
digit_is false true e = absurd (let p : 0 ≡ 1 = e in cc)
digit_is false false e = refl

number_is : {value other : ℕ} {width wide : Option ℕ} → s.Number value width ≡ s.Number other wide → value ≡ other
number_is e = cc

pub digit_one : {one other : Bool} {all rest more : List Item} → Digit all one rest → Digit all other more → (one ≡ other) × (rest ≡ more)
digit_one {one = one} {other = other} h k =
    let e = one_front h.number_read.splits k.number_read.splits in
    (digit_is one other (sym h.value_is ∙ (number_is (ap symbol_of e.0) ∙ k.value_is)), e.1)

-- where a word is at the front, another isn't
pub other_word : {word : List ℕ} {all rest : List Item} (other : List ℕ) → bytes_eq word word ≡ true → bytes_eq word other ≡ false → Keyword word all rest → Lacks other all
other_word {word = word} other same apart h =
    record { lacks = λ more k. let e = one_front h.splits k.splits in absurd (let p : true ≡ false = sym same ∙ (ap (bytes_eq word) (ap spelled_of e.0) ∙ apart) in cc) }

pub word_no_name : {word : List ℕ} {all rest : List Item} → Keyword word all rest → LacksName all
word_no_name h = record { lacks = λ name more k. let e = one_front h.splits k.1.splits in absurd (let p : s.TableWord ≡ s.Name = ap symbol_of e.0 in cc) }

pub semicolon_no_word : {all rest : List Item} (word : List ℕ) → Passes s.Semicolon all rest → Lacks word all
semicolon_no_word word h = record { lacks = λ more k. let e = one_front h.1.splits k.splits in absurd (let p : s.Semicolon ≡ s.TableWord = ap symbol_of e.0 in cc) }

end_no_word : {all rest : List Item} (word : List ℕ) → Passes s.End all rest → Lacks word all
end_no_word word h = record { lacks = λ more k. let e = one_front h.1.splits k.splits in absurd (let p : s.End ≡ s.TableWord = ap symbol_of e.0 in cc) }

pub end_no_class : {all rest : List Item} → Passes s.End all rest → LacksClass all
end_no_class h = record {
  no_class = end_no_word (codes "CLASS") h;
  no_row = record { no_phase = end_no_word (codes "PHASE") h; no_set = end_no_word (codes "SET") h };
  no_name = record { lacks = λ name more k. let e = one_front h.1.splits k.1.splits in absurd (let p : s.End ≡ s.Name = ap symbol_of e.0 in cc) };
}

pub state_no_role : {all rest : List Item} → Keyword (codes "STATE") all rest → LacksRole all
state_no_role h = record { no_reset = other_word (codes "RESET") refl refl h; no_loaded = other_word (codes "LOADED") refl refl h }

pub class_no_row : {all rest : List Item} → Keyword (codes "CLASS") all rest → LacksRow all
class_no_row h = record { no_phase = other_word (codes "PHASE") refl refl h; no_set = other_word (codes "SET") refl refl h }

-- an expression goes on with no ";"
pub semicolon_stops : {all rest : List Item} → Passes s.Semicolon all rest → Stops all
semicolon_stops h = record { stops = rw h.1.splits refl }

-- what the token at the front is, from a look at it
abbrev pub IsNextOf : List Item → Next → Type 0
IsNextOf all n = IsNext all n.symbol n.is_word n.spelled.now n.at n.rest

pub name_next : (all : List Item) (n : Next) → IsNextOf all n → n.symbol ≡ s.Name → Named n.spelled.now all n.rest
name_next [] n next e = absurd (let p : s.Nothing ≡ s.Name = sym next.0 ∙ e in cc)
name_next (item ∷ more) n next e = (n.at, record { is_word = n.is_word; splits = cc })

pub digit_next : (all : List Item) (n : Next) (value : ℕ) (width : Option ℕ) (one : Bool) → IsNextOf all n → n.symbol ≡ s.Number value width →
    value ≡ digit one → Digit all one n.rest
digit_next [] n value width one next e is = absurd (let p : s.Nothing ≡ s.Number value width = sym next.0 ∙ e in cc)
digit_next (item ∷ more) n value width one next e is =
    record { value = value; width = width; at = n.at; number_read = record { is_word = n.is_word; spelled = n.spelled.now; splits = cc }; value_is = is }

pub word_next : (all : List Item) (n : Next) → IsNextOf all n → n.is_word ≡ true → Words n.spelled.now all n.rest
word_next [] n next e = absurd (let p : false ≡ true = sym next.1 ∙ e in cc)
word_next (item ∷ more) n next e = record { symbol = n.symbol; at = n.at; no_number = next.2 e; splits = cc }

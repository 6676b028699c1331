-- Lemmas on the token at the front.
use Rattle.std.proofs.Common.{◌≡◌, ℕ, ◌<◌, Bool, true, false, List, [], ◌∷◌, length, Option, Some, None, ◌∙◌, sym, ap, arith}
use Rattle.lola_parse.specs.declared.symbol.Symbol.{Symbol}
use Rattle.lola_parse.specs.declared.symbol.Symbol.TheVariants as s
use Rattle.lola_parse.specs.declared.cursor.Next.{Next}
use Rattle.lola_parse.specs.Symbols.{Item, IsNext}
use Rattle.lola_tree.specs.declared.named.Count.TheVariants as count
use Rattle.lola_parse.specs.declared.symbol.Language.{Language}
use Rattle.lola_parse.specs.declared.symbol.Language.TheVariants.{Design}
use Rattle.lola_parse.specs.Grammar.{Stands, Names, Words, Counted, constant}

-- whether a token can have the symbol
abbrev pub is_symbol : Symbol → Bool
is_symbol s.Nothing = false
is_symbol other = true

abbrev pub IsNextOf : List Item → Next → Type 0
IsNextOf all n = IsNext all n.symbol n.is_word n.spelled.now n.at n.rest

pub stands : (all : List Item) (n : Next) (symbol : Symbol) → IsNextOf all n → n.symbol ≡ symbol → is_symbol symbol ≡ true → Stands symbol n.at all n.rest
stands [] n symbol next e known = absurd (let p : is_symbol symbol ≡ false = ap is_symbol (sym e ∙ next.0) in cc)
stands (item ∷ more) n symbol next e known = record { is_word = n.is_word; spelled = n.spelled.now; splits = cc }

pub names : (all : List Item) (n : Next) → IsNextOf all n → n.symbol ≡ s.Name → Names n.spelled.now n.at all n.rest
names [] n next e = absurd (let p : s.Nothing ≡ s.Name = sym next.0 ∙ e in cc)
names (item ∷ more) n next e = record { is_word = n.is_word; splits = cc }

pub words : (all : List Item) (n : Next) → IsNextOf all n → n.is_word ≡ true → Words n.spelled.now all n.rest
words [] n next e = absurd (let p : false ≡ true = sym next.1 ∙ e in cc)
words (item ∷ more) n next e = record { symbol = n.symbol; at = n.at; no_number = next.2 e; splits = cc }

-- a name that was read is a count of a design
pub counted_name : (l : Language) (copy name : List ℕ) (at : ℕ) (all rest : List Item) → l ≡ Design → copy ≡ name → Names name at all rest →
    Counted l all (count.Const record { name = copy; at = at }) rest
counted_name l copy name at all rest design same read = constant name at design read (ap (λ n. count.Const record { name = n; at = at }) same)

pub stands_op : {O : Type 0} (operator : Symbol → Option O) (all : List Item) (n : Next) (o : O) → IsNextOf all n → operator s.Nothing ≡ None → operator n.symbol ≡ Some o →
    Stands n.symbol n.at all n.rest
stands_op operator [] n o next none some = absurd (let p : None ≡ Some o = sym none ∙ ap operator (sym next.0) ∙ some in cc)
stands_op operator (item ∷ more) n o next none some = record { is_word = n.is_word; spelled = n.spelled.now; splits = cc }

pub Stands-shorter : {symbol : Symbol} {at : ℕ} {all rest : List Item} → Stands symbol at all rest → length rest < length all
Stands-shorter h = rw h.splits (omega arith)

pub Words-shorter : {word : List ℕ} {all rest : List Item} → Words word all rest → length rest < length all
Words-shorter h = rw h.splits (omega arith)

-- Where the rules inside an expression and a design may end, by the token that stands behind them.
use Rattle.std.specs.Prelude.{◌≡◌, ℕ, ◌<◌, ◌≤◌, Bool, true, false, List, length}
use Rattle.lola_parse.specs.declared.symbol.Symbol.{Symbol}
use Rattle.lola_parse.specs.declared.symbol.Symbol.TheVariants as sym
use Rattle.lola_parse.specs.declared.symbol.Language.{Language}
use Rattle.lola_parse.specs.declared.symbol.Language.TheVariants.{Table}
use Rattle.lola_parse.specs.Symbols.{Item, is_number}
use Rattle.lola_parse.specs.Grammar.{Passes}
use Rattle.lola_parse.specs.Read.{front}

-- how tightly a symbol holds what stands before it: with those of 1 a list of parts goes on, with those
-- of 2 a part, of 3 an expression, of 4 a rel, of 5 a sum, of 6 a term, and of 7 a factor
abbrev pub tightness : Symbol → ℕ
tightness sym.Comma = 1
tightness sym.Times = 2
tightness sym.Arrow = 3
tightness sym.Equal = 4
tightness sym.Unequal = 4
tightness sym.Less = 4
tightness sym.AtMost = 4
tightness sym.Greater = 4
tightness sym.AtLeast = 4
tightness sym.Plus = 5
tightness sym.Minus = 5
tightness sym.Or = 5
tightness sym.Xor = 5
tightness sym.And = 6
tightness sym.Dot = 7
tightness sym.OpenBracket = 7
tightness other = 0

-- a rule whose going on is as tight as this may end here: no such token stands at the front, nor one
-- that is tighter, and so many tokens are left
pub record Closes (tight floor : ℕ) (rest : List Item) : Type 0 where
  pub looser : tightness (front rest) < tight
  pub within : floor ≤ length rest

-- the path of a table's name may end here: a "." at the front has a number behind it
abbrev pub PathCloses : Language → List Item → Type 0
PathCloses l rest = l ≡ Table → (behind : List Item) → Passes sym.Dot rest behind → is_number (front behind) ≡ true

-- whatever the rule says to stand at the front, and to end where it may, is this
abbrev pub Sole : {T : Type 0} → (T → List Item → Type 0) → (List Item → Type 0) → T → List Item → Type 0
Sole {T = T} Rule MayEnd tree behind = (other : T) (rest : List Item) → Rule other rest → MayEnd rest → (tree ≡ other) × (behind ≡ rest)

-- a rule that may end before this symbol
abbrev pub Before : Symbol → List Item → Type 0
Before symbol rest = front rest ≡ symbol

-- a list of what begins with a name ends where none stands
abbrev pub NoName : List Item → Type 0
NoName rest = front rest ≡ sym.Name → ⊥

-- the symbols before which a statement ends, and those before which the declarations of a module do
abbrev pub ends_statement : Symbol → Bool
ends_statement sym.Semicolon = true
ends_statement sym.End = true
ends_statement other = false

abbrev pub ends_declarations : Symbol → Bool
ends_declarations sym.Begin = true
ends_declarations sym.End = true
ends_declarations other = false

abbrev pub StatementEnds : List Item → Type 0
StatementEnds rest = ends_statement (front rest) ≡ true

abbrev pub DeclarationsEnd : List Item → Type 0
DeclarationsEnd rest = ends_declarations (front rest) ≡ true

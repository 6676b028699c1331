-- Which answers a call may give where an expression, or what another rule says, does stand at the front
-- and ends where no token goes on: that it was read exactly, or that memory was wanting.
use Rattle.std.specs.Prelude.{◌≡◌, ℕ, Bool, true, false, List, [], ◌∷◌, drop, Result, Ok, Err}
use Rattle.lola_parse.specs.declared.symbol.Symbol.{Symbol}
use Rattle.lola_parse.specs.declared.symbol.Symbol.TheVariants as sym
use Rattle.lola_parse.specs.declared.symbol.Language.{Language}
use Rattle.lola_parse.specs.declared.fault.Fault.{Fault}
use Rattle.lola_parse.specs.declared.fault.Fault.TheVariants as fault
use Rattle.lola_parse.specs.declared.parser.ParseError.{ParseError}
use Rattle.lola_parse.specs.declared.parser.ParseError.TheVariants as error
use Rattle.lola_scan.specs.declared.token.Token.{Token}
use Rattle.lola_tree.specs.Tree.{Tree}
use Rattle.lola_parse.specs.Symbols.{Item, items_of}
use Rattle.lola_parse.specs.Design.{Reads}

-- the symbols with which an expression goes on
abbrev pub goes_on : Symbol → Bool
goes_on sym.Arrow = true
goes_on sym.Equal = true
goes_on sym.Unequal = true
goes_on sym.Less = true
goes_on sym.AtMost = true
goes_on sym.Greater = true
goes_on sym.AtLeast = true
goes_on sym.Plus = true
goes_on sym.Minus = true
goes_on sym.Or = true
goes_on sym.Xor = true
goes_on sym.And = true
goes_on sym.Dot = true
goes_on sym.OpenBracket = true
goes_on other = false

-- the symbol at the front
abbrev pub front : List Item → Symbol
front [] = sym.Nothing
front (item ∷ more) = item.symbol

-- no token with which an expression goes on stands at the front
pub record Stops (all : List Item) : Type 0 where
  pub stops : goes_on (front all) ≡ false

-- what a call may fail with where it has something to read: want of memory
abbrev pub IsWant : Fault → Type 0
IsWant (fault.Syntax left) = ⊥
IsWant (fault.Long left) = ⊥
IsWant fault.Memory = Unit {0}

-- exactly this was read and this stands behind it, want of memory aside
abbrev pub IsRead : {X T : Type 0} → (X → T) → T → List Item → Result (X × List Item) Fault → Type 0
IsRead view tree rest (Ok read) = (view read.0 ≡ tree) × (read.1 ≡ rest)
IsRead view tree rest (Err fault) = IsWant fault

-- exactly this was read, to the end, want of memory aside
abbrev pub IsMade : {X T : Type 0} → (X → T) → T → Result X Fault → Type 0
IsMade view tree (Ok made) = view made ≡ tree
IsMade view tree (Err fault) = IsWant fault

-- exactly this stands behind the symbol
abbrev pub IsBehind : List Item → Result (List Item) Fault → Type 0
IsBehind rest (Ok behind) = behind ≡ rest
IsBehind rest (Err fault) = ⊥

-- whatever the rule says to stand at the front, and to end where it may, is read exactly, want of memory
-- aside
abbrev pub IsWhole : {X T : Type 0} → (X → T) → (T → List Item → Type 0) → (List Item → Type 0) → Result (X × List Item) Fault → Type 0
IsWhole {T = T} view Rule MayEnd result = (tree : T) (rest : List Item) → Rule tree rest → MayEnd rest → IsRead view tree rest result

-- a rule that may end before any token
abbrev pub Anywhere : List Item → Type 0
Anywhere rest = Unit {0}

-- from token number `from` of a text on stands an expression of at most 512 tokens, behind it stands token
-- number n, and no expression goes on with that
pub record ReadsTo (l : Language) (text : List ℕ) (tokens : List Token) (from : ℕ) (e : Tree) (n : ℕ) : Type 0 where
  pub reads : Reads l text tokens from e n
  pub ends : Stops (items_of l text (drop n tokens))

-- exactly this was read and behind it stands the token of this number, want of memory aside
abbrev pub IsParsed : {X T : Type 0} → (X → T) → T → ℕ → Result (X × ℕ) ParseError → Type 0
IsParsed view tree n (Ok read) = (view read.0 ≡ tree) × (read.1 ≡ n)
IsParsed view tree n (Err (error.Syntax at)) = ⊥
IsParsed view tree n (Err (error.Long at)) = ⊥
IsParsed view tree n (Err error.Memory) = Unit {0}

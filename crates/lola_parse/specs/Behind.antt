-- What stands behind the first tokens of some rules, where a call of its own reads it.
use Rattle.std.specs.Prelude.{◌≡◌, ℕ, List, [], ◌∷◌, Option, Some, None}
use Rattle.lola_bits.specs.declared.op.Op.{Op}
use Rattle.lola_tree.specs.declared.named.Count.{Count}
use Rattle.lola_tree.specs.declared.named.Ref.{Ref}
use Rattle.lola_tree.specs.Tree.{Tree, whole, bit, slice, index, concat, negation, binary, choice, Parts, no_part, one_part, ActualTree, StmtTree, assignment, call, pad}
use Rattle.lola_parse.specs.declared.symbol.Symbol.TheVariants as sym
use Rattle.lola_parse.specs.declared.symbol.Language.{Language}
use Rattle.lola_parse.specs.declared.symbol.Language.TheVariants.{Design}
use Rattle.lola_tree.specs.declared.named.Named.{Named}
use Rattle.lola_tree.specs.declared.named.Shape.{Shape}
use Rattle.lola_tree.specs.declared.named.Shape.TheVariants as shape
use Rattle.lola_tree.specs.declared.module.Way.{Way}
use Rattle.lola_tree.specs.declared.module.Port.{Port}
use Rattle.lola_tree.specs.declared.module.Const.{Const}
use Rattle.lola_tree.specs.declared.module.Local.{Local}
use Rattle.lola_parse.specs.declared.module.Declared.{Declared}
use Rattle.lola_tree.specs.declared.named.Count.TheVariants as count
use Rattle.lola_parse.specs.Symbols.{Item}
use Rattle.lola_parse.specs.Design.{Outermost, Argument, MoreArguments, Statement, Shaped, Group, MoreGroups, Declarations}
use Rattle.lola_parse.specs.Grammar.{Passes, Words, Counted, Path, Reference, Expression, Factor, OnePart, MoreParts, Stands, Names}

-- word {"." word}, behind an "@"
pub record PathBehind (all : List Item) (path : List (List ℕ)) (rest : List Item) : Type 0 where
  pub word : List ℕ
  pub behind : List Item
  pub first : Words word all behind
  pub more : Path (word ∷ []) behind path rest

-- count, behind the "." of a bit
pub record BitBehind (l : Language) (of : Ref) (at : ℕ) (all : List Item) (e : Tree) (rest : List Item) : Type 0 where
  pub place : Count
  pub counted : Counted l all place rest
  pub tree_is : e ≡ bit of place at

-- count ":" count "]", behind the "[" of a slice
pub record SliceBehind (l : Language) (of : Ref) (at : ℕ) (all : List Item) (e : Tree) (rest : List Item) : Type 0 where
  pub high : Count
  pub low : Count
  pub colon : List Item
  pub second : List Item
  pub close : List Item
  pub high_read : Counted l all high colon
  pub colon_passed : Passes sym.Colon colon second
  pub low_read : Counted l second low close
  pub close_passed : Passes sym.CloseBracket close rest
  pub tree_is : e ≡ slice of high low at

-- expr "]", behind the "[" of an index
pub record IndexBehind (l : Language) (of : Ref) (at : ℕ) (all : List Item) (e : Tree) (rest : List Item) : Type 0 where
  pub place : Tree
  pub close : List Item
  pub place_read : Expression l all place close
  pub close_passed : Passes sym.CloseBracket close rest
  pub tree_is : e ≡ index of place at

-- count ":", with which a slice begins, behind its "["
pub record SliceBegins (l : Language) (all : List Item) : Type 0 where
  pub place : Count
  pub colon : List Item
  pub behind : List Item
  pub counted : Counted l all place colon
  pub passed : Passes sym.Colon colon behind

-- ref ["." count | "[" count ":" count "]" | "[" expr "]"]
pub data Referred (l : Language) (all : List Item) : Tree → List Item → Type 0 where
  alone : {e : Tree} {rest : List Item} (of : Ref) → Reference l all of rest → e ≡ whole of → Referred l all e rest
  with_bit : {e : Tree} {rest : List Item} {at : ℕ} (of : Ref) (dot behind : List Item) → Reference l all of dot → Stands sym.Dot at dot behind →
      BitBehind l of at behind e rest → Referred l all e rest
  with_slice : {e : Tree} {rest : List Item} {at : ℕ} (of : Ref) (bracket behind : List Item) → Reference l all of bracket →
      Stands sym.OpenBracket at bracket behind → SliceBehind l of at behind e rest → Referred l all e rest
  with_index : {e : Tree} {rest : List Item} {at : ℕ} (of : Ref) (bracket behind : List Item) → Reference l all of bracket →
      Stands sym.OpenBracket at bracket behind → IndexBehind l of at behind e rest → Referred l all e rest

-- factor, behind a "~"
pub record NegationBehind (l : Language) (at : ℕ) (all : List Item) (e : Tree) (rest : List Item) : Type 0 where
  pub arg : Tree
  pub arg_read : Factor l all arg rest
  pub tree_is : e ≡ negation arg at

-- expr ")", behind a "("
pub record NestedBehind (l : Language) (all : List Item) (e : Tree) (rest : List Item) : Type 0 where
  pub close : List Item
  pub inner_read : Expression l all e close
  pub close_passed : Passes sym.CloseParen close rest

-- expr ":" expr, behind a test and its "->"
pub record ChoiceBehind (l : Language) (test : Tree) (at : ℕ) (all : List Item) (e : Tree) (rest : List Item) : Type 0 where
  pub first : Tree
  pub second : Tree
  pub colon : List Item
  pub no : List Item
  pub first_read : Expression l all first colon
  pub colon_passed : Passes sym.Colon colon no
  pub second_read : Expression l no second rest
  pub tree_is : e ≡ choice test first second at

-- "(" expr "," expr ")", behind the word of a shift
pub record ShiftBehind (l : Language) (o : Op) (at : ℕ) (all : List Item) (e : Tree) (rest : List Item) : Type 0 where
  pub value : Tree
  pub by : Tree
  pub first : List Item
  pub comma : List Item
  pub second : List Item
  pub close : List Item
  pub open_passed : Passes sym.OpenParen all first
  pub value_read : Expression l first value comma
  pub comma_passed : Passes sym.Comma comma second
  pub by_read : Expression l second by close
  pub close_passed : Passes sym.CloseParen close rest
  pub tree_is : e ≡ binary o value by at

-- part {"," part} "}", behind a "{"
pub record ConcatBehind (l : Language) (at : ℕ) (all : List Item) (e : Tree) (rest : List Item) : Type 0 where
  pub value : Tree
  pub times : Count
  pub parts : Parts
  pub behind : List Item
  pub close : List Item
  pub first_read : OnePart l all value times behind
  pub more_read : MoreParts l (one_part value times no_part) behind parts close
  pub close_passed : Passes sym.CloseBrace close rest
  pub tree_is : e ≡ concat parts at

-- what stands behind the name that begins a statement
abbrev pub StatementBehind : List ℕ → ℕ → List Item → StmtTree → List Item → Type 0
StatementBehind name at here t rest = (all : List Item) → Names name at all here → Statement all t rest

-- expr, behind a ":="
pub record AssignedBehind (name : List ℕ) (place : Option ActualTree) (at equals : ℕ) (all : List Item) (t : StmtTree) (rest : List Item) : Type 0 where
  pub value : Tree
  pub value_read : Outermost Design all value rest
  pub tree_is : t ≡ assignment name place value at equals

-- expr "]" ":=" expr, behind the "[" of a place
pub record PlacedBehind (name : List ℕ) (at place_at : ℕ) (all : List Item) (t : StmtTree) (rest : List Item) : Type 0 where
  pub place : Tree
  pub value : Tree
  pub equals : ℕ
  pub close : List Item
  pub sign : List Item
  pub behind : List Item
  pub place_read : Outermost Design all place close
  pub close_passed : Passes sym.CloseBracket close sign
  pub sign_passed : Stands sym.Assign equals sign behind
  pub value_read : Outermost Design behind value rest
  pub tree_is : t ≡ assignment name (Some record { value = place; at = place_at }) value at equals

-- expr {"," expr}
pub record ArgumentsBehind (all : List Item) (args : List ActualTree) (rest : List Item) : Type 0 where
  pub first : ActualTree
  pub behind : List Item
  pub first_read : Argument all first behind
  pub more_read : MoreArguments (first ∷ []) behind args rest

-- expr {"," expr} ")", behind the "(" of a call
pub record CalledBehind (name : List ℕ) (at : ℕ) (all : List Item) (t : StmtTree) (rest : List Item) : Type 0 where
  pub args : List ActualTree
  pub close : List Item
  pub args_read : ArgumentsBehind all args close
  pub close_passed : Passes sym.CloseParen close rest
  pub tree_is : t ≡ call name args at

-- "(" name "," name "," expr "," expr ")", behind a TS
pub record PadBehind (at : ℕ) (all : List Item) (t : StmtTree) (rest : List Item) : Type 0 where
  pub io : Named
  pub inner : Named
  pub value : ActualTree
  pub release : ActualTree
  pub first : List Item
  pub comma : List Item
  pub second : List Item
  pub comma2 : List Item
  pub third : List Item
  pub comma3 : List Item
  pub fourth : List Item
  pub close : List Item
  pub open_passed : Passes sym.OpenParen all first
  pub io_read : Names io.name io.at first comma
  pub comma_passed : Passes sym.Comma comma second
  pub inner_read : Names inner.name inner.at second comma2
  pub comma2_passed : Passes sym.Comma comma2 third
  pub value_read : Argument third value comma3
  pub comma3_passed : Passes sym.Comma comma3 fourth
  pub release_read : Argument fourth release close
  pub close_passed : Passes sym.CloseParen close rest
  pub tree_is : t ≡ pad io inner value release at

-- what stands behind the first "[" of a type
abbrev pub ShapeBehind : List Item → Shape → List Item → Type 0
ShapeBehind here t rest = (all : List Item) (at : ℕ) → Stands sym.OpenBracket at all here → Shaped all t rest

-- count "]" "BIT", behind the second "[" of a type
pub record VectorsBehind (number : Count) (all : List Item) (t : Shape) (rest : List Item) : Type 0 where
  pub width : Count
  pub close : List Item
  pub behind : List Item
  pub width_read : Counted Design all width close
  pub close_passed : Passes sym.CloseBracket close behind
  pub bit_passed : Passes sym.Bit behind rest
  pub tree_is : t ≡ shape.Array number width

-- the groups of ports behind the first direction
pub record GroupsBehind (way : Way) (all : List Item) (ports : List Port) (rest : List Item) : Type 0 where
  pub first : List Port
  pub behind : List Item
  pub first_read : Group way [] all first behind
  pub more_read : MoreGroups way first behind ports rest

-- a part, with how often it stands there
abbrev pub PartRead : Language → List Item → Tree × Count → List Item → Type 0
PartRead l all part rest = OnePart l all part.0 part.1 rest

-- ("BIT" | "BYTE" | "WORD" | "[" count "]" "BIT"), behind the first count of a type and its "]"
pub data ShapeEnd (number : Count) (all : List Item) : Shape → List Item → Type 0 where
  of_bits : {t : Shape} {rest : List Item} {at : ℕ} → Stands sym.Bit at all rest → t ≡ shape.Vector number → ShapeEnd number all t rest
  of_bytes : {t : Shape} {rest : List Item} {at : ℕ} → Stands sym.Byte at all rest → t ≡ shape.Array number (count.Fixed 8 at) → ShapeEnd number all t rest
  of_words : {t : Shape} {rest : List Item} {at : ℕ} → Stands sym.Word at all rest → t ≡ shape.Array number (count.Fixed 32 at) → ShapeEnd number all t rest
  of_vectors : {t : Shape} {rest : List Item} {at : ℕ} (behind : List Item) → Stands sym.OpenBracket at all behind → VectorsBehind number behind t rest →
      ShapeEnd number all t rest

-- count "]" ("BIT" | "BYTE" | "WORD" | "[" count "]" "BIT"), behind the first "[" of a type
pub record CountedShape (all : List Item) (t : Shape) (rest : List Item) : Type 0 where
  pub number : Count
  pub close : List Item
  pub behind : List Item
  pub counted : Counted Design all number close
  pub close_passed : Passes sym.CloseBracket close behind
  pub ends : ShapeEnd number behind t rest

-- ":=" expr | "[" expr "]" ":=" expr | "(" expr {"," expr} ")", behind the name that begins a statement
pub data NamedStatement (name : List ℕ) (at : ℕ) (all : List Item) : StmtTree → List Item → Type 0 where
  with_value : {t : StmtTree} {rest : List Item} {equals : ℕ} (behind : List Item) → Stands sym.Assign equals all behind →
      AssignedBehind name None at equals behind t rest → NamedStatement name at all t rest
  with_place : {t : StmtTree} {rest : List Item} {place_at : ℕ} (behind : List Item) → Stands sym.OpenBracket place_at all behind →
      PlacedBehind name at place_at behind t rest → NamedStatement name at all t rest
  with_arguments : {t : StmtTree} {rest : List Item} {open_at : ℕ} (behind : List Item) → Stands sym.OpenParen open_at all behind →
      CalledBehind name at behind t rest → NamedStatement name at all t rest

-- a name with its place
abbrev pub NameRead : List Item → Named → List Item → Type 0
NameRead all n rest = Names n.name n.at all rest

-- the declarations of a module, and what the code holds of them
abbrev pub DeclaredRead : List Item → List Const × List Local → List Item → Type 0
DeclaredRead all declared rest = Declarations [] [] all declared.0 declared.1 rest

abbrev pub declared_of : Declared → List Const × List Local
declared_of d = (d.consts.items, d.locals.items)

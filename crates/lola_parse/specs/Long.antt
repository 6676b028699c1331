-- Expressions that are too long, and what the faults of a descent say of the tokens before them.
use Rattle.std.specs.Prelude.{◌≡◌, ℕ, ◌+◌, ◌-◌, ◌<◌, ◌≤◌, List, [], ◌∷◌, ◌++◌, length, drop}
use Rattle.lola_tree.specs.Tree.{Tree, Parts}
use Rattle.lola_parse.specs.declared.symbol.Language.{Language}
use Rattle.lola_parse.specs.declared.fault.Fault.{Fault}
use Rattle.lola_parse.specs.declared.fault.Fault.TheVariants as fault
use Rattle.lola_parse.specs.declared.parser.ParseError.{ParseError}
use Rattle.lola_parse.specs.declared.parser.ParseError.TheVariants as error
use Rattle.lola_scan.specs.declared.token.Token.{Token}
use Rattle.lola_parse.specs.Symbols.{Item, items_of}
use Rattle.lola_parse.specs.Grammar.{Expression, Terms, Factors, MoreParts, Times, place_of}
use Rattle.lola_parse.specs.Behind.{ChoiceBehind}

-- 513 tokens with which some expression begins stand at the front, the last of them at this place
pub record BeginsTooLong (l : Language) (all : List Item) (at : ℕ) : Type 0 where
  pub run : List Item
  pub last : Item
  pub behind : List Item
  pub splits : all ≡ run ++ last ∷ behind
  pub many : length run ≡ 512
  pub more : List Item
  pub e : Tree
  pub begun : Expression l (run ++ last ∷ more) e []
  pub place : at ≡ last.at

-- such tokens stand somewhere
pub record IsTooLong (l : Language) (all : List Item) (at : ℕ) : Type 0 where
  pub before : List Item
  pub here : List Item
  pub splits : all ≡ before ++ here
  pub long : BeginsTooLong l here at

-- a rule without its tree: some tree of it stands at the front, and the rest behind it
abbrev pub Any : {T : Type 0} → (List Item → T → List Item → Type 0) → List Item → List Item → Type 0
Any {T = T} Rule all rest = (tree : T) × Rule all tree rest

-- {adding term}, {"&" factor} and {"," part}, whatever stands before them
abbrev pub AnyTerms : Language → List Item → List Item → Type 0
AnyTerms l all rest = (a : Tree) → Any (Terms l a) all rest

abbrev pub AnyFactors : Language → List Item → List Item → Type 0
AnyFactors l all rest = (a : Tree) → Any (Factors l a) all rest

abbrev pub AnyParts : Language → List Item → List Item → Type 0
AnyParts l all rest = (before : Parts) → Any (MoreParts l before) all rest

-- ["!" count], wherever the part begins
abbrev pub AnyTimes : Language → List Item → List Item → Type 0
AnyTimes l all rest = (at : ℕ) → Any (Times l at) all rest

-- expr ":" expr, behind a "->", whatever the test is
abbrev pub AnyChoice : Language → List Item → List Item → Type 0
AnyChoice l all rest = (test : Tree) (at : ℕ) → Any (ChoiceBehind l test at) all rest

-- with the run at the front the rule begins, as more may follow it to make it whole; behind the run so
-- many tokens are left
pub record Begins (Rule : List Item → List Item → Type 0) (all : List Item) (left : ℕ) : Type 0 where
  pub run : List Item
  pub behind : List Item
  pub more : List Item
  pub splits : all ≡ run ++ behind
  pub count : length behind ≡ left
  pub whole : (x : List Item) → Rule (run ++ (more ++ x)) x

-- a fault of a rule that never is too long: with the tokens before it the rule begins
abbrev pub StopsBy : (List Item → List Item → Type 0) → List Item → Fault → Type 0
StopsBy Rule all (fault.Syntax left) = Begins Rule all left
StopsBy Rule all (fault.Long left) = ⊥
StopsBy Rule all fault.Memory = Unit {0}

-- a fault of a rule in an expression that must leave `floor` tokens: with the tokens before it the rule
-- begins; where it is too long, the rule begins with a run that leaves fewer
abbrev pub FailsBy : (List Item → List Item → Type 0) → ℕ → List Item → Fault → Type 0
FailsBy Rule floor all (fault.Syntax left) = Begins Rule all left
FailsBy Rule floor all (fault.Long left) = (left ≡ floor) × (k : ℕ) × (k < floor) × Begins Rule all k
FailsBy Rule floor all fault.Memory = Unit {0}

-- 513 tokens with which some expression begins stand at the front, and so many tokens are left from the
-- last of them on
pub record LongAt (l : Language) (all : List Item) (left : ℕ) : Type 0 where
  pub many : length all ≡ left + 512
  pub some : 1 ≤ left
  pub long : BeginsTooLong l all (place_of (drop 512 all))

-- a fault that an expression is too long comes only where it does so at the front
abbrev pub LongFront : Language → List Item → Fault → Type 0
LongFront l all (fault.Long left) = LongAt l all left
LongFront l all (fault.Syntax left) = Unit {0}
LongFront l all fault.Memory = Unit {0}

-- such tokens stand somewhere
pub record LongBehind (l : Language) (all : List Item) (left : ℕ) : Type 0 where
  pub before : List Item
  pub here : List Item
  pub splits : all ≡ before ++ here
  pub long : LongAt l here left

-- a fault that an expression is too long comes only where they do
abbrev pub LongWithin : Language → List Item → Fault → Type 0
LongWithin l all (fault.Long left) = LongBehind l all left
LongWithin l all (fault.Syntax left) = Unit {0}
LongWithin l all fault.Memory = Unit {0}

-- no fault that an expression is too long
abbrev pub NeverLong : Fault → Type 0
NeverLong (fault.Long left) = ⊥
NeverLong (fault.Syntax left) = Unit {0}
NeverLong fault.Memory = Unit {0}

-- where the error is Long, this holds of its place
abbrev pub LongSays : (ℕ → Type 0) → ParseError → Type 0
LongSays Says (error.Long at) = Says at
LongSays Says (error.Syntax at) = Unit {0}
LongSays Says error.Memory = Unit {0}

-- a place is that of the token from which on so many are left, where the fault is that an expression is
-- too long
abbrev pub LongPlaced : List ℕ → List Token → Fault → ℕ → Type 0
LongPlaced text tokens (fault.Long left) at = (l : Language) → 1 ≤ left → left ≤ length tokens → at ≡ place_of (items_of l text (drop (length tokens - left) tokens))
LongPlaced text tokens (fault.Syntax left) at = ⊥
LongPlaced text tokens fault.Memory at = ⊥

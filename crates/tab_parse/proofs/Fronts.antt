-- Lemmas on the token at the front.
use Rattle.std.proofs.Common.{◌≡◌, ℕ, Bool, true, false, List, [], ◌∷◌, Option, Some, None, refl, sym, ap, subst, ◌∙◌}
use Rattle.std.specs.Prelude.{codes, bytes_eq}
use Rattle.lola_tree.specs.declared.named.Named.{Named}
use Rattle.lola_parse.specs.declared.symbol.Symbol.{Symbol}
use Rattle.lola_parse.specs.declared.symbol.Symbol.TheVariants as s
use Rattle.lola_parse.specs.declared.cursor.Next.{Next}
use Rattle.lola_parse.specs.Symbols.{Item, IsNext}
use Rattle.lola_parse.specs.Grammar.{Passes, Stands}
use Rattle.lola_parse.specs.Read.{front, Stops}
use Rattle.tab_parse.specs.Grammar.{Spelled, WordAt, Numbered, RoleRow, NameAt, StateRow, LetRow, StartRow, AssignAt, LetLine, SetLine, NextSet, More, no_row, one_row, Placing, no_place, one_place, SetList, Shows, no_shows, some_shows, Keyword, PhaseRow}
use Rattle.tab_parse.specs.Fronts.{spelling, at_name, at_word, at_bracket, at_comma, at_role, is_some, NotAt}
use Rattle.lola_tree.specs.Tree.{ActualTree}
use Rattle.tab_parse.specs.Grammar.{ExprAt}
use Rattle.tab_parse.specs.Placed.{RoleAt, StateAt, LetAt, SetAt, PhaseAt}

-- what the token at the front is, from a look at it
abbrev pub IsNextOf : List Item → Next → Type 0
IsNextOf all n = IsNext all n.symbol n.is_word n.spelled.now n.at n.rest

pub front_is : (all : List Item) (n : Next) → IsNextOf all n → n.symbol ≡ front all
front_is [] n next = next.0
front_is (item ∷ more) n next = let e = next.0 in cc

-- a test of symbol and spelling that no spelling passes where there is no token
pub front_says : {T : Type 0} (test : Symbol → List ℕ → T) (all : List Item) (n : Next) → IsNextOf all n → ((w : List ℕ) → test s.Nothing w ≡ test s.Nothing []) →
    test n.symbol n.spelled.now ≡ test (front all) (spelling all)
front_says test [] n next none = ap (λ symbol. test symbol n.spelled.now) next.0 ∙ none n.spelled.now
front_says test (item ∷ more) n next none = let e = next.0 in cc

pub spelled_next : (all : List Item) (n : Next) (symbol : Symbol) → IsNextOf all n → n.symbol ≡ symbol → (s.Nothing ≡ symbol → ⊥) →
    Spelled symbol n.spelled.now n.at all n.rest
spelled_next [] n symbol next e some = absurd (some (sym next.0 ∙ e))
spelled_next (item ∷ more) n symbol next e some = record { is_word = n.is_word; splits = cc }

heads : {a b : Item} {x y : List Item} → a ∷ x ≡ b ∷ y → (a ≡ b) × (x ≡ y)
heads e = (cc, cc)

abbrev symbol_in : Item → Symbol
symbol_in item = item.symbol

abbrev spelled_in : Item → List ℕ
spelled_in item = item.spelled

abbrev place_in : Item → ℕ
place_in item = item.at

-- a token at the front is the one that a look at it sees
pub spelled_front : (symbol : Symbol) (spelled : List ℕ) (at : ℕ) (all rest : List Item) (n : Next) → IsNextOf all n → Spelled symbol spelled at all rest →
    (n.symbol ≡ symbol) × (n.spelled.now ≡ spelled) × (n.at ≡ at) × (n.rest ≡ rest)
spelled_front symbol spelled at [] rest n next h = absurd (let e = h.splits in cc)
spelled_front symbol spelled at (item ∷ more) rest n next h =
    let e = heads h.splits in
    let one = sym next.0 ∙ e.0 in
    (ap symbol_in one, ap spelled_in one, ap place_in one, sym next.1 ∙ e.1)

pub stands_front : {symbol : Symbol} {at : ℕ} {all rest : List Item} (n : Next) → IsNextOf all n → Stands symbol at all rest → (n.at ≡ at) × (n.rest ≡ rest)
stands_front {symbol = symbol} {at = at} {all = all} {rest = rest} n next h =
    let e = spelled_front symbol h.spelled at all rest n next (record { is_word = h.is_word; splits = h.splits }) in
    (e.2, e.3)

pub word_next : (all : List Item) (n : Next) (name : List ℕ) → IsNextOf all n → n.is_word ≡ true → name ≡ n.spelled.now →
    WordAt all (record { name = name; at = n.at }) n.rest
word_next [] n name next e is = absurd (let p : false ≡ true = sym next.1 ∙ e in cc)
word_next (item ∷ more) n name next e is = record { symbol = n.symbol; no_number = next.2 e; splits = cc }

pub number_next : (all : List Item) (n : Next) (value : ℕ) (width : Option ℕ) → IsNextOf all n → n.symbol ≡ s.Number value width → Numbered all value n.rest
number_next [] n value width next e = absurd (let p : s.Nothing ≡ s.Number value width = sym next.0 ∙ e in cc)
number_next (item ∷ more) n value width next e =
    record { width = width; at = n.at; stands = record { is_word = n.is_word; spelled = n.spelled.now; splits = cc } }

-- an expression goes on with no ";"
pub semicolon_stops : {all rest : List Item} → Passes s.Semicolon all rest → Stops all
semicolon_stops h = record { stops = rw h.1.splits refl }

-- what begins with a name
pub name_begins : {n : Named} {all rest : List Item} → NameAt all n rest → at_name all ≡ true
name_begins h = rw h.splits refl

pub state_begins : {row : StateAt} {all rest : List Item} → StateRow all row rest → at_name all ≡ true
state_begins h = name_begins h.name_read

pub let_begins : {row : LetAt} {all rest : List Item} → LetRow all row rest → at_name all ≡ true
let_begins h = name_begins h.name_read

pub start_begins : {row : SetAt} {all rest : List Item} → StartRow all row rest → at_name all ≡ true
start_begins h = name_begins h.name_read

-- and what with the word of a role
pub role_begins : {row : RoleAt} {all rest : List Item} → RoleRow all row rest → at_role all ≡ true
role_begins h = rw h.word_passed.splits (ap is_some h.word_is)

pub let_line_begins : {row : LetAt} {all rest : List Item} → LetLine all row rest → at_word (codes "LET") all ≡ true
let_line_begins h = rw h.word_passed.1.splits refl

pub set_line_begins : {row : SetAt} {all rest : List Item} → SetLine all row rest → at_word (codes "SET") all ≡ true
set_line_begins h = rw h.word_passed.1.splits refl

pub next_set_begins : {row : SetAt} {all rest : List Item} → NextSet all row rest → at_comma all ≡ true
next_set_begins h = rw h.comma_passed.1.splits refl

-- what stands behind the parts of a set
pub assign_no_bracket : {at : ℕ} {all rest : List Item} → AssignAt all at rest → NotAt at_bracket all
assign_no_bracket h = rw h.splits refl

pub bracket_stops : {all rest : List Item} → Passes s.CloseBracket all rest → Stops all
bracket_stops h = record { stops = rw h.1.splits refl }

pub more_sets_stop : {before rows : List SetAt} {all rest : List Item} → More NextSet before all rows rest → Stops rest → Stops all
more_sets_stop (no_row e f) stops = subst Stops f stops
more_sets_stop (one_row behind read more) stops = record { stops = rw read.comma_passed.1.splits refl }

-- a place of an element that is there, and one that isn't
pub record PlaceRead (all : List Item) (place : Option ActualTree) (rest : List Item) : Type 0 where
  pub e : ActualTree
  pub at : ℕ
  pub first : List Item
  pub close : List Item
  pub opened : Stands s.OpenBracket at all first
  pub expr_read : ExprAt first e close
  pub closed : Passes s.CloseBracket close rest
  pub place_is : place ≡ Some (record { value = e.value; at = at })

pub place_there : {place : Option ActualTree} {all rest : List Item} → Placing all place rest → NotAt at_bracket rest → at_bracket all ≡ true →
    PlaceRead all place rest
place_there (no_place e f) lacks here = absurd (let p : false ≡ true = sym lacks ∙ (ap at_bracket f ∙ here) in cc)
place_there (one_place {e = e} {at = at} first close opened read closed is) lacks here =
    record { e = e; at = at; first = first; close = close; opened = opened; expr_read = read; closed = closed; place_is = is }

pub place_none : {place : Option ActualTree} {all rest : List Item} → Placing all place rest → at_bracket all ≡ false → (None ≡ place) × (all ≡ rest)
place_none (no_place e f) lacks = (sym e, sym f)
place_none (one_place first close opened read closed is) lacks = absurd (let p : true ≡ false = sym (rw opened.splits refl) ∙ lacks in cc)

pub stands_next : (all : List Item) (n : Next) (symbol : Symbol) → IsNextOf all n → n.symbol ≡ symbol → (s.Nothing ≡ symbol → ⊥) → Stands symbol n.at all n.rest
stands_next [] n symbol next e some = absurd (some (sym next.0 ∙ e))
stands_next (item ∷ more) n symbol next e some = record { is_word = n.is_word; spelled = n.spelled.now; splits = cc }

-- one word has one place
pub keyword_one : {word : List ℕ} {all rest more : List Item} → Keyword word all rest → Keyword word all more → rest ≡ more
keyword_one h k = let e = sym h.1.splits ∙ k.1.splits in cc

pub keyword_at : {word : List ℕ} {all rest : List Item} (other : List ℕ) {b : Bool} → Keyword word all rest → bytes_eq word other ≡ b → at_word other all ≡ b
keyword_at other h same = rw h.1.splits same

-- SHOWS that is there, and that isn't
pub shows_there : {rows : List SetAt} {all rest first : List Item} → Shows all rows rest → at_word (codes "SHOWS") rest ≡ false → Keyword (codes "SHOWS") all first →
    SetList first rows rest
shows_there (no_shows e f) lacks word =
    absurd (let p : true ≡ false = sym (keyword_at (codes "SHOWS") word refl) ∙ (sym (ap (at_word (codes "SHOWS")) f) ∙ lacks) in cc)
shows_there {rows = rows} {rest = rest} (some_shows first passed read) lacks word = subst (λ all. SetList all rows rest) (keyword_one passed word) read

pub shows_none : {rows : List SetAt} {all rest : List Item} → Shows all rows rest → at_word (codes "SHOWS") all ≡ false → ([] ≡ rows) × (all ≡ rest)
shows_none (no_shows e f) lacks = (sym e, sym f)
shows_none (some_shows first passed read) lacks = absurd (let p : true ≡ false = sym (keyword_at (codes "SHOWS") passed refl) ∙ lacks in cc)

pub phase_begins : {phase : PhaseAt} {all rest : List Item} → PhaseRow all phase rest → at_word (codes "PHASE") all ≡ true
phase_begins h = rw h.word_passed.1.splits refl

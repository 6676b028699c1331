-- What stands at the front stands there in one way.
use Rattle.std.proofs.Common.{◌≡◌, ℕ, Bool, true, false, List, [], ◌∷◌, ◌++◌, sym, ap, subst, ◌∙◌}
use Rattle.std.specs.Prelude.{filter}
use Rattle.lola_tree.specs.declared.named.Named.{Named}
use Rattle.lola_tree.specs.declared.named.Shape.{Shape}
use Rattle.lola_tree.specs.Tree.{Tree, ActualTree}
use Rattle.lola_parse.specs.declared.symbol.Symbol.{Symbol}
use Rattle.lola_parse.specs.declared.symbol.Symbol.TheVariants as s
use Rattle.lola_parse.specs.declared.symbol.Language.TheVariants.{Table}
use Rattle.lola_parse.specs.Symbols.{Item}
use Rattle.lola_parse.specs.Grammar.{Passes, Stands}
use Rattle.lola_parse.specs.Design.{Outermost, Shaped}
use Rattle.lola_parse.specs.Read.{Stops}
use Rattle.tab_parse.specs.declared.classes.Pattern.{Pattern}
use Rattle.tab_parse.specs.Grammar.{NameAt, WordAt, Numbered, ExprAt, Ended, More, no_row, one_row, Patterned, is_place}
use Rattle.tab_parse.proofs.Chains.{next, ends}
use Rattle.tab_parse.proofs.Fronts.{semicolon_stops}

pub heads : {a b : Item} {x y : List Item} → a ∷ x ≡ b ∷ y → (a ≡ b) × (x ≡ y)
heads e = (cc, cc)

abbrev pub symbol_in : Item → Symbol
symbol_in item = item.symbol

abbrev pub spelled_in : Item → List ℕ
spelled_in item = item.spelled

abbrev pub place_in : Item → ℕ
place_in item = item.at

abbrev number_of : Symbol → ℕ
number_of (s.Number value width) = value
number_of other = 0

pub passes_one : {symbol : Symbol} {all rest more : List Item} → Passes symbol all rest → Passes symbol all more → rest ≡ more
passes_one h k = let e = sym h.1.splits ∙ k.1.splits in cc

pub stands_one : {symbol : Symbol} {at place : ℕ} {all rest more : List Item} → Stands symbol at all rest → Stands symbol place all more →
    (at ≡ place) × (rest ≡ more)
stands_one h k = let e = heads (sym h.splits ∙ k.splits) in (ap place_in e.0, e.1)

pub name_one : {n other : Named} {all rest more : List Item} → NameAt all n rest → NameAt all other more → (n ≡ other) × (rest ≡ more)
name_one h k = let e = heads (sym h.splits ∙ k.splits) in ((λ i. record { name = spelled_in (e.0 i); at = place_in (e.0 i) }), e.1)

pub word_one : {n other : Named} {all rest more : List Item} → WordAt all n rest → WordAt all other more → (n ≡ other) × (rest ≡ more)
word_one h k = let e = heads (sym h.splits ∙ k.splits) in ((λ i. record { name = spelled_in (e.0 i); at = place_in (e.0 i) }), e.1)

pub number_one : {value other : ℕ} {all rest more : List Item} → Numbered all value rest → Numbered all other more → (value ≡ other) × (rest ≡ more)
number_one h k = let e = heads (sym h.stands.splits ∙ k.stands.splits) in (ap (λ item. number_of (symbol_in item)) e.0, e.1)

pub pattern_one : {pattern other : Pattern} {all rest more : List Item} → Patterned all pattern rest → Patterned all other more →
    (pattern ≡ other) × (rest ≡ more)
pattern_one h k =
    let e = heads (sym h.splits ∙ k.splits) in
    let places = h.places ∙ (ap (λ item. filter is_place (spelled_in item)) e.0 ∙ sym k.places) in
    ((λ i. record { at = place_in (e.0 i); places = places i }), e.1)

-- at most one expression that ends where no token goes on, so also with its place and with its ";"; and at
-- most one type
abbrev pub OneExpression : Type 0
OneExpression =
    (all : List Item) (e f : Tree) (rest more : List Item) → Outermost Table all e rest → Stops rest → Outermost Table all f more → Stops more →
    (e ≡ f) × (rest ≡ more)

abbrev pub OneExpr : Type 0
OneExpr =
    (all : List Item) (e f : ActualTree) (rest more : List Item) → ExprAt all e rest → Stops rest → ExprAt all f more → Stops more → (e ≡ f) × (rest ≡ more)

abbrev pub OneEnded : Type 0
OneEnded = (all : List Item) (e f : ActualTree) (rest more : List Item) → Ended all e rest → Ended all f more → (e ≡ f) × (rest ≡ more)

abbrev pub OneShape : Type 0
OneShape = (all : List Item) (t u : Shape) (rest more : List Item) → Shaped all t rest → Shaped all u more → (t ≡ u) × (rest ≡ more)

pub expr_one : OneExpression → OneExpr
expr_one one all e f rest more h first k second =
    let p = one all e.value f.value rest more h.expr first k.expr second in
    ((λ i. record { value = p.0 i; at = (h.place ∙ sym k.place) i }), p.1)

pub ended_one : OneExpr → OneEnded
ended_one one all e f rest more h k =
    let p = one all e f h.behind k.behind h.expr_read (semicolon_stops h.ended) k.expr_read (semicolon_stops k.ended) in
    (p.0, passes_one {more = more} h.ended (rw p.1 k.ended))

-- rows are read in one way, where each of them is before what may stand behind it
pub record Kind {T : Type 0} (Row : List Item → T → List Item → Type 0) (at : List Item → Bool) (Ends EndsRow : List Item → Type 0) : Type 0 where
  pub begins : (row : T) (all rest : List Item) → Row all row rest → at all ≡ true
  pub lacks : (rest : List Item) → Ends rest → at rest ≡ false
  pub behind : (before rows : List T) (all rest : List Item) → More Row before all rows rest → Ends rest → EndsRow all
  pub one : (row other : T) (all rest more : List Item) → Row all row rest → Row all other more → EndsRow rest → EndsRow more → (row ≡ other) × (rest ≡ more)

pub more_one : {T : Type 0} {Row : List Item → T → List Item → Type 0} (at : List Item → Bool) (Ends EndsRow : List Item → Type 0)
    (before rows others : List T) (all rest more : List Item) → Kind Row at Ends EndsRow → More Row before all rows rest → More Row before all others more →
    Ends rest → Ends more → (rows ≡ others) × (rest ≡ more)
more_one at Ends EndsRow before rows others all rest more kind (no_row e f) k first second =
    let p = ends at k (λ row behind read. kind.begins row all behind read) (kind.lacks all (subst Ends f first)) in
    (e ∙ p.0, f ∙ p.1)
more_one {Row = Row} at Ends EndsRow before rows others all rest more kind (one_row {row = row} behind read goes) k first second =
    let n = next at k (kind.lacks more second) (kind.begins row all behind read) in
    let same = kind.one row n.item all behind n.behind read n.item_read (kind.behind _ rows behind rest goes first) (kind.behind _ others n.behind more n.more second) in
    let here = subst (λ all. More Row (before ++ n.item ∷ []) all others more) (sym same.1) n.more in
    let again = subst (λ x. More Row (before ++ x ∷ []) behind others more) (sym same.0) here in
    more_one at Ends EndsRow (before ++ row ∷ []) rows others behind rest more kind goes again first second

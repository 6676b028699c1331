-- Lemmas on chains of rows: where a row is at the front the chain goes on with it, and where none is it
-- ends there.
use Rattle.std.proofs.Common.{◌≡◌, Bool, true, false, List, [], ◌∷◌, ◌++◌, sym, ap, subst, ◌∙◌}
use Rattle.lola_parse.specs.Symbols.{Item}
use Rattle.tab_parse.specs.Grammar.{More, no_row, one_row}

-- a row at the front, and what goes on behind it
pub record Next {T : Type 0} (Row : List Item → T → List Item → Type 0) (before : List T) (all : List Item) (rows : List T) (rest : List Item) : Type 0 where
  pub item : T
  pub behind : List Item
  pub item_read : Row all item behind
  pub more : More Row (before ++ item ∷ []) behind rows rest

pub next : {T : Type 0} {Row : List Item → T → List Item → Type 0} (at : List Item → Bool) {before rows : List T} {all rest : List Item} →
    More Row before all rows rest → at rest ≡ false → at all ≡ true → Next Row before all rows rest
next at (no_row e f) lacks here = absurd (let p : false ≡ true = sym lacks ∙ (ap at f ∙ here) in cc)
next at (one_row {row = row} behind read more) lacks here = record { item = row; behind = behind; item_read = read; more = more }

-- a chain goes on behind the row that was read, where that is the one that it has
pub next_on : {T : Type 0} {Row : List Item → T → List Item → Type 0} {before longer rows : List T} {all rest behind : List Item} {item : T}
    (n : Next Row before all rows rest) → (item ≡ n.item) × (behind ≡ n.behind) → longer ≡ before ++ item ∷ [] → More Row longer behind rows rest
next_on {Row = Row} {before = before} {rows = rows} {rest = rest} {behind = behind} n one e =
    subst (λ xs. More Row xs behind rows rest) (sym e)
    (subst (λ x. More Row (before ++ x ∷ []) behind rows rest) (sym one.0)
    (subst (λ all. More Row (before ++ n.item ∷ []) all rows rest) (sym one.1) n.more))

pub ends : {T : Type 0} {Row : List Item → T → List Item → Type 0} (at : List Item → Bool) {before rows : List T} {all rest : List Item} →
    More Row before all rows rest → ((row : T) (behind : List Item) → Row all row behind → at all ≡ true) → at all ≡ false → (before ≡ rows) × (all ≡ rest)
ends at (no_row e f) begins lacks = (sym e, sym f)
ends at (one_row behind read more) begins lacks = absurd (let p : true ≡ false = sym (begins _ _ read) ∙ lacks in cc)

-- and behind the first, where that is the one that was read
pub first_on : {T : Type 0} {Row : List Item → T → List Item → Type 0} {rows read : List T} {rest behind more : List Item} {first item : T} →
    More Row (item ∷ []) more rows rest → (first ≡ item) × (behind ≡ more) → read ≡ first ∷ [] → More Row read behind rows rest
first_on {Row = Row} {rows = rows} {rest = rest} {behind = behind} {item = item} h one e =
    subst (λ xs. More Row xs behind rows rest) (sym e)
    (subst (λ x. More Row (x ∷ []) behind rows rest) (sym one.0) (subst (λ all. More Row (item ∷ []) all rows rest) (sym one.1) h))

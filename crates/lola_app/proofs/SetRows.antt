-- Rows that set states, and the states that they name.
use Rattle.std.proofs.Common.{◌≡◌, ℕ, ◌<◌, Bool, true, false, List, [], ◌∷◌, length, map, drop, get_or, Some, None, refl, sym, ap, ◌∙◌, inl, inr}
use Rattle.std.specs.Prelude.{bytes_eq, string_bytes, if◌then◌else◌, Option}
use Rattle.std.specs.List.{AllByRecursion}
use Rattle.std.proofs.lemmas.Bool.{cases_Bool}
use Rattle.lola_bits.specs.Lists.{IsIn, AreEach}
use Rattle.lola_bits.proofs.Names.{same_name, is_same_name}
use Rattle.lola_bits.proofs.Places.{drop_item}
use Rattle.lola_tree.specs.declared.named.Ref.{Ref}
use Rattle.lola_tree.specs.Tree.{tree}
use Rattle.small_tree.specs.declared.table.SetRow.{SetRow}
use Rattle.small_tree.specs.Table.{set_tree}
use Rattle.small_tree.specs.Step.{set_value, table_value}
use Rattle.small_tree.specs.Table.{SetTree}
use Rattle.lola_app.specs.declared.states.Shown.{Shown}
use Rattle.lola_app.specs.declared.claim.Start.{Start}
use Rattle.lola_app.specs.Small.{IsSmallRow, IsNoName}
use Rattle.lola_app.specs.Starts.{leaf_under, IsStartRow}

-- the row at an index sets the state, and those before it don't count
pub at_row : (rows : List SetRow) (i : ℕ) (row : SetRow) (name : List ℕ) (old : ℕ) (names : Ref → ℕ) → i < length rows → row ≡ get_or rows i row → bytes_eq row.name name ≡ true →
    set_value (map set_tree (drop i rows)) name old names ≡ table_value (tree row.value) names
at_row rows i row name old names within is e = ap (λ (xs : List SetRow). set_value (map set_tree xs) name old names) (drop_item rows i row within is) ∙ rw e refl

pub taken_on : (b : Bool) (l : Option ℕ) (leaf : ℕ) → b ≡ true → l ≡ Some leaf → Some leaf ≡ (if b then l else None)
taken_on b l leaf on is = rw on (sym is)

pub taken_off : (b : Bool) (l : Option ℕ) → b ≡ false → None ≡ (if b then l else None)
taken_off b l off = rw off refl

-- a leaf stands under the names of states alone
pub none_under : (states : List Shown) (name : List ℕ) → leaf_under states name ≡ None → IsIn name (map (λ (s : Shown). string_bytes s.name) states) → ⊥
none_under [] name none among = among
none_under (s ∷ states) name none among = elim (cases_Bool (bytes_eq (string_bytes s.name) name)) [
  | inl e ↦ let f : Some s.leaf ≡ None = sym (here e) ∙ none in absurd cc
  | inr e ↦ none_under states name (sym (there e) ∙ none) (later e among)
]
  where
    here : bytes_eq (string_bytes s.name) name ≡ true → leaf_under (s ∷ states) name ≡ Some s.leaf
    here e = rw e refl

    there : bytes_eq (string_bytes s.name) name ≡ false → leaf_under (s ∷ states) name ≡ leaf_under states name
    there e = rw e refl

    later : bytes_eq (string_bytes s.name) name ≡ false → IsIn name (map (λ (s : Shown). string_bytes s.name) (s ∷ states)) → IsIn name (map (λ (s : Shown). string_bytes s.name) states)
    later e (inl same) = let f : true ≡ false = sym (same_name (string_bytes s.name) name (sym same)) ∙ e in absurd cc
    later e (inr more) = more

pub some_under : (states : List Shown) (name : List ℕ) (leaf : ℕ) → leaf_under states name ≡ Some leaf → IsIn name (map (λ (s : Shown). string_bytes s.name) states)
some_under [] name leaf some = absurd (let f : None ≡ Some leaf = some in cc)
some_under (s ∷ states) name leaf some = elim (cases_Bool (bytes_eq (string_bytes s.name) name)) [
  | inl e ↦ inl (sym (is_same_name (string_bytes s.name) name e))
  | inr e ↦ inr (some_under states name leaf (sym (there e) ∙ some))
]
  where
    there : bytes_eq (string_bytes s.name) name ≡ false → leaf_under (s ∷ states) name ≡ leaf_under states name
    there e = rw e refl

-- START rows are such rows
pub starts_small : (states : List Shown) (rows : List SetTree) (starts : List Start) → AreEach (IsStartRow states) rows starts →
    AllByRecursion (IsSmallRow (map (λ (s : Shown). string_bytes s.name) states) IsNoName) rows
starts_small states [] [] each = tt
starts_small states [] (x ∷ starts) each = absurd each
starts_small states (row ∷ rows) [] each = absurd each
starts_small states (row ∷ rows) (x ∷ starts) each = ((some_under states row.name x.leaf each.0.leaf, each.0.small), starts_small states rows starts each.1)

-- States row by row.
use Rattle.std.proofs.Common.{◌≡◌, ℕ, suc, List, [], ◌∷◌, refl, ap, ap₂, ◌∙◌}
use Rattle.lola_bits.specs.Lists.{AreEach}
use Rattle.tab_tree.specs.declared.value.StateValue.{StateValue}
use Rattle.tab_tree.specs.Table.{StateTree}
use Rattle.tab_tree.specs.Step.{nth_value, by_row}
use Rattle.obl_def.specs.Holds.{EachRow}

pub each_weaker : (P Q : ℕ → StateTree → Type 0) → ((n : ℕ) (row : StateTree) → P n row → Q n row) → (n : ℕ) (rows : List StateTree) → EachRow P n rows → EachRow Q n rows
each_weaker P Q f n [] all = tt
each_weaker P Q f n (row ∷ rows) all = (f n row all.0, each_weaker P Q f (suc n) rows all.1)

pub rows_same : (f g : ℕ → StateTree → StateValue) (n : ℕ) (rows : List StateTree) → EachRow (λ n row. f n row ≡ g n row) n rows → by_row f n rows ≡ by_row g n rows
rows_same f g n [] all = refl
rows_same f g n (row ∷ rows) all = ap₂ (λ (a : StateValue) (A : List StateValue). a ∷ A) all.0 (rows_same f g (suc n) rows all.1)

pub rows_apart : (f g : ℕ → StateTree → StateValue) (n : ℕ) (rows : List StateTree) → by_row f n rows ≡ by_row g n rows → EachRow (λ n row. f n row ≡ g n row) n rows
rows_apart f g n [] e = tt
rows_apart f g n (row ∷ rows) e = (cc, rows_apart f g (suc n) rows (cc))

rows_behind : (a : StateValue) (A : List StateValue) (n : ℕ) (rows : List StateTree) → by_row (λ k row. nth_value (a ∷ A) k) (suc n) rows ≡ by_row (λ k row. nth_value A k) n rows
rows_behind a A n [] = refl
rows_behind a A n (row ∷ rows) = ap (λ (B : List StateValue). nth_value A n ∷ B) (rows_behind a A (suc n) rows)

-- states with a value for each row are known by their numbers
pub rows_full : (P : StateTree → StateValue → Type 0) (rows : List StateTree) (A : List StateValue) → AreEach P rows A → by_row (λ n row. nth_value A n) 0 rows ≡ A
rows_full P [] [] each = refl
rows_full P [] (a ∷ A) each = absurd each
rows_full P (row ∷ rows) [] each = absurd each
rows_full P (row ∷ rows) (a ∷ A) each = ap (λ (B : List StateValue). a ∷ B) (rows_behind a A 0 rows ∙ rows_full P rows A each.1)

-- Runs with stalls: moments by their count of unstalled cycles.
use Rattle.std.proofs.Common.{◌≡◌, ◌⊎◌, ◌≤◌, ◌<◌, ◌-◌, ℕ, zero, suc, true, false, List, [], ◌∷◌, length, take, refl, sym, ap, ◌∙◌, subst, arith, inl, inr}
use Rattle.std.specs.List.{AllByRecursion}
use Rattle.std.proofs.lemmas.Bool.{cases_Bool}
use Rattle.lola_tree.specs.Tree.{SourceTree}
use Rattle.lola_tree.specs.Value.{Values}
use Rattle.lola_tree.specs.Cycle.{input_at}
use Rattle.tab_tree.specs.Table.{TableTree}
use Rattle.tab_tree.specs.Step.{answer_at}
use Rattle.tab_tree.specs.Headline.{is_unstalled, unstalled, answer_of, answers_of}

-- the input of a cycle has what all inputs have
pub input_has : (P : Values → Type 0) (inputs : List Values) (c : ℕ) → AllByRecursion P inputs → c < length inputs → P (input_at inputs c)
input_has P [] c all within = absurd (omega arith)
input_has P (inp ∷ inputs) zero all within = all.0
input_has P (inp ∷ inputs) (suc c) all within = input_has P inputs c all.1 (omega arith)

-- an unstalled cycle counts, and a stalled one doesn't
pub count_next : (T : TableTree) (inputs : List Values) (c : ℕ) → c < length inputs → is_unstalled T (input_at inputs c) ≡ true →
    unstalled T (take (suc c) inputs) ≡ suc (unstalled T (take c inputs))
count_next T [] c within free = absurd (omega arith)
count_next T (inp ∷ inputs) zero within free = rw free refl
count_next T (inp ∷ inputs) (suc c) within free = elim (cases_Bool (is_unstalled T inp)) [
  | inl p ↦ rw p (ap suc (count_next T inputs c (omega arith) free))
  | inr p ↦ rw p (count_next T inputs c (omega arith) free)
]

pub count_stays : (T : TableTree) (inputs : List Values) (c : ℕ) → c < length inputs → is_unstalled T (input_at inputs c) ≡ false →
    unstalled T (take (suc c) inputs) ≡ unstalled T (take c inputs)
count_stays T [] c within stalled = absurd (omega arith)
count_stays T (inp ∷ inputs) zero within stalled = rw stalled refl
count_stays T (inp ∷ inputs) (suc c) within stalled = elim (cases_Bool (is_unstalled T inp)) [
  | inl p ↦ rw p (ap suc (count_stays T inputs c (omega arith) stalled))
  | inr p ↦ rw p (count_stays T inputs c (omega arith) stalled)
]

-- the answer of an unstalled cycle stands at its count
pub answer_is : (S : SourceTree) (T : TableTree) (inputs : List Values) (c : ℕ) → c < length inputs → is_unstalled T (input_at inputs c) ≡ true →
    answer_at (answers_of S T inputs) (unstalled T (take c inputs)) ≡ answer_of S T (input_at inputs c)
answer_is S T [] c within free = absurd (omega arith)
answer_is S T (inp ∷ inputs) zero within free = rw free refl
answer_is S T (inp ∷ inputs) (suc c) within free = elim (cases_Bool (is_unstalled T inp)) [
  | inl p ↦ rw p (answer_is S T inputs c (omega arith) free)
  | inr p ↦ rw p (answer_is S T inputs c (omega arith) free)
]

module _ (T : TableTree) (inputs : List Values) (s : ℕ → Values) where
  -- at all moments with a count; at the first of them
  abbrev pub At : ℕ → (Values → Type 0) → Type 0
  At n P = (c : ℕ) → c ≤ length inputs → unstalled T (take c inputs) ≡ n → P (s c)

  abbrev pub First : ℕ → (Values → Type 0) → Type 0
  First n P = (c : ℕ) → c ≤ length inputs → unstalled T (take c inputs) ≡ n → (c ≡ 0) ⊎ (is_unstalled T (input_at inputs (c - 1)) ≡ true) → P (s c)

  -- an unstalled cycle leads on
  pub onward : (n : ℕ) (P Q : Values → Type 0) →
      ((c : ℕ) → c < length inputs → unstalled T (take c inputs) ≡ n → is_unstalled T (input_at inputs c) ≡ true → P (s c) → Q (s (suc c))) →
      At n P → First (suc n) Q
  onward n P Q edge at zero within count how = absurd (omega arith)
  onward n P Q edge at (suc c) within count (inl none) = absurd (omega arith)
  onward n P Q edge at (suc c) within count (inr free) =
      let same : suc c - 1 ≡ c = omega arith in
      let free' : is_unstalled T (input_at inputs c) ≡ true = subst (λ (k : ℕ). is_unstalled T (input_at inputs k) ≡ true) same free in
      let next = count_next T inputs c (omega arith) free' in
      let before : unstalled T (take c inputs) ≡ n = omega arith in
      edge c (omega arith) before free' (at c (omega arith) before)

  -- stalled cycles keep what they keep
  pub lasting : (n : ℕ) (P : Values → Type 0) →
      ((c : ℕ) → c < length inputs → is_unstalled T (input_at inputs c) ≡ false → P (s c) → P (s (suc c))) →
      First n P → At n P
  lasting n P edge first zero within count = first zero within count (inl refl)
  lasting n P edge first (suc c) within count = elim (cases_Bool (is_unstalled T (input_at inputs c))) [
    | inl free ↦
        let same : c ≡ suc c - 1 = omega arith in
        first (suc c) within count (inr (subst (λ (k : ℕ). is_unstalled T (input_at inputs k) ≡ true) same free))
    | inr stalled ↦
        let stays = count_stays T inputs c (omega arith) stalled in
        edge c (omega arith) stalled (lasting n P edge first c (omega arith) (sym stays ∙ count))
  ]

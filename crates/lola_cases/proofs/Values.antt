-- Values of all that is free, as a case.
use Rattle.std.proofs.Common.{◌≡◌, ℕ, zero, suc, ◌+◌, ◌<◌, ◌^◌, List, [], ◌∷◌, length, map, take, drop, get_or, Some, refl, sym, ◌∙◌, ap, arith}
use Rattle.std.specs.Prelude.{slice_get}
use Rattle.std.specs.List.{AllByRecursion}
use Rattle.std.proofs.lemmas.List.{map-append, length-map}
use Rattle.lola_bits.proofs.Options.{some_same, nothing}
use Rattle.lola_bits.proofs.Places.{length_more}
use Rattle.lola_flat.specs.Numbers.{first_numbers}
use Rattle.lola_flat.specs.Tree.{SignalTree, FlatTree}
use Rattle.lola_cases.specs.declared.free.FreeElement.{FreeElement}
use Rattle.lola_cases.specs.Free.{free_count, element_of, free_of, free_from, free_elements, widths}
use Rattle.lola_cases.specs.Cases.{AreWithin, IsCase, elements_in, outside_in, given_from, outside_from, GivesValues}
use Rattle.lola_cases.proofs.Shares.{first_share}

within_widths : (value : FreeElement → ℕ) (elements : List FreeElement) → AllByRecursion (λ (e : FreeElement). value e < 2 ^ e.width) elements → AreWithin (widths elements) (map value elements)
within_widths value [] below = tt
within_widths value (e ∷ elements) below = (below.0, within_widths value elements below.1)

pub values_are_case : (F : FlatTree) (value : FreeElement → ℕ) → AllByRecursion (λ (e : FreeElement). value e < 2 ^ e.width) (free_elements F) → IsCase F (map value (free_elements F))
values_are_case F value below = within_widths value (free_elements F) below

so_many : (n : ℕ) → length (first_numbers n) ≡ n
so_many zero = refl
so_many (suc n) = length_more (first_numbers n) n ∙ ap suc (so_many n)

module _ (F : FlatTree) (value : FreeElement → ℕ) where
  -- the values of a signal's own elements, and of those of signals from a number on
  abbrev own : ℕ → SignalTree → List ℕ
  own n s = map value (free_of F n s)

  abbrev all_from : ℕ → List SignalTree → List ℕ
  all_from n signals = map value (free_from F n signals)

  own_long : (n : ℕ) (s : SignalTree) → length (own n s) ≡ free_count F s
  own_long n s = length-map (free_of F n s) value ∙ (length-map (first_numbers (free_count F s)) (element_of n s.width) ∙ so_many (free_count F s))

  -- the first signal's are dealt to it, and the rest to those behind it
  first_own : (n : ℕ) (s : SignalTree) (signals : List SignalTree) → take (free_count F s) (all_from n (s ∷ signals)) ≡ own n s
  first_own n s signals = ap (take (free_count F s)) (map-append value (free_of F n s) (free_from F (n + 1) signals)) ∙ (first_share (free_count F s) (own n s) (all_from (n + 1) signals) (own_long n s)).0

  rest_own : (n : ℕ) (s : SignalTree) (signals : List SignalTree) → drop (free_count F s) (all_from n (s ∷ signals)) ≡ all_from (n + 1) signals
  rest_own n s signals = ap (drop (free_count F s)) (map-append value (free_of F n s) (free_from F (n + 1) signals)) ∙ (first_share (free_count F s) (own n s) (all_from (n + 1) signals) (own_long n s)).1

  given_at : (n : ℕ) (signals : List SignalTree) (k : ℕ) (s : SignalTree) → slice_get signals k ≡ Some s → get_or (given_from F signals (all_from n signals)) k [] ≡ elements_in s.kind (own (n + k) s)
  given_at n [] k s is = nothing s is
  given_at n (t ∷ signals) zero s is =
      let none : n + 0 ≡ n = omega arith in
      ap (elements_in t.kind) (first_own n t signals) ∙ (ap (λ (u : SignalTree). elements_in u.kind (own n u)) (some_same t s is) ∙ ap (λ (m : ℕ). elements_in s.kind (own m s)) (sym none))
  given_at n (t ∷ signals) (suc k) s is =
      let one : n + 1 + k ≡ n + suc k = omega arith in
      ap (λ (ns : List ℕ). get_or (given_from F signals ns) k []) (rest_own n t signals) ∙ (given_at (n + 1) signals k s is ∙ ap (λ (m : ℕ). elements_in s.kind (own m s)) one)

  outside_at : (n : ℕ) (signals : List SignalTree) (k : ℕ) (s : SignalTree) → slice_get signals k ≡ Some s → get_or (outside_from F signals (all_from n signals)) k 0 ≡ outside_in s.kind (own (n + k) s)
  outside_at n [] k s is = nothing s is
  outside_at n (t ∷ signals) zero s is =
      let none : n + 0 ≡ n = omega arith in
      ap (outside_in t.kind) (first_own n t signals) ∙ (ap (λ (u : SignalTree). outside_in u.kind (own n u)) (some_same t s is) ∙ ap (λ (m : ℕ). outside_in s.kind (own m s)) (sym none))
  outside_at n (t ∷ signals) (suc k) s is =
      let one : n + 1 + k ≡ n + suc k = omega arith in
      ap (λ (ns : List ℕ). get_or (outside_from F signals ns) k 0) (rest_own n t signals) ∙ (outside_at (n + 1) signals k s is ∙ ap (λ (m : ℕ). outside_in s.kind (own m s)) one)

  pub gives_values : GivesValues F value
  gives_values = record {
    given = λ n s is. let none : 0 + n ≡ n = omega arith in given_at 0 F.signals n s is ∙ ap (λ (m : ℕ). elements_in s.kind (own m s)) none;
    outside = λ n s is. let none : 0 + n ≡ n = omega arith in outside_at 0 F.signals n s is ∙ ap (λ (m : ℕ). outside_in s.kind (own m s)) none;
  }

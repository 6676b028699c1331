-- What a state and an input give to all that is free is a case of the flat design, and gives it what they give.
use Rattle.std.proofs.Common.{◌≡◌, ◌≢◌, ℕ, ◌^◌, ◌<◌, ◌≤◌, List, [], ◌∷◌, ◌++◌, map, flat_map, length, take, drop, get_or, refl, sym, ◌∙◌, ap, ap₂, subst, inl, inr}
use Rattle.std.proofs.lemmas.List.{length-map, map-append, take-append-drop, take_at}
use Rattle.lola_bits.specs.Lists.{IsIn}
use Rattle.lola_bits.proofs.Places.{get_map, same_fronts}
use Rattle.lola_flat.specs.Numbers.{first_numbers}
use Rattle.lola_flat.specs.Tree.{FlatTree}
use Rattle.lola_flat.specs.Cycle.{AreBelow, IsGivenTo, AreGiven, AreOutside}
use Rattle.lola_cases.specs.Free.{free_count}
use Rattle.lola_cases.specs.Cases.{AreWithin, IsCase, elements_in, outside_in, given_from, outside_from}
use Rattle.lola_cases.specs.Cases as flat
use Rattle.lola_cases.proofs.Elements.{widths_from, widths_are}
use Rattle.lola_cases.proofs.Shares.{joined}
use Rattle.lola_tree.specs.Tree.{SourceTree}
use Rattle.lola_tree.specs.Value.{Path, Values}
use Rattle.lola_tree.specs.design.Signals.{Kind, clock, input, pad, wire, register, Signal, signals, signal_paths, elements}
use Rattle.lola_design.specs.Paths.{count}
use Rattle.lola_design.specs.Regular.{IsVector}
use Rattle.lola_unfold.specs.Flat.{flat_kind, flat_width, flat_signal, flat_design, numbers_of}
use Rattle.lola_meaning.specs.Tables.{elements_of, given_by, given_of, outside_by, outside_of}
use Rattle.lola_meaning.proofs.Numbers.{numbers_long}
use Rattle.lola_meaning.proofs.Tables.{at_signal, at_table, vector_elements}
use Rattle.lola_meaning.proofs.KindTests.{no_register}
use Rattle.lola_states.specs.States.{element_of, all_elements, free_by, free_elements, value_in, case_of}
use Rattle.lola_states.proofs.Elements.{values_are}
use Rattle.lola_states.proofs.Counted.{nothing, given_at, vector_by, counted_elements, counted}

module _ (S : SourceTree) (vectors : (x : Signal) → IsIn x (signals S) → x.kind ≢ register → IsVector x.type) (once : (x : Path) → count x (signal_paths S) ≤ 1) (order : List ℕ) (fits : AreGiven (flat_design S order) (given_of S nothing nothing)) (s inp : Values) where
  abbrev F : FlatTree
  F = flat_design S order

  -- the share of a signal, and those of signals one behind another
  abbrev share : Signal → List ℕ
  share x = map (value_in s inp) (free_elements x)

  abbrev shares : List Signal → List ℕ
  shares xs = map (value_in s inp) (flat_map free_elements xs)

  first_share : (x : Signal) (xs : List Signal) → shares (x ∷ xs) ≡ share x ++ shares xs
  first_share x xs = map-append (value_in s inp) (free_elements x) (flat_map free_elements xs)

  share_long : (x : Signal) → IsIn x (signals S) → length (share x) ≡ free_count F (flat_signal S x)
  share_long x there =
      ap (λ es. length (map (value_in s inp) es)) (counted S vectors once order fits x there)
      ∙ length-map (counted_elements S vectors once order x) (value_in s inp)
      ∙ length-map (first_numbers (free_count F (flat_signal S x))) (element_of x)
      ∙ numbers_long (free_count F (flat_signal S x))

  -- what a signal is given of its share
  given_share : (x : Signal) (k : Kind) → x.kind ≡ k → elements_in (flat_kind k) (map (value_in s inp) (free_by k (all_elements x))) ≡ given_by k (elements_of s x) (elements_of inp x)
  given_share x clock kind = refl
  given_share x input kind = values_are s inp x input kind (first_numbers (elements x.names x.type))
  given_share x pad kind = refl
  given_share x wire kind = refl
  given_share x register kind = values_are s inp x register kind (first_numbers (elements x.names x.type))

  outside_share : (x : Signal) → IsIn x (signals S) → (k : Kind) → x.kind ≡ k → outside_in (flat_kind k) (map (value_in s inp) (free_by k (all_elements x))) ≡ outside_by k (inp x.path 0)
  outside_share x there clock kind = refl
  outside_share x there input kind = refl
  outside_share x there wire kind = refl
  outside_share x there register kind = refl
  outside_share x there pad kind =
      ap (λ (l : List ℕ). get_or l 0 0)
      (values_are s inp x pad kind (first_numbers (elements x.names x.type))
      ∙ vector_elements inp x.path x.names x.type (vector_by S vectors once order x there pad kind (no_register pad (λ none. none))))

  -- the first share is the first signal's
  taken : (x : Signal) (xs : List Signal) → IsIn x (signals S) → take (free_count F (flat_signal S x)) (shares (x ∷ xs)) ≡ share x
  taken x xs there = ap (take (free_count F (flat_signal S x))) (first_share x xs) ∙ take_at (share x) (shares xs) (free_count F (flat_signal S x)) (share_long x there)

  others : (x : Signal) (xs : List Signal) → IsIn x (signals S) → drop (free_count F (flat_signal S x)) (shares (x ∷ xs)) ≡ shares xs
  others x xs there =
      let c : ℕ = free_count F (flat_signal S x) in
      let front = taken x xs there in
      (same_fronts (take c (shares (x ∷ xs))) (drop c (shares (x ∷ xs))) (share x) (shares xs) (take-append-drop c (shares (x ∷ xs)) ∙ first_share x xs) (ap (λ (l : List ℕ). length l) front)).1

  dealt_given : (xs : List Signal) → ((x : Signal) → IsIn x xs → IsIn x (signals S)) → given_from F (map (flat_signal S) xs) (shares xs) ≡ map (λ (x : Signal). given_by x.kind (elements_of s x) (elements_of inp x)) xs
  dealt_given [] inside = refl
  dealt_given (x ∷ xs) inside =
      let there = inside x (inl refl) in
      ap₂ (λ (l : List ℕ) (ls : List (List ℕ)). l ∷ ls)
      (ap (elements_in (flat_kind x.kind)) (taken x xs there) ∙ given_share x x.kind refl)
      (ap (given_from F (map (flat_signal S) xs)) (others x xs there) ∙ dealt_given xs (λ y later. inside y (inr later)))

  dealt_outside : (xs : List Signal) → ((x : Signal) → IsIn x xs → IsIn x (signals S)) → outside_from F (map (flat_signal S) xs) (shares xs) ≡ map (λ (x : Signal). outside_by x.kind (inp x.path 0)) xs
  dealt_outside [] inside = refl
  dealt_outside (x ∷ xs) inside =
      let there = inside x (inl refl) in
      ap₂ (λ (n : ℕ) (ns : List ℕ). n ∷ ns)
      (ap (outside_in (flat_kind x.kind)) (taken x xs there) ∙ outside_share x there x.kind refl)
      (ap (outside_from F (map (flat_signal S) xs)) (others x xs there) ∙ dealt_outside xs (λ y later. inside y (inr later)))

  pub given_same : flat.given_of F (case_of S s inp) ≡ given_of S s inp
  given_same = dealt_given (signals S) (λ x there. there)

  pub outside_same : flat.outside_of F (case_of S s inp) ≡ outside_of S inp
  outside_same = dealt_outside (signals S) (λ x there. there)

  -- where the values fit, it is a case
  module _ (given : AreGiven F (given_of S s inp)) (outer : AreOutside F (outside_of S inp)) where
    pad_below : (x : Signal) → IsIn x (signals S) → x.kind ≡ pad → inp x.path 0 < 2 ^ flat_width x.names x.type
    pad_below x there kind =
        subst (λ (n : ℕ). n < 2 ^ flat_width x.names x.type)
        (at_table S once (λ (y : Signal). outside_by y.kind (inp y.path 0)) 0 x there ∙ ap (λ (k : Kind). outside_by k (inp x.path 0)) kind)
        (outer.each (numbers_of S x.path) (flat_signal S x) (get_map (flat_signal S) (signals S) (numbers_of S x.path) x (at_signal S once x there)) (ap flat_kind kind))

    below_by : (x : Signal) → IsIn x (signals S) → (k : Kind) → x.kind ≡ k → IsGivenTo F (flat_signal S x) (flat_kind k) (given_by k (elements_of s x) (elements_of inp x)) → AreBelow (flat_signal S x) (map (value_in s inp) (free_by k (all_elements x)))
    below_by x there clock kind is = tt
    below_by x there wire kind is = tt
    below_by x there input kind is = subst (AreBelow (flat_signal S x)) (sym (given_share x input kind)) is.0
    below_by x there register kind is = subst (AreBelow (flat_signal S x)) (sym (given_share x register kind)) is.below
    below_by x there pad kind is =
        subst (AreBelow (flat_signal S x))
        (sym (values_are s inp x pad kind (first_numbers (elements x.names x.type))
        ∙ vector_elements inp x.path x.names x.type (vector_by S vectors once order x there pad kind (no_register pad (λ none. none)))))
        (pad_below x there kind, tt)

    share_below : (x : Signal) → IsIn x (signals S) → AreBelow (flat_signal S x) (share x)
    share_below x there = below_by x there x.kind refl (given_at S vectors once order s inp given x there)

    within : (xs : List Signal) → ((x : Signal) → IsIn x xs → IsIn x (signals S)) → AreWithin (widths_from F (map (flat_signal S) xs)) (shares xs)
    within [] inside = tt
    within (x ∷ xs) inside =
        let there = inside x (inl refl) in
        subst (AreWithin (widths_from F (map (flat_signal S) (x ∷ xs)))) (sym (first_share x xs))
        (joined (free_count F (flat_signal S x)) (flat_width x.names x.type) (widths_from F (map (flat_signal S) xs)) (share x) (shares xs) (share_long x there) (share_below x there)
        (within xs (λ y later. inside y (inr later))))

    pub is_case : IsCase F (case_of S s inp)
    is_case = subst (λ (ws : List ℕ). AreWithin ws (case_of S s inp)) (sym (widths_are F)) (within (signals S) (λ x there. there))

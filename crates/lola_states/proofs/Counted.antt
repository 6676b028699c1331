-- A signal of a source has as many free elements as its flat signal has free.
use Rattle.std.proofs.Common.{◌≡◌, ◌≢◌, ℕ, ◌≤◌, List, [], map, length, Option, Some, None, refl, sym, ◌∙◌, ap, subst, inl, inr, arith}
use Rattle.std.proofs.lemmas.Nat.{pow_pos}
use Rattle.lola_bits.specs.Lists.{IsIn}
use Rattle.lola_bits.proofs.Places.{get_map}
use Rattle.lola_flat.specs.Numbers.{first_numbers}
use Rattle.lola_flat.specs.Tree.{FlatTree}
use Rattle.lola_flat.specs.Signals.{IsClock}
use Rattle.lola_flat.specs.Cycle.{IsGivenTo, AreGiven}
use Rattle.lola_cases.specs.Free.{free_count}
use Rattle.lola_cases.proofs.Clocks.{clock_or_not, none_of_clock, all_of_input, all_of_register, one_of_pad, none_of_wire}
use Rattle.lola_tree.specs.declared.named.Shape.{Shape}
use Rattle.lola_tree.specs.declared.named.Shape.TheVariants.{Vector, Array}
use Rattle.lola_tree.specs.Names.{Names}
use Rattle.lola_tree.specs.Tree.{SourceTree}
use Rattle.lola_tree.specs.Width.{vector_width, element_width}
use Rattle.lola_tree.specs.Value.{Path, Values}
use Rattle.lola_tree.specs.Cycle.{FitsIn}
use Rattle.lola_tree.specs.design.Signals.{Kind, clock, input, pad, wire, register, Signal, signals, signal_paths, elements}
use Rattle.lola_tree.specs.design.Cycle.{Suits, IsState, IsGiven}
use Rattle.lola_design.specs.Paths.{count}
use Rattle.lola_design.specs.Regular.{IsVector}
use Rattle.lola_unfold.specs.Flat.{flat_kind, flat_count, flat_signal, flat_design, numbers_of}
use Rattle.lola_meaning.specs.Tables.{elements_of, given_by, given_of}
use Rattle.lola_meaning.proofs.Numbers.{values_long}
use Rattle.lola_meaning.proofs.Tables.{at_signal, at_table}
use Rattle.lola_meaning.proofs.KindTests.{no_register}
use Rattle.lola_states.specs.States.{Element, element_of, all_elements, free_by, free_elements}

-- the values that are 0 are a state and an input
abbrev pub nothing : Values
nothing path n = 0

-- 0 fits any width
zero_fits : (o : Option ℕ) → FitsIn o 0
zero_fits None = tt
zero_fits (Some width) = pow_pos width

pub nothing_suits : (names : Names) (type : Shape) → Suits names type (λ n. 0)
nothing_suits names (Vector width) = zero_fits (vector_width names (Some (Vector width)))
nothing_suits names (Array count_ width) = λ n inside. zero_fits (element_width names (Some (Array count_ width)))

pub nothing_is_state : (S : SourceTree) → IsState S nothing
nothing_is_state S x there = nothing_suits x.names x.type

pub nothing_is_given : (S : SourceTree) → IsGiven S nothing
nothing_is_given S = record { inputs = λ x there. nothing_suits x.names x.type; pads = λ x there. nothing_suits x.names x.type }

-- a vector is one
one_element : (names : Names) (type : Shape) → IsVector type → elements names type ≡ 1
one_element names (Vector width) is = refl
one_element names (Array count_ width) is = absurd is

one_counted : (names : Names) (type : Shape) → IsVector type → flat_count names type ≡ 1
one_counted names (Vector width) is = refl
one_counted names (Array count_ width) is = absurd is

module _ (S : SourceTree) (vectors : (x : Signal) → IsIn x (signals S) → x.kind ≢ register → IsVector x.type) (once : (x : Path) → count x (signal_paths S) ≤ 1) (order : List ℕ) where
  abbrev F : FlatTree
  F = flat_design S order

  -- what the flat design is given for a signal
  pub given_at : (s inp : Values) → AreGiven F (given_of S s inp) → (x : Signal) → IsIn x (signals S) → IsGivenTo F (flat_signal S x) (flat_kind x.kind) (given_by x.kind (elements_of s x) (elements_of inp x))
  given_at s inp given x there =
      subst (IsGivenTo F (flat_signal S x) (flat_kind x.kind)) (at_table S once (λ (y : Signal). given_by y.kind (elements_of s y) (elements_of inp y)) [] x there)
      (given.each (numbers_of S x.path) (flat_signal S x) (get_map (flat_signal S) (signals S) (numbers_of S x.path) x (at_signal S once x there)))

  -- only a register is no vector
  pub vector_by : (x : Signal) → IsIn x (signals S) → (k : Kind) → x.kind ≡ k → k ≢ register → IsVector x.type
  vector_by x there k kind other = vectors x there (λ e. other (sym kind ∙ e))

  abbrev pub counted_elements : Signal → List Element
  counted_elements x = map (element_of x) (first_numbers (free_count F (flat_signal S x)))

  as_many : (x : Signal) → elements x.names x.type ≡ free_count F (flat_signal S x) → all_elements x ≡ counted_elements x
  as_many x same = ap (λ (n : ℕ). map (element_of x) (first_numbers n)) same

  none_counted : (x : Signal) → free_count F (flat_signal S x) ≡ 0 → [] ≡ counted_elements x
  none_counted x none = sym (ap (λ (n : ℕ). map (element_of x) (first_numbers n)) none)

  module _ (fits : AreGiven F (given_of S nothing nothing)) where
    at_kind : (x : Signal) → IsIn x (signals S) → (k : Kind) → x.kind ≡ k → IsGivenTo F (flat_signal S x) (flat_kind k) (given_by k (elements_of nothing x) (elements_of nothing x))
    at_kind x there k kind =
        subst (λ (j : Kind). IsGivenTo F (flat_signal S x) (flat_kind j) (given_by j (elements_of nothing x) (elements_of nothing x))) kind (given_at nothing nothing fits x there)

    -- the clock of the source is that of the flat design, and an input is another
    pub clock_is : (x : Signal) → IsIn x (signals S) → x.kind ≡ clock → IsClock F (flat_signal S x)
    clock_is x there kind = elim (clock_or_not F (flat_signal S x)) [
      | inl same ↦ same
      | inr other ↦
          let empty : 0 ≡ flat_count x.names x.type = (at_kind x there clock kind).1.1 other in
          absurd (let one = one_counted x.names x.type (vector_by x there clock kind (no_register clock (λ none. none))) in omega arith)
    ]

    pub input_is_no_clock : (x : Signal) → IsIn x (signals S) → x.kind ≡ input → IsClock F (flat_signal S x) → ⊥
    input_is_no_clock x there kind same =
        let one = one_element x.names x.type (vector_by x there input kind (no_register input (λ none. none))) in
        let long = values_long (nothing x.path) (elements x.names x.type) in
        let empty : length (elements_of nothing x) ≡ 0 = ap (λ (l : List ℕ). length l) ((at_kind x there input kind).1.0 same) in
        omega arith

    -- how many elements there are
    pub input_count : (x : Signal) → IsIn x (signals S) → x.kind ≡ input → elements x.names x.type ≡ flat_count x.names x.type
    input_count x there kind = sym (values_long (nothing x.path) (elements x.names x.type)) ∙ (at_kind x there input kind).1.1 (input_is_no_clock x there kind)

    pub register_count : (x : Signal) → IsIn x (signals S) → x.kind ≡ register → elements x.names x.type ≡ flat_count x.names x.type
    register_count x there kind = sym (values_long (nothing x.path) (elements x.names x.type)) ∙ (at_kind x there register kind).count

    by_kind : (x : Signal) → IsIn x (signals S) → (k : Kind) → x.kind ≡ k → free_by k (all_elements x) ≡ counted_elements x
    by_kind x there clock kind = none_counted x (none_of_clock F (flat_signal S x) (ap flat_kind kind) (clock_is x there kind))
    by_kind x there input kind = as_many x (input_count x there kind ∙ sym (all_of_input F (flat_signal S x) (ap flat_kind kind) (input_is_no_clock x there kind)))
    by_kind x there pad kind =
        as_many x (one_element x.names x.type (vector_by x there pad kind (no_register pad (λ none. none))) ∙ sym (one_of_pad F (flat_signal S x) (ap flat_kind kind)))
    by_kind x there wire kind = none_counted x (none_of_wire F (flat_signal S x) (ap flat_kind kind))
    by_kind x there register kind = as_many x (register_count x there kind ∙ sym (all_of_register F (flat_signal S x) (ap flat_kind kind)))

    pub counted : (x : Signal) → IsIn x (signals S) → free_elements x ≡ counted_elements x
    counted x there = by_kind x there x.kind refl

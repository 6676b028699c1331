-- The state and the input of a case give it back.
use Rattle.std.proofs.Common.{◌≡◌, ◌≢◌, ℕ, ◌≤◌, List, [], length, get_or, refl, sym, ◌∙◌, ap, subst}
use Rattle.lola_bits.specs.Lists.{IsIn}
use Rattle.lola_bits.proofs.Places.{get_in, get_map, from_get}
use Rattle.lola_alg.specs.Means.{number_in}
use Rattle.lola_flat.specs.declared.design.SigKind.{SigKind}
use Rattle.lola_flat.specs.declared.design.SigKind.TheVariants.{Input, Pad, Wire, Register}
use Rattle.lola_flat.specs.Tree.{SignalTree, FlatTree}
use Rattle.lola_flat.specs.Cycle.{IsGivenTo, AreGiven}
use Rattle.lola_cases.specs.Cases.{GiveSameTo, GiveSame}
use Rattle.lola_tree.specs.Tree.{SourceTree}
use Rattle.lola_tree.specs.Value.{Path, Values}
use Rattle.lola_tree.specs.design.Signals.{Kind, clock, input, pad, wire, register, Signal, signals, signal_paths, elements}
use Rattle.lola_design.specs.Paths.{count}
use Rattle.lola_design.specs.Regular.{IsVector}
use Rattle.lola_unfold.specs.Flat.{flat_kind, flat_signal, flat_design, numbers_of}
use Rattle.lola_meaning.specs.Tables.{elements_of, given_by, given_of, outside_by, outside_of, values_of, entered_by, input_of}
use Rattle.lola_meaning.proofs.Numbers.{get_is, read_back, same_values}
use Rattle.lola_meaning.proofs.Tables.{number_is, at_signal}
use Rattle.lola_meaning.proofs.Given.{kind_is}
use Rattle.lola_states.proofs.Counted.{nothing, clock_is, input_is_no_clock, input_count, register_count}

-- tables give the same as themselves
same_itself : (kind : SigKind) (elements : List ℕ) (outside : ℕ) → GiveSameTo kind elements elements outside outside
same_itself Input elements outside = refl
same_itself Register elements outside = refl
same_itself Pad elements outside = refl
same_itself Wire elements outside = tt

pub give_same_itself : (F : FlatTree) (given : List (List ℕ)) (outside : List ℕ) → GiveSame F given outside given outside
give_same_itself F given outside = record { each = λ n s is. same_itself s.kind (get_or given n []) (get_or outside n 0) }

module _ (S : SourceTree) (vectors : (x : Signal) → IsIn x (signals S) → x.kind ≢ register → IsVector x.type) (once : (x : Path) → count x (signal_paths S) ≤ 1) (order : List ℕ) (fits : AreGiven (flat_design S order) (given_of S nothing nothing)) where
  abbrev F : FlatTree
  F = flat_design S order

  module _ (given : List (List ℕ)) (outside : List ℕ) (are : AreGiven F given) where
    abbrev s : Values
    s = values_of S given

    abbrev inp : Values
    inp = input_of S given outside

    abbrev its : Signal → List ℕ
    its x = get_or given (numbers_of S x.path) []

    abbrev its_outside : Signal → ℕ
    its_outside x = get_or outside (numbers_of S x.path) 0

    given_to : (x : Signal) → IsIn x (signals S) → (k : Kind) → x.kind ≡ k → IsGivenTo F (flat_signal S x) (flat_kind k) (its x)
    given_to x there k kind =
        subst (λ (j : Kind). IsGivenTo F (flat_signal S x) (flat_kind j) (its x)) kind
        (are.each (numbers_of S x.path) (flat_signal S x) (get_map (flat_signal S) (signals S) (numbers_of S x.path) x (at_signal S once x there)))

    entered : (x : Signal) → IsIn x (signals S) → (k : Kind) → x.kind ≡ k → (n : ℕ) → inp x.path n ≡ entered_by k (its_outside x) (number_in (its x) n)
    entered x there k kind n = ap (λ (j : Kind). entered_by j (its_outside x) (number_in (its x) n)) (kind_is (signals S) x (once x.path) there ∙ kind)

    same_by : (x : Signal) → IsIn x (signals S) → (k : Kind) → x.kind ≡ k → GiveSameTo (flat_kind k) (its x) (given_by k (elements_of s x) (elements_of inp x)) (its_outside x) (outside_by k (inp x.path 0))
    same_by x there clock kind = (given_to x there clock kind).1.0 (clock_is S vectors once order fits x there kind)
    same_by x there input kind =
        let many : ℕ = elements x.names x.type in
        let long : length (its x) ≡ many = (given_to x there input kind).1.1 (input_is_no_clock S vectors once order fits x there kind) ∙ sym (input_count S vectors once order fits x there kind) in
        sym (same_values (inp x.path) (number_in (its x)) many (λ n inside. entered x there input kind n) ∙ read_back (its x) many long)
    same_by x there pad kind = sym (entered x there pad kind 0)
    same_by x there wire kind = tt
    same_by x there register kind = sym (read_back (its x) (elements x.names x.type) ((given_to x there register kind).count ∙ sym (register_count S vectors once order fits x there kind)))

    -- the state and the input give what they were read from
    pub gives_same : GiveSame F given outside (given_of S s inp) (outside_of S inp)
    gives_same = record {
      each = λ n t at.
          let f = from_get (flat_signal S) (signals S) n t at in
          let x = f.0 in
          let a : get_or (given_of S s inp) n [] ≡ given_by x.kind (elements_of s x) (elements_of inp x) =
          get_is (given_of S s inp) n [] (given_by x.kind (elements_of s x) (elements_of inp x)) (get_map (λ (y : Signal). given_by y.kind (elements_of s y) (elements_of inp y)) (signals S) n x f.1) in
          let b : get_or (outside_of S inp) n 0 ≡ outside_by x.kind (inp x.path 0) =
          get_is (outside_of S inp) n 0 (outside_by x.kind (inp x.path 0)) (get_map (λ (y : Signal). outside_by y.kind (inp y.path 0)) (signals S) n x f.1) in
          subst (λ (u : SignalTree). GiveSameTo u.kind (get_or given n []) (get_or (given_of S s inp) n []) (get_or outside n 0) (get_or (outside_of S inp) n 0)) f.2
          (subst (λ (l : List ℕ). GiveSameTo (flat_kind x.kind) (get_or given n []) l (get_or outside n 0) (get_or (outside_of S inp) n 0)) (sym a)
          (subst (λ (m : ℕ). GiveSameTo (flat_kind x.kind) (get_or given n []) (given_by x.kind (elements_of s x) (elements_of inp x)) (get_or outside n 0) m) (sym b)
          (subst (λ (i : ℕ). GiveSameTo (flat_kind x.kind) (get_or given i []) (given_by x.kind (elements_of s x) (elements_of inp x)) (get_or outside i 0) (outside_by x.kind (inp x.path 0))) (number_is S once n x f.1)
          (same_by x (get_in (signals S) n x f.1) x.kind refl))));
    }

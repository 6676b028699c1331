-- What is free in a flat design has the names and widths of what is free in its source.
use Rattle.std.proofs.Common.{◌≡◌, ◌≢◌, ℕ, suc, ◌+◌, ◌^◌, ◌≤◌, List, [], ◌∷◌, ◌++◌, map, flat_map, Option, Some, None, refl, sym, ◌∙◌, ap, ap₂, inl, inr, arith}
use Rattle.std.specs.Prelude.{slice_get}
use Rattle.std.proofs.lemmas.List.{map-append}
use Rattle.std.proofs.Math.Pow.{pow_mono}
use Rattle.lola_bits.specs.Lists.{IsIn}
use Rattle.lola_bits.proofs.Places.{get_in, get_map}
use Rattle.lola_flat.specs.Numbers.{first_numbers}
use Rattle.lola_flat.specs.declared.design.SigKind.{SigKind}
use Rattle.lola_flat.specs.Tree.{ExprTree, SignalTree, FlatTree}
use Rattle.lola_flat.specs.Formed.{CountFits, IsFormed}
use Rattle.lola_flat.specs.Cycle.{AreGiven}
use Rattle.lola_cases.specs.declared.free.FreeElement.{FreeElement}
use Rattle.lola_cases.specs.Free.{free_count, bracketed, name_in}
use Rattle.lola_cases.specs.Free as free
use Rattle.lola_tree.specs.declared.named.Shape.{Shape}
use Rattle.lola_tree.specs.declared.named.Shape.TheVariants.{Vector, Array}
use Rattle.lola_tree.specs.Names.{Names}
use Rattle.lola_tree.specs.Tree.{SourceTree}
use Rattle.lola_tree.specs.Value.{Path, or_zero}
use Rattle.lola_tree.specs.design.Signals.{Kind, clock, input, pad, wire, register, Signal, signals, signal_paths}
use Rattle.lola_design.specs.Paths.{count}
use Rattle.lola_design.specs.Regular.{IsVector, IsRegular}
use Rattle.lola_values.proofs.Known.{NumbersAll}
use Rattle.lola_unfold.specs.Flat.{flat_kind, flat_width, flat_count, flat_signal, flat_design, IsElaborated}
use Rattle.lola_meaning.specs.Tables.{given_of}
use Rattle.lola_meaning.specs.Typed.{HasWidth, AreTyped}
use Rattle.lola_meaning.proofs.Elaborated.{stated, to_stated}
use Rattle.lola_meaning.proofs.Tables.{typed_vector, typed_array}
use Rattle.lola_states.specs.States.{Element, element_of, all_elements, free_by, free_elements, free_of, if_input, if_register, input_elements, register_elements, numbered, name_of, width_by, width_of}
use Rattle.lola_states.proofs.Elements.{map_both}
use Rattle.lola_states.proofs.Counted.{nothing, counted}

-- the width of a type
width_is : NumbersAll → (names : Names) (type : Shape) → HasWidth names type → flat_width names type ≡ width_by names type
width_is numbers names (Vector width) has = (typed_vector names (Vector width) has.0 tt has.1).width ∙ sym (ap or_zero has.1)
width_is numbers names (Array count_ width) has = (typed_array numbers names (Array count_ width) has.0 has.1 tt has.2 has.3).width ∙ sym (ap or_zero has.2)

-- two to a place's width are more than one
more_than_one : (k n : ℕ) → 1 ≤ k → n ≡ 2 ^ k → n ≡ 1 → ⊥
more_than_one k n some is one = let more : 2 ^ 1 ≤ 2 ^ k = pow_mono some in omega arith

-- an array stands with a place, and a vector without one
brackets_by : NumbersAll → (names : Names) (type : Shape) → HasWidth names type → (kind : SigKind) (place : Option ExprTree) → CountFits kind place (flat_count names type) → (m : ℕ) → bracketed place m ≡ numbered type m
brackets_by numbers names (Vector width) has kind None fits m = refl
brackets_by numbers names (Vector width) has kind (Some place) fits m = absurd (more_than_one fits.1.0 1 fits.1.1.0 fits.1.1.1.1 refl)
brackets_by numbers names (Array count_ width) has kind None fits m =
    let t = typed_array numbers names (Array count_ width) has.0 has.1 tt has.2 has.3 in
    absurd (more_than_one has.1 (flat_count names (Array count_ width)) t.places.0 t.count fits)
brackets_by numbers names (Array count_ width) has kind (Some place) fits m = refl

-- the same is said of all that is free, of what is free of inputs and pads, and of what is free of registers
pub record AreAlike (S : SourceTree) (F : FlatTree) {X : Type 0} (f : FreeElement → X) (g : Element → X) : Type 0 where
  pub all : map f (free.free_elements F) ≡ map g (free_of S)
  pub inputs : map f (free.input_elements F) ≡ map g (input_elements S)
  pub registers : map f (free.register_elements F) ≡ map g (register_elements S)

module _ (S : SourceTree) (vectors : (x : Signal) → IsIn x (signals S) → x.kind ≢ register → IsVector x.type) (once : (x : Path) → count x (signal_paths S) ≤ 1) (order : List ℕ) (fits : AreGiven (flat_design S order) (given_of S nothing nothing)) where
  abbrev F : FlatTree
  F = flat_design S order

  -- what is the same of each element of each signal is the same of all that is free
  abbrev IsSame : {X : Type 0} → (FreeElement → X) → (Element → X) → ℕ → Signal → Type 0
  IsSame f g i x = (m : ℕ) → f (free.element_of i (flat_width x.names x.type) m) ≡ g (element_of x m)

  one_same : {X : Type 0} (f : FreeElement → X) (g : Element → X) (n : ℕ) (x : Signal) → IsIn x (signals S) → IsSame f g n x → map f (free.free_of F n (flat_signal S x)) ≡ map g (free_elements x)
  one_same f g n x there same =
      map_both f g (free.element_of n (flat_width x.names x.type)) (element_of x) same (first_numbers (free_count F (flat_signal S x)))
      ∙ sym (ap (map g) (counted S vectors once order fits x there))

  -- also of a part of it that kinds choose
  module _ {X : Type 0} (f : FreeElement → X) (g : Element → X) (from : ℕ → List SignalTree → List FreeElement) (if_flat : SigKind → List FreeElement → List FreeElement) (if_kind : Kind → List Element → List Element)
      (none : (n : ℕ) → from n [] ≡ []) (more : (n : ℕ) (s : SignalTree) (ss : List SignalTree) → from n (s ∷ ss) ≡ if_flat s.kind (free.free_of F n s) ++ from (n + 1) ss)
      (chosen : (k : Kind) (a : List FreeElement) (b : List Element) → map f a ≡ map g (free_by k b) → map f (if_flat (flat_kind k) a) ≡ map g (if_kind k b)) where
    abbrev chosen_of : Signal → List Element
    chosen_of x = if_kind x.kind (all_elements x)

    same_from : (n : ℕ) (xs : List Signal) → ((x : Signal) → IsIn x xs → IsIn x (signals S)) → ((k : ℕ) (x : Signal) → slice_get xs k ≡ Some x → (i : ℕ) → i ≡ n + k → IsSame f g i x) →
        map f (from n (map (flat_signal S) xs)) ≡ map g (flat_map chosen_of xs)
    same_from n [] inside same = ap (map f) (none n)
    same_from n (x ∷ xs) inside same =
        let own : List FreeElement = if_flat (flat_signal S x).kind (free.free_of F n (flat_signal S x)) in
        let others : List FreeElement = from (n + 1) (map (flat_signal S) xs) in
        ap (map f) (more n (flat_signal S x) (map (flat_signal S) xs))
        ∙ map-append f own others
        ∙ ap₂ (λ a b. a ++ b) (chosen x.kind (free.free_of F n (flat_signal S x)) (all_elements x) (one_same f g n x (inside x (inl refl)) (same 0 x refl n (omega arith))))
        (same_from (n + 1) xs (λ y later. inside y (inr later)) (λ k y at i is. same (suc k) y at i (omega arith)))
        ∙ sym (map-append g (chosen_of x) (flat_map chosen_of xs))

    same_all : ((n : ℕ) (x : Signal) → slice_get (signals S) n ≡ Some x → IsSame f g n x) → map f (from 0 F.signals) ≡ map g (flat_map chosen_of (signals S))
    same_all same = same_from 0 (signals S) (λ x there. there) (λ k x at i is. same i x (ap (slice_get (signals S)) (let e : i ≡ k = omega arith in e) ∙ at))

  inputs_chosen : {X : Type 0} (f : FreeElement → X) (g : Element → X) (k : Kind) (a : List FreeElement) (b : List Element) → map f a ≡ map g (free_by k b) → map f (free.if_input (flat_kind k) a) ≡ map g (if_input k b)
  inputs_chosen f g clock a b same = same
  inputs_chosen f g input a b same = same
  inputs_chosen f g pad a b same = same
  inputs_chosen f g wire a b same = refl
  inputs_chosen f g register a b same = refl

  registers_chosen : {X : Type 0} (f : FreeElement → X) (g : Element → X) (k : Kind) (a : List FreeElement) (b : List Element) → map f a ≡ map g (free_by k b) → map f (free.if_register (flat_kind k) a) ≡ map g (if_register k b)
  registers_chosen f g clock a b same = refl
  registers_chosen f g input a b same = refl
  registers_chosen f g pad a b same = refl
  registers_chosen f g wire a b same = refl
  registers_chosen f g register a b same = same

  are_alike : {X : Type 0} (f : FreeElement → X) (g : Element → X) → ((n : ℕ) (x : Signal) → slice_get (signals S) n ≡ Some x → IsSame f g n x) → AreAlike S F f g
  are_alike f g same = record {
    all = same_all f g (free.free_from F) (λ k a. a) free_by (λ n. refl) (λ n s ss. refl) (λ k a b h. h) same;
    inputs = same_all f g (free.inputs_from F) free.if_input if_input (λ n. refl) (λ n s ss. refl) (inputs_chosen f g) same;
    registers = same_all f g (free.registers_from F) free.if_register if_register (λ n. refl) (λ n s ss. refl) (registers_chosen f g) same;
  }

  module _ (numbers : NumbersAll) (typed : AreTyped S) where
    pub widths_same : AreAlike S F (λ (e : FreeElement). e.width) width_of
    widths_same = are_alike (λ (e : FreeElement). e.width) width_of (λ n x at m. width_is numbers x.names x.type (typed.signals_have x (get_in (signals S) n x at)))

    pub names_same : IsFormed F → AreAlike S F (free.name_of F) name_of
    names_same formed = are_alike (free.name_of F) name_of (λ n x at m. named n x at m)
      where
        named : (n : ℕ) (x : Signal) → slice_get (signals S) n ≡ Some x → (m : ℕ) → name_in (slice_get F.signals n) m ≡ name_of (element_of x m)
        named n x at m =
            let flat_at = get_map (flat_signal S) (signals S) n x at in
            ap (λ (o : Option SignalTree). name_in o m) flat_at
            ∙ ap (λ (l : List ℕ). free.dotted x.path ++ l)
            (brackets_by numbers x.names x.type (typed.signals_have x (get_in (signals S) n x at)) (flat_signal S x).kind (flat_signal S x).place (formed.signals n (flat_signal S x) flat_at).count m)

-- so it is in a flat design of a source
pub named_alike : (S : SourceTree) (F : FlatTree) → IsElaborated S F → IsRegular S → ((x : Path) → count x (signal_paths S) ≤ 1) → AreGiven F (given_of S nothing nothing) → NumbersAll → AreTyped S → IsFormed F →
    AreAlike S F (free.name_of F) name_of
named_alike S F is regular once given numbers typed formed =
    stated S F (λ (G : FlatTree). AreAlike S G (free.name_of G) name_of) is
    (names_same S regular.vectors once F.order (to_stated S F (λ (G : FlatTree). AreGiven G (given_of S nothing nothing)) is given) numbers typed (to_stated S F IsFormed is formed))

pub wide_alike : (S : SourceTree) (F : FlatTree) → IsElaborated S F → IsRegular S → ((x : Path) → count x (signal_paths S) ≤ 1) → AreGiven F (given_of S nothing nothing) → NumbersAll → AreTyped S →
    AreAlike S F (λ (e : FreeElement). e.width) width_of
wide_alike S F is regular once given numbers typed =
    stated S F (λ (G : FlatTree). AreAlike S G (λ (e : FreeElement). e.width) width_of) is
    (widths_same S regular.vectors once F.order (to_stated S F (λ (G : FlatTree). AreGiven G (given_of S nothing nothing)) is given) numbers typed)

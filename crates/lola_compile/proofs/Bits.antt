-- The bits of a flat design's tables are those of the source's values.
use Rattle.std.proofs.Common.{◌≡◌, ◌≢◌, ℕ, zero, suc, ◌<◌, Bool, true, false, List, [], ◌∷◌, ◌++◌, map, flat_map, length, take, reverse, get_or, Option, Some, None, refl, sym, ◌∙◌, ap, ap₂, subst, inl, inr, append-nil, append_assoc, arith}
use Rattle.std.specs.Prelude.{cond, ◌&&◌, not, nat_eq, nat_lt, bytes_eq, slice_get}
use Rattle.std.proofs.lemmas.Bool.{cases_Bool, eqb-true, and_parts, ltb-true, lt-ltb}
use Rattle.std.proofs.lemmas.Grind.{flat_map-append}
use Rattle.std.proofs.lemmas.List.{length-map, take_at}
use Rattle.std.proofs.lemmas.List.Folds.{flat_map-map}
use Rattle.lola_bits.specs.Lists.{IsIn}
use Rattle.lola_bits.proofs.Names.{is_same_name}
use Rattle.lola_flat.specs.Numbers.{first_numbers}
use Rattle.lola_flat.specs.Tree.{SignalTree, FlatTree}
use Rattle.lola_flat.specs.Signals.{IsClock}
use Rattle.lola_flat.specs.Cycle.{IsGivenTo, AreGiven}
use Rattle.lola_lower.specs.Sources.{is_clock_path, is_input, is_register, is_pad, is_wire, has_input, has_latch}
use Rattle.lola_lower.specs.Cycles.{bits_down, element_bits, bits_of, bits_in, outside_in}
use Rattle.lola_lower.specs.Cycles as lowered
use Rattle.lola_tree.specs.declared.named.Shape.{Shape}
use Rattle.lola_tree.specs.declared.named.Shape.TheVariants.{Vector, Array}
use Rattle.lola_tree.specs.Tree.{ModuleTree, SourceTree}
use Rattle.lola_tree.specs.Names.{Names, names_of, count_number}
use Rattle.lola_tree.specs.Width.{is_width, checked_width}
use Rattle.lola_tree.specs.Value.{Path, Values, or_zero}
use Rattle.lola_tree.specs.design.Clocks.{clocks_in, clock_ports}
use Rattle.lola_tree.specs.design.Signals.{Kind, clock, input, pad, wire, register, Signal, signals, root_signals, root_ports, root_port, local_signals, signals_inside, elements}
use Rattle.lola_design.specs.Regular.{IsVector}
use Rattle.lola_unfold.specs.Translated.{small}
use Rattle.lola_unfold.specs.Flat.{flat_kind, flat_width, flat_signal, flat_design, port_count}
use Rattle.lola_meaning.specs.Typed.{HasWidth}
use Rattle.lola_meaning.specs.Tables.{elements_of, shown_by, table_of, given_by, given_of, outside_by, outside_of, stored_by, state_of}
use Rattle.lola_states.specs.States.{width_by}
use Rattle.lola_compile.specs.Bits.{signal_bits, if_input, if_register, if_wire, if_pad, of_some, ports_of, input_bits, register_bits, output_bits, pad_bits}

-- a width that is checked is small
checked_small : (o : Option ℕ) (w : ℕ) → checked_width o ≡ Some w → small (or_zero o) ≡ w
checked_small None w e = absurd (cc)
checked_small (Some n) w e = elim (cases_Bool (is_width n)) [
  | inl is_so ↦
      let some : Some n ≡ Some w = sym (ap (λ b. cond b (Some n) None) is_so) ∙ e in
      let same : n ≡ w = cc in
      let below : n < 129 = ltb-true n 129 (and_parts (nat_lt 0 n) (nat_lt n 129) is_so).1 in
      let less : nat_lt n 1025 ≡ true = lt-ltb n 1025 (omega (arith, below)) in
      ap (λ b. cond b n 0) less ∙ same
  | inr not_so ↦ absurd (let none : None ≡ Some w = sym (ap (λ b. cond b (Some n) None) not_so) ∙ e in cc)
]

-- the width of a type
pub width_is : (names : Names) (type : Shape) → HasWidth names type → flat_width names type ≡ width_by names type
width_is names (Vector width) has = checked_small (count_number names width) has.0 has.1 ∙ sym (ap or_zero has.1)
width_is names (Array count_ width) has = checked_small (count_number names width) has.0 has.2 ∙ sym (ap or_zero has.2)

-- the bits of a signal
pub bits_are : (v : Values) (x : Signal) → flat_width x.names x.type ≡ width_by x.names x.type → element_bits (flat_width x.names x.type) (elements_of v x) ≡ signal_bits v x
bits_are v x wide =
    flat_map-map (bits_down (flat_width x.names x.type)) (v x.path) (first_numbers (elements x.names x.type))
    ∙ ap (λ (w : ℕ). flat_map (λ (n : ℕ). bits_down w (v x.path n)) (first_numbers (elements x.names x.type))) wide

-- a vector has one element
pub one_value : (v : Values) (x : Signal) → IsVector x.type → elements_of v x ≡ v x.path 0 ∷ []
one_value v x is = by_type x.type is
  where
    by_type : (type : Shape) → IsVector type → map (v x.path) (first_numbers (elements x.names type)) ≡ v x.path 0 ∷ []
    by_type (Vector width) is = refl
    by_type (Array count_ width) is = absurd is

-- the test for the clock
from_test : (clock_ : Option (List ℕ)) (path : Path) → is_clock_path clock_ path ≡ true → (name : List ℕ) × ((clock_ ≡ Some name) × (path ≡ name ∷ []))
from_test None path is = absurd (cc)
from_test (Some name) [] is = absurd (cc)
from_test (Some name) (first ∷ []) is = (name, (refl, ap (λ (x : List ℕ). x ∷ []) (is_same_name first name is)))
from_test (Some name) (first ∷ second ∷ more) is =
    absurd (let none : suc (length more) ≡ 0 = eqb-true (suc (length more)) 0 (and_parts (nat_eq (suc (length more)) 0) (bytes_eq first name) is).0 in omega (arith, none))

-- which of two the test takes
same_either : (b : Bool) (bits : List Bool) → cond b bits bits ≡ bits
same_either true bits = refl
same_either false bits = refl

-- tables over signals
module _ (flat : Signal → SignalTree) where
  -- what holds at each number holds of each signal
  pub each_given : (P : SignalTree → List ℕ → Type 0) (g : Signal → List ℕ) (xs : List Signal) → ((n : ℕ) (s : SignalTree) → slice_get (map flat xs) n ≡ Some s → P s (get_or (map g xs) n [])) → (x : Signal) → IsIn x xs → P (flat x) (g x)
  each_given P g [] all x there = absurd there
  each_given P g (y ∷ ys) all x (inl same) = subst (λ (z : Signal). P (flat z) (g z)) (sym same) (all 0 (flat y) refl)
  each_given P g (y ∷ ys) all x (inr later) = each_given P g ys (λ n s is. all (suc n) s is) x later

  -- bits in signal order, and those at a number
  pub in_order : (among : SignalTree → Bool) (g : Signal → List ℕ) (h : Signal → List Bool) (xs : List Signal) → ((x : Signal) → IsIn x xs → cond (among (flat x)) (element_bits (flat x).width (g x)) [] ≡ h x) → bits_of among (map flat xs) (map g xs) ≡ flat_map h xs
  in_order among g h [] same = refl
  in_order among g h (x ∷ xs) same = ap₂ (λ (a b : List Bool). a ++ b) (same x (inl refl)) (in_order among g h xs (λ y later. same y (inr later)))

  pub at_number : (among : SignalTree → Bool) (g : Signal → List ℕ) (h : Signal → List Bool) (xs : List Signal) → ((x : Signal) → IsIn x xs → cond (among (flat x)) (element_bits (flat x).width (g x)) [] ≡ h x) → (n : ℕ) → bits_in among (slice_get (map flat xs) n) (get_or (map g xs) n []) ≡ of_some h (slice_get xs n)
  at_number among g h [] same n = refl
  at_number among g h (x ∷ xs) same zero = same x (inl refl)
  at_number among g h (x ∷ xs) same (suc n) = at_number among g h xs (λ y later. same y (inr later)) n

  -- and of what comes from outside, one number each
  pub at_outside : (g : Signal → ℕ) (h : Signal → List Bool) (xs : List Signal) → ((x : Signal) → IsIn x xs → cond (is_pad (flat x).kind) (element_bits (flat x).width (g x ∷ [])) [] ≡ h x) → (n : ℕ) →
      outside_in (slice_get (map flat xs) n) (get_or (map g xs) n 0) ≡ of_some h (slice_get xs n)
  at_outside g h [] same n = refl
  at_outside g h (x ∷ xs) same zero = ap (λ (l : List Bool). cond (is_pad (flat x).kind) l []) (sym (append-nil (bits_down (flat x).width (g x)))) ∙ same x (inl refl)
  at_outside g h (x ∷ xs) same (suc n) = at_outside g h xs (λ y later. same y (inr later)) n

-- the signals of the first numbers
one_more : (h : Signal → List Bool) (zs : List Signal) (k : ℕ) → flat_map h (take (suc k) zs) ≡ flat_map h (take k zs) ++ of_some h (slice_get zs k)
one_more h [] zero = refl
one_more h [] (suc k) = refl
one_more h (x ∷ zs) zero = append-nil (h x)
one_more h (x ∷ zs) (suc k) = ap (λ (l : List Bool). h x ++ l) (one_more h zs k) ∙ sym (append_assoc (h x) (flat_map h (take k zs)) (of_some h (slice_get zs k)))

pub first_ones : (h : Signal → List Bool) (zs : List Signal) (k : ℕ) → flat_map (λ (n : ℕ). of_some h (slice_get zs n)) (first_numbers k) ≡ flat_map h (take k zs)
first_ones h zs zero = refl
first_ones h zs (suc k) =
    flat_map-append (λ (n : ℕ). of_some h (slice_get zs n)) (first_numbers k) (k ∷ [])
    ∙ ap₂ (λ (a b : List Bool). a ++ b) (first_ones h zs k) (append-nil (of_some h (slice_get zs k)))
    ∙ sym (one_more h zs k)

-- the ports of the root stand first
ports_first : (modules : List ModuleTree) → take (port_count modules) (root_signals modules) ≡ ports_of modules
ports_first [] = refl
ports_first (m ∷ earlier) =
    take_at (root_ports (names_of m) (clocks_in (clock_ports earlier) m) m.ports) (local_signals (signals_inside earlier) (names_of m) [] m.locals) (length m.ports)
    (length-map m.ports (root_port (names_of m) (clocks_in (clock_ports earlier) m)))

module _ (S : SourceTree) (order : List ℕ) (widths : (x : Signal) → IsIn x (signals S) → HasWidth x.names x.type) (vectors : (x : Signal) → IsIn x (signals S) → x.kind ≢ register → IsVector x.type) where
  abbrev F : FlatTree
  F = flat_design S order

  its_bits : (v : Values) (x : Signal) → IsIn x (signals S) → element_bits (flat_width x.names x.type) (elements_of v x) ≡ signal_bits v x
  its_bits v x there = bits_are v x (width_is x.names x.type (widths x there))

  one_bits : (v : Values) (x : Signal) → IsIn x (signals S) → IsVector x.type → element_bits (flat_width x.names x.type) (v x.path 0 ∷ []) ≡ signal_bits v x
  one_bits v x there is = sym (ap (element_bits (flat_width x.names x.type)) (one_value v x is)) ∙ its_bits v x there

  -- of registers
  by_register : (k : Kind) (wide : ℕ) (stored entered : List ℕ) (bits : List Bool) → element_bits wide stored ≡ bits → cond (is_register (flat_kind k)) (element_bits wide (given_by k stored entered)) [] ≡ if_register k bits
  by_register clock wide stored entered bits same = refl
  by_register input wide stored entered bits same = refl
  by_register pad wide stored entered bits same = refl
  by_register wire wide stored entered bits same = refl
  by_register register wide stored entered bits same = same

  pub given_registers : (s inp : Values) → lowered.register_bits F (given_of S s inp) ≡ register_bits S s
  given_registers s inp =
      in_order (flat_signal S) has_latch (λ (x : Signal). given_by x.kind (elements_of s x) (elements_of inp x)) (λ (x : Signal). if_register x.kind (signal_bits s x)) (signals S)
      (λ x there. by_register x.kind (flat_width x.names x.type) (elements_of s x) (elements_of inp x) (signal_bits s x) (its_bits s x there))

  by_stored : (k : Kind) (wide : ℕ) (stored : List ℕ) (bits : List Bool) → element_bits wide stored ≡ bits → cond (is_register (flat_kind k)) (element_bits wide (stored_by k stored)) [] ≡ if_register k bits
  by_stored clock wide stored bits same = refl
  by_stored input wide stored bits same = refl
  by_stored pad wide stored bits same = refl
  by_stored wire wide stored bits same = refl
  by_stored register wide stored bits same = same

  pub next_registers : (s : Values) → lowered.register_bits F (state_of S s) ≡ register_bits S s
  next_registers s =
      in_order (flat_signal S) has_latch (λ (x : Signal). stored_by x.kind (elements_of s x)) (λ (x : Signal). if_register x.kind (signal_bits s x)) (signals S)
      (λ x there. by_stored x.kind (flat_width x.names x.type) (elements_of s x) (signal_bits s x) (its_bits s x there))

  -- of inputs: an input isn't the clock, since it is given a value
  module _ (s inp : Values) (given : AreGiven F (given_of S s inp)) where
    abbrev gives : Signal → List ℕ
    gives x = given_by x.kind (elements_of s x) (elements_of inp x)

    never_clock : (x : Signal) → IsIn x (signals S) → (k : Kind) → x.kind ≡ k → k ≡ input → IsClock F (flat_signal S x) → ⊥
    never_clock x there k kind is clock_ =
        let all = each_given (flat_signal S) (λ (t : SignalTree) (ns : List ℕ). IsGivenTo F t t.kind ns) gives (signals S) given.each x there in
        let its = subst (λ (j : Kind). IsGivenTo F (flat_signal S x) (flat_kind j) (given_by j (elements_of s x) (elements_of inp x))) (kind ∙ is) all in
        let empty : elements_of inp x ≡ [] = its.1.0 clock_ in
        let one = one_value inp x (vectors x there (λ (e : x.kind ≡ register). let no : input ≡ register = sym (kind ∙ is) ∙ e in cc)) in
        let none : inp x.path 0 ∷ [] ≡ [] = sym one ∙ empty in
        cc

    by_input : (x : Signal) → IsIn x (signals S) → (k : Kind) → x.kind ≡ k → cond (is_input (flat_kind k) && not (is_clock_path F.clock x.path)) (element_bits (flat_width x.names x.type) (given_by k (elements_of s x) (elements_of inp x))) [] ≡ if_input k (signal_bits inp x)
    by_input x there clock kind = same_either (not (is_clock_path F.clock x.path)) []
    by_input x there pad kind = refl
    by_input x there wire kind = refl
    by_input x there register kind = refl
    by_input x there input kind = elim (cases_Bool (is_clock_path F.clock x.path)) [
      | inl is_so ↦ absurd (never_clock x there input kind refl (from_test F.clock x.path is_so))
      | inr not_so ↦ ap (λ (b : Bool). cond (not b) (element_bits (flat_width x.names x.type) (elements_of inp x)) []) not_so ∙ its_bits inp x there
    ]

    pub given_inputs : lowered.input_bits F (given_of S s inp) ≡ input_bits S inp
    given_inputs = in_order (flat_signal S) (has_input F) gives (λ (x : Signal). if_input x.kind (signal_bits inp x)) (signals S) (λ x there. by_input x there x.kind refl)

  -- of pads, from outside and in a cycle
  by_outside : (v : Values) (x : Signal) → IsIn x (signals S) → (k : Kind) → x.kind ≡ k → cond (is_pad (flat_kind k)) (element_bits (flat_width x.names x.type) (outside_by k (v x.path 0) ∷ [])) [] ≡ if_pad k (signal_bits v x)
  by_outside v x there clock kind = refl
  by_outside v x there input kind = refl
  by_outside v x there wire kind = refl
  by_outside v x there register kind = refl
  by_outside v x there pad kind = one_bits v x there (vectors x there (λ (e : x.kind ≡ register). let no : pad ≡ register = sym kind ∙ e in cc))

  pub outside_pads : (inp : Values) → lowered.outside_bits F (outside_of S inp) ≡ pad_bits S order inp
  outside_pads inp =
      λ i. flat_map (λ (n : ℕ). at_outside (flat_signal S) (λ (x : Signal). outside_by x.kind (inp x.path 0)) (λ (x : Signal). if_pad x.kind (signal_bits inp x)) (signals S) (λ x there. by_outside inp x there x.kind refl) n i) order

  by_pad : (k : Kind) (wide : ℕ) (values : List ℕ) (bits : List Bool) → element_bits wide values ≡ bits → cond (is_pad (flat_kind k)) (element_bits wide (shown_by k values)) [] ≡ if_pad k bits
  by_pad clock wide values bits same = refl
  by_pad input wide values bits same = refl
  by_pad pad wide values bits same = same
  by_pad wire wide values bits same = refl
  by_pad register wide values bits same = refl

  pub shown_pads : (v : Values) → lowered.pad_bits F (table_of S v) ≡ pad_bits S order v
  shown_pads v =
      λ i. flat_map (λ (n : ℕ). at_number (flat_signal S) (λ (t : SignalTree). is_pad t.kind) (λ (x : Signal). shown_by x.kind (elements_of v x)) (λ (x : Signal). if_pad x.kind (signal_bits v x)) (signals S)
      (λ x there. by_pad x.kind (flat_width x.names x.type) (elements_of v x) (signal_bits v x) (its_bits v x there)) n i) order

  -- of outputs
  by_wire : (k : Kind) (wide : ℕ) (values : List ℕ) (bits : List Bool) → element_bits wide values ≡ bits → cond (is_wire (flat_kind k)) (element_bits wide (shown_by k values)) [] ≡ if_wire k bits
  by_wire clock wide values bits same = refl
  by_wire input wide values bits same = refl
  by_wire pad wide values bits same = refl
  by_wire wire wide values bits same = same
  by_wire register wide values bits same = refl

  abbrev shown_wire : Values → Signal → List Bool
  shown_wire v x = if_wire x.kind (signal_bits v x)

  pub shown_outputs : (v : Values) → lowered.output_bits F (table_of S v) ≡ output_bits S v
  shown_outputs v =
      (λ i. flat_map (λ (n : ℕ). at_number (flat_signal S) (λ (t : SignalTree). is_wire t.kind) (λ (x : Signal). shown_by x.kind (elements_of v x)) (shown_wire v) (signals S)
      (λ x there. by_wire x.kind (flat_width x.names x.type) (elements_of v x) (signal_bits v x) (its_bits v x there)) n i) (first_numbers (port_count (reverse S.modules))))
      ∙ first_ones (shown_wire v) (signals S) (port_count (reverse S.modules))
      ∙ ap (flat_map (shown_wire v)) (ports_first (reverse S.modules))

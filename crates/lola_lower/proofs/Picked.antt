-- What a net shows where its nodes have some values: pads what they carry, latches the values of their next literals, outputs those of their literals.
use Rattle.std.proofs.Common.{◌≡◌, ℕ, zero, suc, ◌+◌, Bool, true, false, cond, List, [], ◌∷◌, ◌++◌, length, map, flat_map, replicate, get_or, Option, Some, None, refl, sym, ◌∙◌, ap, ap₂, subst, arith, append_assoc, append-nil}
use Rattle.std.specs.Prelude.{reverse, slice_get}
use Rattle.std.specs.Option.{option_to_list}
use Rattle.std.specs.List.{AllByRecursion}
use Rattle.std.proofs.lemmas.List.{map-append, length-map}
use mathlib.Core.List.{reverse-cons}
use Rattle.lola_bits.specs.BitLists.{number_of}
use Rattle.lola_net.specs.declared.node.Node.{Node}
use Rattle.lola_net.specs.declared.node.Node.TheVariants.{Free, Latch, Pad, Gate}
use Rattle.lola_net.specs.Literals.{at_literal}
use Rattle.lola_net.specs.Run.{Sources, node_values, pad_bit, next_bit, picked}
use Rattle.lola_gate.specs.Gates.{with_next}
use Rattle.lola_flat.specs.Tree.{SignalTree}
use Rattle.lola_lower.specs.Names.{stem, bit_name}
use Rattle.lola_lower.specs.Sources.{has_latch}
use Rattle.lola_lower.specs.Steps.{literals_down, outputs_down, outputs_from}
use Rattle.lola_lower.specs.Named.{latch_name, pad_name}
use Rattle.lola_lower.specs.Cycles.{bits_down, element_bits, bits_of}
use Rattle.lola_lower.proofs.Bits.{reverse_down}
use Rattle.lola_lower.proofs.Grown.{IsGate, Grown}
use Rattle.lola_lower.proofs.NodeNames.{grown_names}
use Rattle.lola_lower.proofs.Rests.{IsPadNode}
use Rattle.lola_lower.proofs.Rows.{number_by, numbers_by}
use Rattle.lola_lower.proofs.Shown.{values_long}
use Rattle.lola_lower.proofs.Started.{rest_after, after_both, values_behind}

pub picked_both : (bit : Node → Bool → Option Bool) (xs ys : List Node) (us vs : List Bool) → length us ≡ length xs → picked bit (xs ++ ys) (us ++ vs) ≡ picked bit xs us ++ picked bit ys vs
picked_both bit [] ys [] vs long = refl
picked_both bit [] ys (u ∷ us) vs long = absurd (omega arith)
picked_both bit (x ∷ xs) ys [] vs long = absurd (omega arith)
picked_both bit (x ∷ xs) ys (u ∷ us) vs long =
    ap (λ (l : List Bool). option_to_list (bit x u) ++ l) (picked_both bit xs ys us vs (omega arith)) ∙ sym (append_assoc (option_to_list (bit x u)) (picked bit xs us) (picked bit ys vs))

-- without pads nothing is shown of pads
pub no_pads : (xs : List Node) (us : List Bool) → flat_map pad_name xs ≡ [] → picked pad_bit xs us ≡ []
no_pads [] us none = refl
no_pads (x ∷ xs) [] none = refl
no_pads (Free name ∷ xs) (u ∷ us) none = no_pads xs us none
no_pads (Latch name next ∷ xs) (u ∷ us) none = no_pads xs us none
no_pads (Gate a b ∷ xs) (u ∷ us) none = no_pads xs us none
no_pads (Pad name v r ∷ xs) (u ∷ us) none = absurd (let e : name ∷ flat_map pad_name xs ≡ [] = none in cc)

-- and where all are pads, all values
pub all_pads : (xs : List Node) (us : List Bool) → AllByRecursion IsPadNode xs → length us ≡ length xs → picked pad_bit xs us ≡ us
all_pads [] [] all long = refl
all_pads [] (u ∷ us) all long = absurd (omega arith)
all_pads (x ∷ xs) [] all long = absurd (omega arith)
all_pads (Pad name v r ∷ xs) (u ∷ us) all long = ap (λ (l : List Bool). u ∷ l) (all_pads xs us all.1 (omega arith))
all_pads (Free name ∷ xs) (u ∷ us) all long = absurd (let h : false ≡ true = all.0 in cc)
all_pads (Latch name next ∷ xs) (u ∷ us) all long = absurd (let h : false ≡ true = all.0 in cc)
all_pads (Gate a b ∷ xs) (u ∷ us) all long = absurd (let h : false ≡ true = all.0 in cc)

-- gates behind nodes change nothing of what pads show
pub grown_pads : (s : Sources) (d e : List Node) → Grown d e → picked pad_bit e (node_values s e) ≡ picked pad_bit d (node_values s d)
grown_pads s d e g =
    let b = values_behind (rest_after s d) (node_values s d) g.more in
    ap (λ x. picked pad_bit x (node_values s x)) g.is
    ∙ ap (picked pad_bit (d ++ g.more)) (after_both s [] d g.more ∙ b.is)
    ∙ picked_both pad_bit d g.more (node_values s d) b.more (values_long s d)
    ∙ ap (λ (l : List Bool). picked pad_bit d (node_values s d) ++ l) (no_pads g.more b.more (gates_named g.more g.gates_only))
    ∙ append-nil (picked pad_bit d (node_values s d))
  where
    gates_named : (xs : List Node) → AllByRecursion IsGate xs → flat_map pad_name xs ≡ []
    gates_named xs all = grown_names pad_name (λ a b. refl) [] xs (record { more = xs; is = refl; gates_only = all })

-- next literals are no matter to pads, and latches show them
pub next_pads : (next : List ℕ) (xs : List Node) (us : List Bool) → picked pad_bit (with_next next xs) us ≡ picked pad_bit xs us
next_pads next [] us = refl
next_pads next (Free name ∷ xs) [] = refl
next_pads next (Latch name old ∷ xs) [] = refl
next_pads next (Pad name v r ∷ xs) [] = refl
next_pads next (Gate a b ∷ xs) [] = refl
next_pads next (Free name ∷ xs) (u ∷ us) = next_pads next xs us
next_pads [] (Latch name old ∷ xs) (u ∷ us) = next_pads [] xs us
next_pads (l ∷ next) (Latch name old ∷ xs) (u ∷ us) = next_pads next xs us
next_pads next (Pad name v r ∷ xs) (u ∷ us) = ap (λ (l : List Bool). u ∷ l) (next_pads next xs us)
next_pads next (Gate a b ∷ xs) (u ∷ us) = next_pads next xs us

pub next_taken : (V : List Bool) (next : List ℕ) (xs : List Node) (us : List Bool) → length next ≡ length (flat_map latch_name xs) → length us ≡ length xs → picked (next_bit V) (with_next next xs) us ≡ map (at_literal V) next
next_taken V [] [] us many long = refl
next_taken V (l ∷ next) [] us many long = absurd (omega arith)
next_taken V next (x ∷ xs) [] many long = absurd (omega arith)
next_taken V next (Free name ∷ xs) (u ∷ us) many long = next_taken V next xs us many (omega arith)
next_taken V [] (Latch name old ∷ xs) (u ∷ us) many long = absurd (omega arith)
next_taken V (l ∷ next) (Latch name old ∷ xs) (u ∷ us) many long = ap (λ (bs : List Bool). at_literal V l ∷ bs) (next_taken V next xs us (omega arith) (omega arith))
next_taken V next (Pad name v r ∷ xs) (u ∷ us) many long = next_taken V next xs us many (omega arith)
next_taken V next (Gate a b ∷ xs) (u ∷ us) many long = next_taken V next xs us many (omega arith)

-- the values of literals from the highest bit down are the bits of a number
module _ (V : List Bool) where
  turned_values : (bits : List ℕ) → map (at_literal V) (reverse bits) ≡ reverse (map (at_literal V) bits)
  turned_values [] = refl
  turned_values (b ∷ bits) =
      ap (map (at_literal V)) (reverse-cons b bits) ∙ map-append (at_literal V) (reverse bits) (b ∷ [])
      ∙ ap (λ (l : List Bool). l ++ at_literal V b ∷ []) (turned_values bits) ∙ sym (reverse-cons (at_literal V b) (map (at_literal V) bits))

  pub vector_down : (w : ℕ) (bits : List ℕ) → length bits ≡ w → map (at_literal V) (reverse bits) ≡ bits_down w (number_by V bits)
  vector_down w bits long =
      turned_values bits ∙ reverse_down (map (at_literal V) bits) ∙ ap (λ k. bits_down k (number_by V bits)) (length-map bits (at_literal V) ∙ long)

  pub elements_down : (w count : ℕ) (vectors : List (List ℕ)) → map length vectors ≡ replicate count w → map (at_literal V) (literals_down vectors) ≡ element_bits w (numbers_by V vectors)
  elements_down w count [] wide = refl
  elements_down w zero (x ∷ xs) wide = absurd (let e : length x ∷ map length xs ≡ [] = wide in cc)
  elements_down w (suc count) (x ∷ xs) wide =
      let e : length x ∷ map length xs ≡ w ∷ replicate count w = wide in
      let head : length x ≡ w = cc in
      let tail : map length xs ≡ replicate count w = cc in
      map-append (at_literal V) (reverse x) (literals_down xs) ∙ ap₂ (λ (a b : List Bool). a ++ b) (vector_down w x head) (elements_down w count xs tail)

  -- and so are those of outputs
  bits_shown : (text : List ℕ) (bit : ℕ) (bits : List ℕ) → map (λ (o : List ℕ × ℕ). at_literal V o.1) (outputs_down text bit bits) ≡ map (at_literal V) (reverse bits)
  bits_shown text bit [] = refl
  bits_shown text bit (b ∷ bits) =
      map-append (λ (o : List ℕ × ℕ). at_literal V o.1) (outputs_down text (suc bit) bits) ((bit_name text bit, b) ∷ [])
      ∙ ap (λ (l : List Bool). l ++ at_literal V b ∷ []) (bits_shown text (suc bit) bits)
      ∙ sym (ap (map (at_literal V)) (reverse-cons b bits) ∙ map-append (at_literal V) (reverse bits) (b ∷ []))

  pub elements_shown : (s : SignalTree) (element : ℕ) (vectors : List (List ℕ)) → map (λ (o : List ℕ × ℕ). at_literal V o.1) (outputs_from s element vectors) ≡ map (at_literal V) (literals_down vectors)
  elements_shown s element [] = refl
  elements_shown s element (x ∷ xs) =
      map-append (λ (o : List ℕ × ℕ). at_literal V o.1) (outputs_down (stem s element) 0 x) (outputs_from s (suc element) xs)
      ∙ ap₂ (λ (a b : List Bool). a ++ b) (bits_shown (stem s element) 0 x) (elements_shown s (suc element) xs)
      ∙ sym (map-append (at_literal V) (reverse x) (literals_down xs))

  -- the bits of a state, signal by signal
  pub state_down : (signals : List SignalTree) (next : List (List (List ℕ))) (after : List (List ℕ)) → length next ≡ length signals → length after ≡ length signals →
      ((k : ℕ) (s : SignalTree) → slice_get signals k ≡ Some s → map (at_literal V) (literals_down (get_or next k [])) ≡ cond (has_latch s) (element_bits s.width (get_or after k [])) []) →
      map (at_literal V) (flat_map literals_down next) ≡ bits_of has_latch signals after
  state_down [] [] after p q each = refl
  state_down [] (x ∷ next) after p q each = absurd (omega arith)
  state_down (s ∷ signals) [] after p q each = absurd (omega arith)
  state_down (s ∷ signals) (x ∷ next) [] p q each = absurd (omega arith)
  state_down (s ∷ signals) (x ∷ next) (ns ∷ after) p q each =
      map-append (at_literal V) (literals_down x) (flat_map literals_down next)
      ∙ ap₂ (λ (a b : List Bool). a ++ b) (each 0 s refl) (state_down signals next after (omega arith) (omega arith) (λ k. each (suc k)))

pub map_flat : {X Y Z : Type 0} (f : Y → Z) (g : X → List Y) (xs : List X) → map f (flat_map g xs) ≡ flat_map (λ x. map f (g x)) xs
map_flat f g [] = refl
map_flat f g (x ∷ xs) = map-append f (g x) (flat_map g xs) ∙ ap (λ l. map f (g x) ++ l) (map_flat f g xs)

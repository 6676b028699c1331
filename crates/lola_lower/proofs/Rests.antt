-- What is left of what comes in behind inputs, registers and pads, and the values of the nodes before the signals.
use Rattle.std.proofs.Common.{◌≡◌, ◌≢◌, ◌⊎◌, ℕ, zero, suc, ◌+◌, ◌*◌, ◌<◌, ◌≤◌, ◌^◌, Bool, true, false, cond, not, ◌&&◌, List, [], ◌∷◌, ◌++◌, length, map, flat_map, get_or, Option, Some, None, inl, inr, refl, sym, ◌∙◌, ap, ap₂, subst, arith, append_assoc, append-nil}
use Rattle.std.specs.Prelude.{slice_get, nat_eq, bytes_eq}
use Rattle.std.specs.List.{AllByRecursion}
use Rattle.std.proofs.lemmas.Bool.{and_parts, and_from, eq-eqb}
use Rattle.std.proofs.lemmas.Slice.Eq.{bytes_eq-Decides}
use Rattle.lola_bits.proofs.All.{all_append}
use Rattle.lola_net.specs.declared.node.Node.{Node}
use Rattle.lola_net.specs.declared.node.Node.TheVariants.{Free, Latch, Pad, Gate}
use Rattle.lola_net.specs.Run.{Sources, values_after, node_values}
use Rattle.lola_flat.specs.declared.design.SigKind.{SigKind}
use Rattle.lola_flat.specs.declared.design.SigKind.TheVariants.{Input, Pad as PadKind, Wire, Register}
use Rattle.lola_flat.specs.Tree.{SignalTree, FlatTree}
use Rattle.lola_flat.specs.Signals.{IsSignal, IsClock}
use Rattle.lola_flat.specs.Cycle.{HasValues, IsGivenTo, AreGiven}
use Rattle.lola_lower.specs.Names.{bit_name, signal_names}
use Rattle.lola_lower.specs.Sources.{is_clock_path, is_input, is_register, has_input, has_latch, input_nodes, latch_nodes, all_inputs, all_latches, source_nodes}
use Rattle.lola_lower.specs.Steps.{pads_down}
use Rattle.lola_lower.specs.Cycles.{bits_of, element_bits, input_bits, register_bits}
use Rattle.lola_lower.proofs.Given.{signal_long}
use Rattle.lola_lower.proofs.Rows.{elements_long}
use Rattle.lola_lower.proofs.Shown.{values_long}
use Rattle.lola_lower.proofs.Started.{sources, rest_after, rest_both, inputs_take, registers_take}

frees_rest : (names : List (List ℕ)) (bits : List Bool) → length bits ≡ length names → (state more outside : List Bool) →
    rest_after (sources state (bits ++ more) outside) (map (λ (name : List ℕ). Free name) names) ≡ sources state more outside
frees_rest [] [] long state more outside = refl
frees_rest [] (b ∷ bits) long state more outside = absurd (omega arith)
frees_rest (name ∷ names) [] long state more outside = absurd (omega arith)
frees_rest (name ∷ names) (b ∷ bits) long state more outside = frees_rest names bits (omega arith) state more outside

latches_rest : (names : List (List ℕ)) (bits : List Bool) → length bits ≡ length names → (inputs more outside : List Bool) →
    rest_after (sources (bits ++ more) inputs outside) (map (λ (name : List ℕ). Latch name 0) names) ≡ sources more inputs outside
latches_rest [] [] long inputs more outside = refl
latches_rest [] (b ∷ bits) long inputs more outside = absurd (omega arith)
latches_rest (name ∷ names) [] long inputs more outside = absurd (omega arith)
latches_rest (name ∷ names) (b ∷ bits) long inputs more outside = latches_rest names bits (omega arith) inputs more outside

-- pads take what comes from outside, and nothing else
abbrev pub is_pad_node : Node → Bool
is_pad_node (Free name) = false
is_pad_node (Latch name next) = false
is_pad_node (Pad name value release) = true
is_pad_node (Gate a b) = false

abbrev pub IsPadNode : Node → Type 0
IsPadNode x = is_pad_node x ≡ true

pub pads_only : (text : List ℕ) (release bit : ℕ) (values : List ℕ) → AllByRecursion IsPadNode (pads_down text release bit values)
pads_only text release bit [] = tt
pads_only text release bit (value ∷ more) = all_append IsPadNode (pads_down text release (suc bit) more) (Pad (bit_name text bit) value release ∷ []) (pads_only text release (suc bit) more) (refl, tt)

pub pads_rest : (nodes : List Node) (bits : List Bool) → AllByRecursion IsPadNode nodes → length bits ≡ length nodes → (state inputs more : List Bool) →
    rest_after (sources state inputs (bits ++ more)) nodes ≡ sources state inputs more
pads_rest [] [] all long state inputs more = refl
pads_rest [] (b ∷ bits) all long state inputs more = absurd (omega arith)
pads_rest (x ∷ nodes) [] all long state inputs more = absurd (omega arith)
pads_rest (Pad name value release ∷ nodes) (b ∷ bits) all long state inputs more = pads_rest nodes bits all.1 (omega arith) state inputs more
pads_rest (Free name ∷ nodes) (b ∷ bits) all long state inputs more = absurd (let h : false ≡ true = all.0 in cc)
pads_rest (Latch name next ∷ nodes) (b ∷ bits) all long state inputs more = absurd (let h : false ≡ true = all.0 in cc)
pads_rest (Gate a c ∷ nodes) (b ∷ bits) all long state inputs more = absurd (let h : false ≡ true = all.0 in cc)

-- what comes into all inputs, and into all registers
module _ (F : FlatTree) where
  inputs_rest : (signals : List SignalTree) (table : List (List ℕ)) → length table ≡ length signals →
      ((k : ℕ) (s : SignalTree) → slice_get signals k ≡ Some s → has_input F s ≡ true → length (element_bits s.width (get_or table k [])) ≡ length (signal_names s)) →
      (state more outside : List Bool) → rest_after (sources state (bits_of (has_input F) signals table ++ more) outside) (flat_map (input_nodes F) signals) ≡ sources state more outside
  inputs_rest [] table long have state more outside = refl
  inputs_rest (x ∷ signals) [] long have state more outside = absurd (omega arith)
  inputs_rest (x ∷ signals) (ns ∷ table) long have state more outside =
      ap (λ i. rest_after (sources state i outside) (input_nodes F x ++ flat_map (input_nodes F) signals)) (append_assoc (cond (has_input F x) (element_bits x.width ns) []) (bits_of (has_input F) signals table) more)
      ∙ rest_both (sources state (cond (has_input F x) (element_bits x.width ns) [] ++ (bits_of (has_input F) signals table ++ more)) outside) (input_nodes F x) (flat_map (input_nodes F) signals)
      ∙ ap (λ r. rest_after r (flat_map (input_nodes F) signals)) (here (has_input F x) refl (bits_of (has_input F) signals table ++ more))
      ∙ inputs_rest signals table (omega arith) (λ j. have (suc j)) state more outside
    where
      here : (t : Bool) → has_input F x ≡ t → (tail : List Bool) → rest_after (sources state (cond t (element_bits x.width ns) [] ++ tail) outside) (cond t (map (λ (name : List ℕ). Free name) (signal_names x)) []) ≡ sources state tail outside
      here true e tail = frees_rest (signal_names x) (element_bits x.width ns) (have 0 x refl e) state tail outside
      here false e tail = refl

  registers_rest : (signals : List SignalTree) (table : List (List ℕ)) → length table ≡ length signals →
      ((k : ℕ) (s : SignalTree) → slice_get signals k ≡ Some s → has_latch s ≡ true → length (element_bits s.width (get_or table k [])) ≡ length (signal_names s)) →
      (inputs more outside : List Bool) → rest_after (sources (bits_of has_latch signals table ++ more) inputs outside) (flat_map latch_nodes signals) ≡ sources more inputs outside
  registers_rest [] table long have inputs more outside = refl
  registers_rest (x ∷ signals) [] long have inputs more outside = absurd (omega arith)
  registers_rest (x ∷ signals) (ns ∷ table) long have inputs more outside =
      ap (λ i. rest_after (sources i inputs outside) (latch_nodes x ++ flat_map latch_nodes signals)) (append_assoc (cond (has_latch x) (element_bits x.width ns) []) (bits_of has_latch signals table) more)
      ∙ rest_both (sources (cond (has_latch x) (element_bits x.width ns) [] ++ (bits_of has_latch signals table ++ more)) inputs outside) (latch_nodes x) (flat_map latch_nodes signals)
      ∙ ap (λ r. rest_after r (flat_map latch_nodes signals)) (here (has_latch x) refl (bits_of has_latch signals table ++ more))
      ∙ registers_rest signals table (omega arith) (λ j. have (suc j)) inputs more outside
    where
      here : (t : Bool) → has_latch x ≡ t → (tail : List Bool) → rest_after (sources (cond t (element_bits x.width ns) [] ++ tail) inputs outside) (cond t (map (λ (name : List ℕ). Latch name 0) (signal_names x)) []) ≡ sources tail inputs outside
      here true e tail = latches_rest (signal_names x) (element_bits x.width ns) (have 0 x refl e) inputs tail outside
      here false e tail = refl

  -- a clock's path is known
  pub clock_known : (s : SignalTree) → is_clock_path F.clock s.path ≡ false → IsClock F s → ⊥
  clock_known s e clock =
      let path : is_clock_path F.clock s.path ≡ bytes_eq clock.0 clock.0 = ap₂ is_clock_path clock.1.0 clock.1.1 in
      let same : bytes_eq clock.0 clock.0 ≡ true = (bytes_eq-Decides clock.0 clock.0).1 refl in
      let both : false ≡ true = sym e ∙ path ∙ same in
      cc

  given_kind : (s : SignalTree) (kind : SigKind) (ns : List ℕ) → IsGivenTo F s kind ns → ((is_input kind && not (is_clock_path F.clock s.path)) ≡ true) ⊎ (is_register kind ≡ true) → HasValues s ns
  given_kind s Input ns fits (inl e) = record { count = fits.1.1 (clock_known s (off (is_clock_path F.clock s.path) e)); below = fits.0 }
    where
      off : (t : Bool) → not t ≡ true → t ≡ false
      off true e = absurd (let h : false ≡ true = e in cc)
      off false e = refl
  given_kind s Input ns fits (inr e) = absurd (let h : false ≡ true = e in cc)
  given_kind s Register ns fits kind = fits
  given_kind s PadKind ns fits (inl e) = absurd (let h : false ≡ true = e in cc)
  given_kind s PadKind ns fits (inr e) = absurd (let h : false ≡ true = e in cc)
  given_kind s Wire ns fits (inl e) = absurd (let h : false ≡ true = e in cc)
  given_kind s Wire ns fits (inr e) = absurd (let h : false ≡ true = e in cc)

  module _ (given : List (List ℕ)) (fits : AreGiven F given) where
    pub given_values : (k : ℕ) (s : SignalTree) → IsSignal F k s → (has_input F s ≡ true) ⊎ (has_latch s ≡ true) → HasValues s (get_or given k [])
    given_values k s is kind = given_kind s s.kind (get_or given k []) (fits.each k s is) kind

    given_wide : (k : ℕ) (s : SignalTree) → IsSignal F k s → (has_input F s ≡ true) ⊎ (has_latch s ≡ true) → length (element_bits s.width (get_or given k [])) ≡ length (signal_names s)
    given_wide k s is kind = elements_long s.width (get_or given k []) ∙ ap (λ c. c * s.width) (given_values k s is kind).count ∙ sym (signal_long s)

    pub start_rest : (outside : List Bool) → rest_after (sources (register_bits F given) (input_bits F given) outside) (source_nodes F) ≡ sources [] [] outside
    start_rest outside =
        rest_both (sources (register_bits F given) (input_bits F given) outside) (all_inputs F) (all_latches F)
        ∙ ap (λ i. rest_after (rest_after (sources (register_bits F given) i outside) (all_inputs F)) (all_latches F)) (sym (append-nil (input_bits F given)))
        ∙ ap (λ r. rest_after r (all_latches F)) (inputs_rest F.signals given fits.long (λ k s is e. given_wide k s is (inl e)) (register_bits F given) [] outside)
        ∙ ap (λ i. rest_after (sources i [] outside) (all_latches F)) (sym (append-nil (register_bits F given)))
        ∙ registers_rest F.signals given fits.long (λ k s is e. given_wide k s is (inr e)) [] [] outside

    pub start_inputs : (outside : List Bool) (ys : List Node) → node_values (sources (register_bits F given) (input_bits F given) outside) (all_inputs F ++ ys) ≡ values_after (sources (register_bits F given) [] outside) (input_bits F given) ys
    start_inputs outside ys =
        ap (λ i. values_after (sources (register_bits F given) i outside) [] (all_inputs F ++ ys)) (sym (append-nil (input_bits F given)))
        ∙ inputs_take F F.signals given fits.long (λ k s is e. given_wide k s is (inl e)) (register_bits F given) [] outside [] ys

    pub start_values : (outside : List Bool) → node_values (sources (register_bits F given) (input_bits F given) outside) (source_nodes F) ≡ input_bits F given ++ register_bits F given
    start_values outside =
        start_inputs outside (all_latches F)
        ∙ ap₂ (λ i l. values_after (sources i [] outside) (input_bits F given) l) (sym (append-nil (register_bits F given))) (sym (append-nil (all_latches F)))
        ∙ registers_take F F.signals given fits.long (λ k s is e. given_wide k s is (inr e)) [] [] outside (input_bits F given) []

    -- as many bits come in as there are inputs
    pub inputs_many : (outside : List Bool) → length (input_bits F given) ≡ length (all_inputs F)
    inputs_many outside =
        sym (ap length (ap (node_values (sources (register_bits F given) (input_bits F given) outside)) (sym (append-nil (all_inputs F))) ∙ start_inputs outside []))
        ∙ values_long (sources (register_bits F given) (input_bits F given) outside) (all_inputs F)

-- so many bits have registers
pub registers_many : (F : FlatTree) (table : List (List ℕ)) → length table ≡ length F.signals →
    ((k : ℕ) (s : SignalTree) → slice_get F.signals k ≡ Some s → has_latch s ≡ true → length (element_bits s.width (get_or table k [])) ≡ length (signal_names s)) →
    length (register_bits F table) ≡ length (all_latches F)
registers_many F table long have =
    sym (ap length (ap₂ (λ i l. node_values (sources i [] []) l) (sym (append-nil (register_bits F table))) (sym (append-nil (all_latches F))) ∙ registers_take F F.signals table long have [] [] [] [] []))
    ∙ values_long (sources (register_bits F table) [] []) (all_latches F)

-- The values of the nodes before the signals: what comes in, bit by bit.
use Rattle.std.proofs.Common.{◌≡◌, ◌≢◌, ◌⊎◌, ℕ, zero, suc, ◌+◌, ◌*◌, ◌<◌, ◌≤◌, ◌^◌, Bool, true, false, cond, not, List, [], ◌∷◌, ◌++◌, length, map, flat_map, drop, get_or, Option, Some, None, inl, inr, refl, sym, ◌∙◌, ap, ap₂, subst, arith, append_assoc, append-nil}
use Rattle.std.specs.Prelude.{slice_get, reverse}
use Rattle.std.specs.List.{AllByRecursion}
use Rattle.lola_bits.proofs.Options.{some_same}
use Rattle.lola_net.specs.declared.node.Node.{Node}
use Rattle.lola_net.specs.declared.node.Node.TheVariants.{Free, Latch, Pad, Gate}
use Rattle.lola_net.specs.Literals.{at_literal}
use Rattle.lola_net.specs.Run.{Sources, first, rest_of, value_of, values_after}
use Rattle.lola_flat.specs.Tree.{SignalTree, FlatTree}
use Rattle.lola_lower.specs.Names.{signal_names}
use Rattle.lola_lower.specs.Sources.{has_input, has_latch, input_nodes, latch_nodes}
use Rattle.lola_lower.specs.Cycles.{bits_of, element_bits}

abbrev pub sources : List Bool → List Bool → List Bool → Sources
sources state inputs outside = record { state = state; inputs = inputs; outside = outside }

-- what is left behind nodes
abbrev pub rest_after : Sources → List Node → Sources
rest_after s [] = s
rest_after s (x ∷ more) = rest_after (rest_of s x) more

pub after_both : (s : Sources) (so : List Bool) (xs ys : List Node) → values_after s so (xs ++ ys) ≡ values_after (rest_after s xs) (values_after s so xs) ys
after_both s so [] ys = refl
after_both s so (x ∷ xs) ys = after_both (rest_of s x) (so ++ value_of s so x ∷ []) xs ys

pub rest_both : (s : Sources) (xs ys : List Node) → rest_after s (xs ++ ys) ≡ rest_after (rest_after s xs) ys
rest_both s [] ys = refl
rest_both s (x ∷ xs) ys = rest_both (rest_of s x) xs ys

-- values behind others
pub record Behind (so all : List Bool) : Type 0 where
  pub more : List Bool
  pub is : all ≡ so ++ more

pub values_behind : (s : Sources) (so : List Bool) (xs : List Node) → Behind so (values_after s so xs)
values_behind s so [] = record { more = []; is = sym (append-nil so) }
values_behind s so (x ∷ xs) =
    let h = values_behind (rest_of s x) (so ++ value_of s so x ∷ []) xs in
    record { more = value_of s so x ∷ h.more; is = h.is ∙ append_assoc so (value_of s so x ∷ []) h.more }

-- free nodes take their bits from the inputs, and latches from the state
pub frees_take : (names : List (List ℕ)) (bits : List Bool) → length bits ≡ length names → (state more outside so : List Bool) (ys : List Node) →
    values_after (sources state (bits ++ more) outside) so (map (λ (name : List ℕ). Free name) names ++ ys) ≡ values_after (sources state more outside) (so ++ bits) ys
frees_take [] [] long state more outside so ys = ap (λ l. values_after (sources state more outside) l ys) (sym (append-nil so))
frees_take [] (b ∷ bits) long state more outside so ys = absurd (omega arith)
frees_take (name ∷ names) [] long state more outside so ys = absurd (omega arith)
frees_take (name ∷ names) (b ∷ bits) long state more outside so ys =
    frees_take names bits (omega arith) state more outside (so ++ b ∷ []) ys ∙ ap (λ l. values_after (sources state more outside) l ys) (append_assoc so (b ∷ []) bits)

pub latches_take : (names : List (List ℕ)) (bits : List Bool) → length bits ≡ length names → (inputs more outside so : List Bool) (ys : List Node) →
    values_after (sources (bits ++ more) inputs outside) so (map (λ (name : List ℕ). Latch name 0) names ++ ys) ≡ values_after (sources more inputs outside) (so ++ bits) ys
latches_take [] [] long inputs more outside so ys = ap (λ l. values_after (sources more inputs outside) l ys) (sym (append-nil so))
latches_take [] (b ∷ bits) long inputs more outside so ys = absurd (omega arith)
latches_take (name ∷ names) [] long inputs more outside so ys = absurd (omega arith)
latches_take (name ∷ names) (b ∷ bits) long inputs more outside so ys =
    latches_take names bits (omega arith) inputs more outside (so ++ b ∷ []) ys ∙ ap (λ l. values_after (sources more inputs outside) l ys) (append_assoc so (b ∷ []) bits)

length_both : {X : Type 0} (xs ys : List X) → length (xs ++ ys) ≡ length xs + length ys
length_both [] ys = omega arith
length_both (x ∷ xs) ys = let h = length_both xs ys in omega arith

abbrev bits_if : Bool → ℕ → List ℕ → List Bool
bits_if t width ns = cond t (element_bits width ns) []

-- what comes into all inputs, and into all registers
module _ (F : FlatTree) where
  pub inputs_take : (signals : List SignalTree) (table : List (List ℕ)) → length table ≡ length signals →
      ((k : ℕ) (s : SignalTree) → slice_get signals k ≡ Some s → has_input F s ≡ true → length (element_bits s.width (get_or table k [])) ≡ length (signal_names s)) →
      (state more outside so : List Bool) (ys : List Node) →
      values_after (sources state (bits_of (has_input F) signals table ++ more) outside) so (flat_map (input_nodes F) signals ++ ys) ≡ values_after (sources state more outside) (so ++ bits_of (has_input F) signals table) ys
  inputs_take [] table long have state more outside so ys = ap (λ l. values_after (sources state more outside) l ys) (sym (append-nil so))
  inputs_take (x ∷ signals) [] long have state more outside so ys = absurd (omega arith)
  inputs_take (x ∷ signals) (ns ∷ table) long have state more outside so ys =
      ap₂ (λ (i : List Bool) (n : List Node). values_after (sources state i outside) so n) (append_assoc (bits_if (has_input F x) x.width ns) (bits_of (has_input F) signals table) more)
      (append_assoc (cond (has_input F x) (map (λ (name : List ℕ). Free name) (signal_names x)) []) (flat_map (input_nodes F) signals) ys)
      ∙ here (has_input F x) refl (bits_of (has_input F) signals table ++ more) (flat_map (input_nodes F) signals ++ ys)
      ∙ inputs_take signals table (omega arith) (λ j. have (suc j)) state more outside (so ++ bits_if (has_input F x) x.width ns) ys
      ∙ ap (λ l. values_after (sources state more outside) l ys) (append_assoc so (bits_if (has_input F x) x.width ns) (bits_of (has_input F) signals table))
    where
      here : (t : Bool) → has_input F x ≡ t → (tail : List Bool) (zs : List Node) → values_after (sources state (bits_if t x.width ns ++ tail) outside) so (cond t (map (λ (name : List ℕ). Free name) (signal_names x)) [] ++ zs) ≡ values_after (sources state tail outside) (so ++ bits_if t x.width ns) zs
      here true e tail zs = frees_take (signal_names x) (element_bits x.width ns) (have 0 x refl e) state tail outside so zs
      here false e tail zs = ap (λ l. values_after (sources state tail outside) l zs) (sym (append-nil so))

  pub registers_take : (signals : List SignalTree) (table : List (List ℕ)) → length table ≡ length signals →
      ((k : ℕ) (s : SignalTree) → slice_get signals k ≡ Some s → has_latch s ≡ true → length (element_bits s.width (get_or table k [])) ≡ length (signal_names s)) →
      (inputs more outside so : List Bool) (ys : List Node) →
      values_after (sources (bits_of has_latch signals table ++ more) inputs outside) so (flat_map latch_nodes signals ++ ys) ≡ values_after (sources more inputs outside) (so ++ bits_of has_latch signals table) ys
  registers_take [] table long have inputs more outside so ys = ap (λ l. values_after (sources more inputs outside) l ys) (sym (append-nil so))
  registers_take (x ∷ signals) [] long have inputs more outside so ys = absurd (omega arith)
  registers_take (x ∷ signals) (ns ∷ table) long have inputs more outside so ys =
      ap₂ (λ (i : List Bool) (n : List Node). values_after (sources i inputs outside) so n) (append_assoc (bits_if (has_latch x) x.width ns) (bits_of has_latch signals table) more)
      (append_assoc (cond (has_latch x) (map (λ (name : List ℕ). Latch name 0) (signal_names x)) []) (flat_map latch_nodes signals) ys)
      ∙ here (has_latch x) refl (bits_of has_latch signals table ++ more) (flat_map latch_nodes signals ++ ys)
      ∙ registers_take signals table (omega arith) (λ j. have (suc j)) inputs more outside (so ++ bits_if (has_latch x) x.width ns) ys
      ∙ ap (λ l. values_after (sources more inputs outside) l ys) (append_assoc so (bits_if (has_latch x) x.width ns) (bits_of has_latch signals table))
    where
      here : (t : Bool) → has_latch x ≡ t → (tail : List Bool) (zs : List Node) → values_after (sources (bits_if t x.width ns ++ tail) inputs outside) so (cond t (map (λ (name : List ℕ). Latch name 0) (signal_names x)) [] ++ zs) ≡ values_after (sources tail inputs outside) (so ++ bits_if t x.width ns) zs
      here true e tail zs = latches_take (signal_names x) (element_bits x.width ns) (have 0 x refl e) inputs tail outside so zs
      here false e tail zs = ap (λ l. values_after (sources tail inputs outside) l zs) (sym (append-nil so))

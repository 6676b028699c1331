-- The ports stand before all other signals, so what is free of inputs and pads stands before what is free of registers.
use Rattle.std.proofs.Common.{◌≡◌, ℕ, zero, suc, ◌+◌, ◌<◌, ◌≤◌, List, [], ◌∷◌, ◌++◌, length, map, Some, inl, inr, refl, sym, ◌∙◌, ap, ap₂, subst, append_assoc, arith}
use Rattle.std.specs.Prelude.{slice_get}
use Rattle.std.proofs.lemmas.Bool.{cases_lt}
use Rattle.lola_bits.specs.Lists.{IsIn}
use Rattle.lola_bits.proofs.Lists.{but_last, in_front, in_last}
use Rattle.lola_flat.specs.declared.design.SigKind.{SigKind}
use Rattle.lola_flat.specs.declared.design.SigKind.TheVariants.{Input, Pad, Wire, Register}
use Rattle.lola_flat.specs.Numbers.{first_numbers}
use Rattle.lola_flat.specs.Tree.{SignalTree, FlatTree}
use Rattle.lola_flat.specs.Signals.{IsSignal}
use Rattle.lola_flat.specs.Formed.{IsFormed}
use Rattle.lola_cases.specs.declared.free.FreeElement.{FreeElement}
use Rattle.lola_cases.specs.Free.{element_of, free_of, free_from, free_elements, if_input, if_register, inputs_from, registers_from, input_elements, register_elements}
use Rattle.lola_cases.proofs.Clocks.{none_of_wire}

-- the first numbers are those below their count
is_below : (m n : ℕ) → IsIn n (first_numbers m) → n < m
is_below zero n among = absurd among
is_below (suc m) n among = elim (but_last n m (first_numbers m) among) [
  | inl last ↦ omega (arith, last)
  | inr before ↦ let h = is_below m n before in omega (arith, h)
]

is_first : (m n : ℕ) → n < m → IsIn n (first_numbers m)
is_first zero n below = absurd (omega arith)
is_first (suc m) n below = elim (cases_lt n m) [
  | inl less ↦ in_front n (first_numbers m) (m ∷ []) (is_first m n less)
  | inr not_less ↦ let e : m ≡ n = omega (arith, below, not_less) in subst (λ (k : ℕ). IsIn k (first_numbers m ++ m ∷ [])) e (in_last m (first_numbers m))
]

module _ (F : FlatTree) (formed : IsFormed F) where
  port_below : (n : ℕ) → IsIn n F.ports → n < length F.ports
  port_below n among = is_below (length F.ports) n (subst (λ (ns : List ℕ). IsIn n ns) formed.ports among)

  -- these are the signals of the design from a number on
  abbrev AreFrom : ℕ → List SignalTree → Type 0
  AreFrom n signals = (k : ℕ) (s : SignalTree) → slice_get signals k ≡ Some s → IsSignal F (n + k) s

  first_is : (n : ℕ) (s : SignalTree) (signals : List SignalTree) → AreFrom n (s ∷ signals) → IsSignal F n s
  first_is n s signals from = let e : n + 0 ≡ n = omega arith in subst (λ (m : ℕ). IsSignal F m s) e (from 0 s refl)

  others_are : (n : ℕ) (s : SignalTree) (signals : List SignalTree) → AreFrom n (s ∷ signals) → AreFrom (n + 1) signals
  others_are n s signals from = λ k t is. let e : n + suc k ≡ n + 1 + k = omega arith in subst (λ (m : ℕ). IsSignal F m t) e (from (suc k) t is)

  -- behind the ports there is no input and no pad
  not_input : (n : ℕ) (s : SignalTree) → IsSignal F n s → length F.ports ≤ n → (kind : SigKind) → s.kind ≡ kind → if_input kind (free_of F n s) ≡ []
  not_input n s is past Input kind = absurd (let h = port_below n ((formed.signals n s is).inputs_are_ports kind) in omega (arith, h, past))
  not_input n s is past Pad kind = absurd (let h = port_below n ((formed.signals n s is).pads_are_ports kind) in omega (arith, h, past))
  not_input n s is past Register kind = refl
  not_input n s is past Wire kind = refl

  no_inputs : (n : ℕ) (signals : List SignalTree) → AreFrom n signals → length F.ports ≤ n → inputs_from F n signals ≡ []
  no_inputs n [] from past = refl
  no_inputs n (s ∷ signals) from past =
      ap₂ (λ (xs ys : List FreeElement). xs ++ ys) (not_input n s (first_is n s signals from) past s.kind refl) (no_inputs (n + 1) signals (others_are n s signals from) (omega (arith, past)))

  -- a register stands behind the ports
  past_ports : (n : ℕ) (s : SignalTree) → IsSignal F n s → s.kind ≡ Register → length F.ports ≤ n
  past_ports n s is kind = elim (cases_lt n (length F.ports)) [
    | inl below ↦ absurd ((formed.signals n s is).registers_are_no_ports kind (subst (λ (ns : List ℕ). IsIn n ns) (sym formed.ports) (is_first (length F.ports) n below)))
    | inr past ↦ past
  ]

  -- what is free of one signal, before what is free of those behind it
  one_signal : (n : ℕ) (s : SignalTree) (inputs registers : List FreeElement) → (s.kind ≡ Register → inputs ≡ []) → (kind : SigKind) → s.kind ≡ kind →
      free_of F n s ++ (inputs ++ registers) ≡ (if_input kind (free_of F n s) ++ inputs) ++ (if_register kind (free_of F n s) ++ registers)
  one_signal n s inputs registers behind Input kind = sym (append_assoc (free_of F n s) inputs registers)
  one_signal n s inputs registers behind Pad kind = sym (append_assoc (free_of F n s) inputs registers)
  one_signal n s inputs registers behind Register kind =
      ap (λ (xs : List FreeElement). free_of F n s ++ (xs ++ registers)) (behind kind) ∙ ap (λ (xs : List FreeElement). xs ++ (free_of F n s ++ registers)) (sym (behind kind))
  one_signal n s inputs registers behind Wire kind = ap (λ (c : ℕ). map (element_of n s.width) (first_numbers c) ++ (inputs ++ registers)) (none_of_wire F s kind)

  parted : (n : ℕ) (signals : List SignalTree) → AreFrom n signals → free_from F n signals ≡ inputs_from F n signals ++ registers_from F n signals
  parted n [] from = refl
  parted n (s ∷ signals) from =
      ap (λ (es : List FreeElement). free_of F n s ++ es) (parted (n + 1) signals (others_are n s signals from))
      ∙ one_signal n s (inputs_from F (n + 1) signals) (registers_from F (n + 1) signals)
      (λ kind. let past = past_ports n s (first_is n s signals from) kind in no_inputs (n + 1) signals (others_are n s signals from) (omega (arith, past))) s.kind refl

  pub inputs_first : free_elements F ≡ input_elements F ++ register_elements F
  inputs_first = parted 0 F.signals (λ k s is. let e : k ≡ 0 + k = omega arith in subst (λ (m : ℕ). IsSignal F m s) e is)

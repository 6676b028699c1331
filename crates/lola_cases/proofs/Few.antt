-- A well formed design has few signals, and few bits are free.
use Rattle.std.proofs.Common.{◌≡◌, ℕ, zero, suc, ◌+◌, ◌*◌, ◌^◌, ◌≤◌, Bool, true, false, List, [], ◌∷◌, ◌++◌, length, map, replicate, Option, Some, None, refl, sym, ap, subst, arith}
use Rattle.std.specs.Prelude.{slice_get}
use Rattle.std.specs.List.{AllByRecursion}
use Rattle.std.proofs.lemmas.Nat.{pow_pos, mul-le}
use Rattle.std.proofs.Math.Nat.{suc-mul}
use Rattle.lola_flat.specs.declared.design.SigKind.{SigKind}
use Rattle.lola_flat.specs.declared.design.SigKind.TheVariants.{Input, Pad, Wire, Register}
use Rattle.lola_flat.specs.Tree.{ExprTree, SignalTree, FlatTree}
use Rattle.lola_flat.specs.Value.{sum_of}
use Rattle.lola_flat.specs.Formed.{CountFits, IsFormed}
use Rattle.lola_cases.specs.Free.{is_clock, count_of, free_count, free_widths}
use Rattle.lola_cases.proofs.Elements.{widths_from, widths_are}

-- what each signal has, all have
pub all_signals : (P : SignalTree → Type 0) (signals : List SignalTree) → ((n : ℕ) (s : SignalTree) → slice_get signals n ≡ Some s → P s) → AllByRecursion P signals
all_signals P [] each = tt
all_signals P (s ∷ signals) each = (each 0 s refl, all_signals P signals (λ n t is. each (suc n) t is))

abbrev counts : List SignalTree → List ℕ
counts signals = map (λ (s : SignalTree). s.count) signals

some_count : (kind : SigKind) (place : Option ExprTree) (count : ℕ) → CountFits kind place count → 1 ≤ count
some_count kind None count fits = omega arith
some_count kind (Some place) count fits = let k = fits.1.0 in let e : count ≡ 2 ^ k = fits.1.1.1.1 in let p = pow_pos k in omega (arith, e, p)

-- each signal has an element, so there are no more signals than elements
no_more : (signals : List SignalTree) → AllByRecursion (λ (s : SignalTree). 1 ≤ s.count) signals → length signals ≤ sum_of (counts signals)
no_more [] each = omega arith
no_more (s ∷ signals) each = let h = no_more signals each.1 in let one = each.0 in omega (arith, h, one)

pub few_signals : (F : FlatTree) → IsFormed F → length F.signals ≤ 65536
few_signals F formed =
    let all = all_signals (λ (s : SignalTree). 1 ≤ s.count) F.signals (λ n s is. some_count s.kind s.place s.count (formed.signals n s is).count) in
    let h = no_more F.signals all in
    let few = formed.few in
    omega (arith, h, few)

-- no more numbers are free of a signal than it has elements
free_within : (kind : SigKind) (clock : Bool) (count : ℕ) → 1 ≤ count → count_of kind clock count ≤ count
free_within Input true count some = omega arith
free_within Input false count some = omega arith
free_within Register clock count some = omega arith
free_within Pad clock count some = some
free_within Wire clock count some = omega arith

sum_append : (ws vs : List ℕ) → sum_of (ws ++ vs) ≡ sum_of ws + sum_of vs
sum_append [] vs = omega arith
sum_append (w ∷ ws) vs = let h = sum_append ws vs in omega (arith, h)

sum_same : (c w : ℕ) → sum_of (replicate c w) ≡ c * w
sum_same zero w = omega arith
sum_same (suc c) w = let h = sum_same c w in let e = suc-mul c w in omega (arith, h, e)

pub record IsSmall (F : FlatTree) (s : SignalTree) : Type 0 where
  pub count : free_count F s ≤ s.count
  pub width : s.width ≤ 128

few_bits : (F : FlatTree) (signals : List SignalTree) → AllByRecursion (IsSmall F) signals → sum_of (widths_from F signals) ≤ sum_of (counts signals) * 128
few_bits F [] each = omega arith
few_bits F (s ∷ signals) each =
    let h = few_bits F signals each.1 in
    let one : sum_of (replicate (free_count F s) s.width) ≤ s.count * 128 = subst (λ (n : ℕ). n ≤ s.count * 128) (sym (sum_same (free_count F s) s.width)) (mul-le (free_count F s) s.width s.count 128 each.0.count each.0.width) in
    let all = sum_append (replicate (free_count F s) s.width) (widths_from F signals) in
    omega (arith, h, one, all)

pub few_free : (F : FlatTree) → IsFormed F → sum_of (free_widths F) ≤ 8388608
few_free F formed =
    let small = all_signals (IsSmall F) F.signals
    (λ n s is. record { count = free_within s.kind (is_clock F s) s.count (some_count s.kind s.place s.count (formed.signals n s is).count); width = (formed.signals n s is).wide.1 }) in
    let h = few_bits F F.signals small in
    let few = formed.few in
    let e = ap sum_of (widths_are F) in
    omega (arith, h, few, e)

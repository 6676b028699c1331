-- The test for the clock, and how many numbers a signal has free.
use Rattle.std.proofs.Common.{◌≡◌, ◌⊎◌, ℕ, suc, Bool, true, false, List, [], ◌∷◌, length, Option, Some, None, inl, inr, refl, sym, ◌∙◌, ap, ap₂, subst, arith}
use Rattle.std.specs.Prelude.{nat_eq, bytes_eq, IfSome}
use Rattle.std.proofs.lemmas.Bool.{eqb-true, and_parts}
use Rattle.lola_bits.proofs.Lists.{same_item}
use Rattle.lola_bits.proofs.Names.{same_name, is_same_name}
use Rattle.lola_bits.proofs.Places.{get_in}
use Rattle.lola_bits.proofs.Tests.{not_both}
use Rattle.lola_flat.specs.declared.design.SigKind.TheVariants.{Input, Pad, Wire, Register}
use Rattle.lola_flat.specs.Tree.{SignalTree, FlatTree}
use Rattle.lola_flat.specs.Signals.{IsSignal, IsClock}
use Rattle.lola_flat.specs.Formed.{HasClock, IsFormed}
use Rattle.lola_cases.specs.Free.{is_clock_path, is_clock, count_of, free_count}

from_test : (clock : Option (List ℕ)) (path : List (List ℕ)) → is_clock_path clock path ≡ true → (name : List ℕ) × ((clock ≡ Some name) × (path ≡ name ∷ []))
from_test None path is = absurd (cc)
from_test (Some name) [] is = absurd (cc)
from_test (Some name) (first ∷ []) is = (name, (refl, ap (λ (x : List ℕ). x ∷ []) (is_same_name first name is)))
from_test (Some name) (first ∷ second ∷ more) is = absurd (let none : suc (length more) ≡ 0 = eqb-true (suc (length more)) 0 (and_parts (nat_eq (suc (length more)) 0) (bytes_eq first name) is).0 in omega (arith, none))

pub test_is_clock : (F : FlatTree) (s : SignalTree) → is_clock F s ≡ true → IsClock F s
test_is_clock F s is = from_test F.clock s.path is

pub clock_tests : (F : FlatTree) (s : SignalTree) → IsClock F s → is_clock F s ≡ true
clock_tests F s clock = ap₂ is_clock_path clock.1.0 clock.1.1 ∙ same_name clock.0 clock.0 refl

pub no_clock_tests : (F : FlatTree) (s : SignalTree) → (IsClock F s → ⊥) → is_clock F s ≡ false
no_clock_tests F s other = by_test (is_clock F s) (λ is. other (test_is_clock F s is))
  where
    by_test : (b : Bool) → (b ≡ true → ⊥) → b ≡ false
    by_test false never = refl
    by_test true never = absurd (never refl)

pub clock_or_not : (F : FlatTree) (s : SignalTree) → IsClock F s ⊎ (IsClock F s → ⊥)
clock_or_not F s = by_test (is_clock F s) refl
  where
    by_test : (b : Bool) → is_clock F s ≡ b → IsClock F s ⊎ (IsClock F s → ⊥)
    by_test true is = inl (test_is_clock F s is)
    by_test false is = inr (λ clock. not_both (clock_tests F s clock) is)

-- the clock of a well formed design is an input
pub clock_is_input : (F : FlatTree) → IsFormed F → (n : ℕ) (s : SignalTree) → IsSignal F n s → IsClock F s → s.kind ≡ Input
clock_is_input F formed n s is clock =
    let its : HasClock F clock.0 = subst (λ (o : Option (List ℕ)). IfSome o (HasClock F)) clock.1.0 formed.clock in
    let same : s ≡ its.signal =
    same_item (λ (x : SignalTree). x.path) s its.signal F.signals formed.paths (get_in F.signals n s is) (get_in F.signals its.number its.signal its.is) (clock.1.1 ∙ sym its.path) in
    ap (λ (x : SignalTree). x.kind) same ∙ its.kind

-- so many numbers are free of a signal of each kind
pub none_of_clock : (F : FlatTree) (s : SignalTree) → s.kind ≡ Input → IsClock F s → free_count F s ≡ 0
none_of_clock F s kind clock = ap₂ (λ k b. count_of k b s.count) kind (clock_tests F s clock)

pub all_of_input : (F : FlatTree) (s : SignalTree) → s.kind ≡ Input → (IsClock F s → ⊥) → free_count F s ≡ s.count
all_of_input F s kind other = ap₂ (λ k b. count_of k b s.count) kind (no_clock_tests F s other)

pub all_of_register : (F : FlatTree) (s : SignalTree) → s.kind ≡ Register → free_count F s ≡ s.count
all_of_register F s kind = ap (λ k. count_of k (is_clock F s) s.count) kind

pub one_of_pad : (F : FlatTree) (s : SignalTree) → s.kind ≡ Pad → free_count F s ≡ 1
one_of_pad F s kind = ap (λ k. count_of k (is_clock F s) s.count) kind

pub none_of_wire : (F : FlatTree) (s : SignalTree) → s.kind ≡ Wire → free_count F s ≡ 0
none_of_wire F s kind = ap (λ k. count_of k (is_clock F s) s.count) kind

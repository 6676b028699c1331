-- Phases one behind another.
use Rattle.std.proofs.Common.{◌≡◌, ℕ, zero, suc, ◌+◌, ◌*◌, ◌<◌, ◌≤◌, List, [], ◌∷◌, length, map, drop, Option, Some, None, refl, ap, arith}
use Rattle.std.specs.Prelude.{get_or, slice_get}
use Rattle.lola_bits.specs.Vector.{FitsWidth}
use Rattle.lola_bits.proofs.All.{of_all}
use Rattle.lola_bits.proofs.Lists.{to_map}
use Rattle.lola_bits.proofs.Places.{drop_item, item_in}
use Rattle.tab_tree.specs.declared.table.Phase.{Phase}
use Rattle.tab_tree.specs.declared.value.Answer.{Answer}
use Rattle.tab_tree.specs.Table.{PhaseTree, phase_tree, turns_tree}
use Rattle.tab_tree.specs.Names.{vector}
use Rattle.tab_tree.specs.Step.{answer_at, times_of, cycles_of}
use Rattle.tab_mach.specs.Outcome.{AreLoaded, TurnsAreSmall}

-- so many cycles at most
pub few_cycles : (phases : List PhaseTree) → TurnsAreSmall phases → cycles_of phases ≤ 255 * length phases
few_cycles [] small = omega arith
few_cycles (phase ∷ phases) small = let one : times_of phase.turns ≤ 255 = small.0 in let rest = few_cycles phases small.1 in omega arith

pub cycles_step : (phases : List Phase) (i : ℕ) (x : Phase) → i < length phases → x ≡ get_or phases i x →
    cycles_of (map phase_tree (drop i phases)) ≡ times_of (turns_tree x.turns) + cycles_of (map phase_tree (drop (i + 1) phases))
cycles_step phases i x within is = ap (λ (l : List Phase). cycles_of (map phase_tree l)) (drop_item phases i x within is)

-- the answer of a number
abbrev pub answer_or : Option Answer → Answer
answer_or None = record { code = vector 1 0; loaded = vector 1 0 }
answer_or (Some a) = a

pub answer_is : (answers : List Answer) (n : ℕ) → answer_at answers n ≡ answer_or (slice_get answers n)
answer_is [] n = refl
answer_is (a ∷ answers) zero = refl
answer_is (a ∷ answers) (suc n) = answer_is answers n

pub loaded_fits : (answers : List Answer) → AreLoaded answers → (n : ℕ) → FitsWidth (answer_at answers n).loaded.width (answer_at answers n).loaded.value
loaded_fits [] all n = record { positive = omega arith; at_most = omega arith; below = omega arith }
loaded_fits (a ∷ answers) all zero = all.0
loaded_fits (a ∷ answers) all (suc n) = loaded_fits answers all.1 n

pub turns_small : (phases : List Phase) (n : ℕ) (x : Phase) → n < length phases → x ≡ get_or phases n x → TurnsAreSmall (map phase_tree phases) → times_of (turns_tree x.turns) ≤ 255
turns_small phases n x within is small = of_all (λ (phase : PhaseTree). times_of phase.turns ≤ 255) (phase_tree x) (map phase_tree phases) small (to_map phase_tree x phases (item_in phases n x within is))

-- When an obligation holds at a valuation, which gives a number to each vector that it leaves free.
use Rattle.std.specs.Prelude.{◌≡◌, ℕ, ◌+◌, ◌≤◌, Bool, true, false, not, cond, ◌&&◌, nat_eq, List, [], ◌∷◌, ◌++◌, map, take, drop, length, Option, Some, None, slice_get, slice_index_or}
use Rattle.lola_elab.specs.declared.flat.Flat.{Flat}
use Rattle.lola_elab.specs.declared.vector.Vector.{Vector}
use Rattle.lola_elab.specs.Elaborated.{vector_widths, leaf_widths}
use Rattle.lola_elab.specs.Flat.{flat_width, flat_number}
use Rattle.lola_elab.specs.Logic.{logic_value, bit_number}
use Rattle.small_tree.specs.Step.{fits_place}
use Rattle.lola_app.specs.declared.claim.Claim.{Claim}
use Rattle.lola_app.specs.declared.claim.State.{State}
use Rattle.lola_app.specs.declared.claim.Start.{Start}
use Rattle.lola_app.specs.declared.obligation.Goal.{Goal}
use Rattle.lola_app.specs.declared.obligation.Goal.TheVariants as goal
use Rattle.lola_app.specs.declared.obligation.Which.{Which}
use Rattle.lola_app.specs.declared.obligation.Which.TheVariants as which
use Rattle.lola_app.specs.declared.subject.Subject.{Subject}
use Rattle.lola_app.specs.Obligations.{total}

-- two bits are the same
abbrev pub same_bit : Bool → Bool → Bool
same_bit a b = cond a b (not b)

-- two lists, one behind the other, without the item at a place of the first
abbrev pub but_one : {X : Type 0} → ℕ → List X → List X → List X
but_one place xs ys = take place xs ++ (drop (place + 1) xs ++ ys)

-- the numbers of all vectors in order: those that are free, with RESET's value at its place
abbrev pub with_reset : ℕ → ℕ → List ℕ → List ℕ
with_reset place value numbers = take place numbers ++ value ∷ drop place numbers

-- the bits of the vectors of one bit, of vectors with these widths and numbers
abbrev pub seen : List ℕ → List ℕ → List Bool
seen [] numbers = []
seen (w ∷ widths) [] = []
seen (w ∷ widths) (n ∷ numbers) = cond (nat_eq w 1) (nat_eq n 1 ∷ seen widths numbers) (seen widths numbers)

-- the registers' next numbers
abbrev pub next_numbers : Subject → List ℕ → List ℕ
next_numbers subject numbers = map (λ (f : Flat). flat_number (leaf_widths subject.design) f numbers) subject.design.nexts.items

-- the leaves that a claim is over: before the clock edge, and behind it, where the inputs are as they were
abbrev pub leaves_before : Subject → List ℕ → List Bool
leaves_before subject numbers = seen (leaf_widths subject.design) numbers

abbrev pub leaves_after : Subject → List ℕ → List Bool
leaves_after subject numbers =
    take (length subject.claim.face.inputs.items) (leaves_before subject numbers) ++ seen (vector_widths subject.design.registers.items) (next_numbers subject numbers)

-- a word of one bit fits a pattern of one place
abbrev pub place_fits : ℕ → Bool → Bool
place_fits place word = fits_place place (bit_number word)

-- the value of a START row is met
abbrev pub start_passes : Option Start → List Bool → List Bool → Bool
start_passes None before after = true
start_passes (Some start) before after = same_bit (slice_index_or after start.leaf false) (logic_value start.value before)

-- the value that the class gives a state is met
abbrev pub state_passes : Option State → List Bool → List Bool → Bool
state_passes None before after = true
state_passes (Some state) before after = same_bit (slice_index_or after state.leaf false) (logic_value state.set before)

abbrev pub reset_passes : Claim → Goal → List Bool → List Bool → Bool
reset_passes claim goal.Invariant before after = logic_value claim.invariant after
reset_passes claim goal.Boundary before after = logic_value claim.boundary after
reset_passes claim (goal.State number) before after = start_passes (slice_get claim.starts.items number) before after

abbrev pub end_passes : Claim → Goal → List Bool → List Bool → Bool
end_passes claim goal.Invariant before after = logic_value claim.invariant after
end_passes claim goal.Boundary before after = logic_value claim.boundary after
end_passes claim (goal.State number) before after = state_passes (slice_get claim.states.items number) before after

-- the premises: the invariant, the boundary, and that the word 0 is in the class
abbrev pub premises : Claim → List Bool → Bool
premises claim before = logic_value claim.invariant before && (logic_value claim.boundary before && place_fits claim.pattern false)

-- the goals at the numbers of all vectors
abbrev pub reset_at : Subject → Goal → List ℕ → Bool
reset_at subject goal numbers = reset_passes subject.claim goal (leaves_before subject numbers) (leaves_after subject numbers)

abbrev pub end_at : Subject → Goal → List ℕ → Bool
end_at subject goal numbers =
    cond (premises subject.claim (leaves_before subject numbers)) (end_passes subject.claim goal (leaves_before subject numbers) (leaves_after subject numbers)) true

-- an obligation passes at the numbers of what it leaves free: a premise fails, or its goal holds
abbrev pub passes : Subject → Which → List ℕ → Bool
passes subject which.Cover numbers = place_fits subject.claim.pattern (nat_eq (slice_index_or numbers 0 0) 1)
passes subject (which.Reset goal) numbers = reset_at subject goal (with_reset subject.reset (bit_number subject.claim.active) numbers)
passes subject (which.End goal) numbers = end_at subject goal (with_reset subject.reset (bit_number (not subject.claim.active)) numbers)

-- the widths of what it leaves free: the word's one bit in `cover`, and else all vectors but RESET
abbrev pub tried_widths : Subject → Which → List ℕ
tried_widths subject which.Cover = 1 ∷ []
tried_widths subject (which.Reset goal) = but_one subject.reset (vector_widths subject.design.inputs.items) (vector_widths subject.design.registers.items)
tried_widths subject (which.End goal) = but_one subject.reset (vector_widths subject.design.inputs.items) (vector_widths subject.design.registers.items)

-- a subject whose cases can be tried: its widths are those of its design, RESET is an input of one bit,
-- each next value has its register's width, and all have at most 131,072 times 128 bits
pub record IsTriable (subject : Subject) : Type 0 where
  pub widths : subject.widths.items ≡ leaf_widths subject.design
  pub reset : slice_get (vector_widths subject.design.inputs.items) subject.reset ≡ Some 1
  pub nexts : map (flat_width (leaf_widths subject.design)) subject.design.nexts.items ≡ map (λ (v : Vector). Some v.width) subject.design.registers.items
  pub few : total (leaf_widths subject.design) ≤ 16777216

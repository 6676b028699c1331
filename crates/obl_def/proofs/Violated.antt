-- An obligation holds at a valuation exactly where it isn't violated there.
use Rattle.std.proofs.Common.{◌≡◌, ◌⊎◌, ℕ, zero, suc, true, List, [], ◌∷◌, refl, inl, inr, Option, Some, None}
use Rattle.std.proofs.lemmas.Bool.{cases_Bool}
use Rattle.lola_bits.specs.declared.vector.Bits.{Bits}
use Rattle.lola_bits.specs.Number.{number}
use Rattle.lola_bits.specs.Lists.{IsIn}
use Rattle.lola_bits.proofs.All.{of_all, all_of}
use Rattle.lola_bits.proofs.Tests.{not_both}
use Rattle.lola_tree.specs.Tree.{SourceTree}
use Rattle.lola_tree.specs.Value.{Values}
use Rattle.tab_tree.specs.declared.table.BusRoles.{BusRoles}
use Rattle.tab_tree.specs.declared.value.Answer.{Answer}
use Rattle.tab_tree.specs.declared.value.Access.{Access}
use Rattle.tab_tree.specs.declared.value.Access.TheVariants.{Idle, Load, Store, Fetch}
use Rattle.tab_tree.specs.Table.{InsideTree, ClassTree, TableTree}
use Rattle.tab_tree.specs.Names.{no_names, number_at, table_number}
use Rattle.tab_tree.specs.Registers.{registers_at}
use Rattle.tab_tree.specs.Step.{Arch, nth_value, state_value, link_names, set_value, fits, phase_row, steps_of}
use Rattle.tab_tree.specs.Headline.{row_shown, shown, shown_word, IsOne, port_value, SeesOn, SeesBy, answer_of}
use Rattle.obl_def.specs.Obligations.{Goal, invariant, entry, code, start, state, access, Obligation, cover, reset, edge, obligations}
use Rattle.obl_def.specs.Valuation.{Valuation, IsValuation}
use Rattle.obl_def.specs.Holds.{Stage, turn_count, EntryOf, Target, at_stage, at_boundary, EntryAt, code_at, sets_at, names_at, GoalAt, ResetGoal, target, stage_of, old_states, IsCovered, HoldsAt, IsViolatedAt, HoldsAlways, AllHold}
use Rattle.obl_def.proofs.Stable.{Stable, true_is, both_stable, three_stable, four_stable, five_stable, each_stable, number_stable, bits_stable, value_stable}

-- what goals say can be tried
sees_on : (bus : BusRoles) (v : Values) (a : Access) → Stable (SeesOn bus v a)
sees_on bus v Idle = both_stable (number_stable (port_value v bus.read) 0) (number_stable (port_value v bus.write) 0)
sees_on bus v (Load adr byte) =
    four_stable (number_stable (port_value v bus.read) 1) (number_stable (port_value v bus.write) 0) (number_stable (port_value v bus.address) adr.value)
    (number_stable (port_value v bus.byte) (number byte))
sees_on bus v (Store adr byte word) =
    five_stable (number_stable (port_value v bus.read) 0) (number_stable (port_value v bus.write) 1) (number_stable (port_value v bus.address) adr.value)
    (number_stable (port_value v bus.byte) (number byte)) (number_stable (port_value v bus.word) word.value)
sees_on bus v (Fetch adr) =
    three_stable (number_stable (port_value v bus.read) 0) (number_stable (port_value v bus.write) 0) (number_stable (port_value v bus.address) adr.value)

sees_by : (o : Option BusRoles) (v : Values) (a : Access) → Stable (SeesBy o v a)
sees_by None v a = true_is
sees_by (Some bus) v a = sees_on bus v a

one : (S : SourceTree) (e : _) (s : Values) → Stable (IsOne S e s)
one S e s = number_stable _ 1

entered : (S : SourceTree) (T : TableTree) (b : InsideTree) (A : Arch) (i : Bits) (p : ℕ) (g : Stage) (s : Values) → Stable (EntryOf S T b A i p g s)
entered S T b A i zero g s = one S T.boundary s
entered S T b A i (suc p) g s = number_stable (table_number (link_names T b A i g.words (turn_count g.phase.turns g.count) (registers_at S s)) g.phase.link) 1

entry_at : (S : SourceTree) (T : TableTree) (b : InsideTree) (A : Arch) (i : Bits) (x : Target) (s : Values) → Stable (EntryAt S T b A i x s)
entry_at S T b A i (at_stage g) s = entered S T b A i g.number g s
entry_at S T b A i (at_boundary m) s = one S T.boundary s

goal_stable : (S : SourceTree) (T : TableTree) (b : InsideTree) (A : Arch) (i : Bits) (g : Stage) (answer : Answer) (x : Target) (v s' : Values) (goal : Goal) →
    Stable (GoalAt S T b A i g answer x v s' goal)
goal_stable S T b A i g answer x v s' invariant = one S T.invariant s'
goal_stable S T b A i g answer x v s' entry = entry_at S T b A i x s'
goal_stable S T b A i g answer x v s' code = bits_stable (shown_word S T s') (code_at i answer x)
goal_stable S T b A i g answer x v s' (start row) = true_is
goal_stable S T b A i g answer x v s' (state n row) = value_stable (row_shown S row s') (set_value (sets_at b x) row (nth_value A n) (names_at T b A i x))
goal_stable S T b A i g answer x v s' access = sees_by T.roles.bus v (phase_row T b A i g.phase.turns g.phase.access g.words)

reset_stable : (S : SourceTree) (T : TableTree) (answer : Answer) (v s' : Values) (goal : Goal) → Stable (ResetGoal S T answer v s' goal)
reset_stable S T answer v s' invariant = one S T.invariant s'
reset_stable S T answer v s' entry = one S T.boundary s'
reset_stable S T answer v s' code = bits_stable (shown_word S T s') answer.code
reset_stable S T answer v s' (start row) = number_stable (number_at (state_value T.states (shown S T s') row.name) 0) (table_number no_names row.value)
reset_stable S T answer v s' (state n row) = true_is
reset_stable S T answer v s' access = each_stable (λ a. each_stable (λ its. sees_by T.roles.bus v a))

-- some class of a list fits, or none
fits_some : (word : Bits) (cs : List ClassTree) → ((c : ClassTree) × IsIn c cs × (fits c.pattern word.value ≡ true)) ⊎ ((c : ClassTree) → IsIn c cs → fits c.pattern word.value ≡ true → ⊥)
fits_some word [] = inr (λ c is fit. is)
fits_some word (c ∷ cs) = elim (cases_Bool (fits c.pattern word.value)) [
  | inl e ↦ inl (c, inl refl, e)
  | inr e ↦ elim (fits_some word cs) [
    | inl later ↦ inl (later.0, inr later.1, later.2)
    | inr none ↦ inr (λ d is fit. elim is [
      | inl same ↦ not_both (subst_fit d c same fit) e
      | inr behind ↦ none d behind fit
    ])
  ]
]
  where
    subst_fit : (d c : ClassTree) → d ≡ c → fits d.pattern word.value ≡ true → fits c.pattern word.value ≡ true
    subst_fit d c same fit = rw (← same) fit

covered_stable : (T : TableTree) (word : Bits) → Stable (IsCovered T word)
covered_stable T word h = elim (fits_some word T.classes) [
  | inl some ↦ some
  | inr none ↦ absurd (h (λ is. none is.0 is.1 is.2))
]

-- one of the two
pub one_of_two : (S : SourceTree) (T : TableTree) (o : Obligation) (w : Valuation) → (IsViolatedAt S T o w → ⊥) → HoldsAt S T o w
one_of_two S T cover w h = covered_stable T w.word h
one_of_two S T (reset goal) w h = λ v s' cycle next. reset_stable S T (answer_of S T w.input) v s' goal
    (λ fails. h (record { cycle = v; after = s'; is_cycle = cycle; is_next = next; fails = fails }))
one_of_two S T (edge u p phase e goal) w h = λ v s' cycle next premises.
    let A = old_states S T phase w.state w.old in
    let i = shown_word S T w.state in
    let g = stage_of p phase w in
    let answer = answer_of S T w.input in
    goal_stable S T (steps_of u) A i g answer (target T (steps_of u) A i g answer e) v s' goal
    (λ fails. h (record { cycle = v; after = s'; is_cycle = cycle; is_next = next; premises = premises; fails = fails }))

-- not both
pub not_both_of : (S : SourceTree) (T : TableTree) (o : Obligation) (w : Valuation) → HoldsAt S T o w → IsViolatedAt S T o w → ⊥
not_both_of S T cover w holds violated = violated holds
not_both_of S T (reset goal) w holds violated = violated.fails (holds violated.cycle violated.after violated.is_cycle violated.is_next)
not_both_of S T (edge u p phase e goal) w holds violated = violated.fails (holds violated.cycle violated.after violated.is_cycle violated.is_next violated.premises)

pub none_of_all : (S : SourceTree) (T : TableTree) → AllHold S T → (o : Obligation) → IsIn o (obligations T) → (w : Valuation) → IsValuation S T o w → IsViolatedAt S T o w → ⊥
none_of_all S T all o is w suits violated = not_both_of S T o w (of_all (HoldsAlways S T) o (obligations T) all.each is w suits) violated

pub all_of_none : (S : SourceTree) (T : TableTree) → ((o : Obligation) → IsIn o (obligations T) → (w : Valuation) → IsValuation S T o w → IsViolatedAt S T o w → ⊥) → AllHold S T
all_of_none S T none = record { each = all_of (HoldsAlways S T) (obligations T) (λ o is w suits. one_of_two S T o w (none o is w suits)) }

-- An obligation at a valuation, against its trial at the valuation's numbers.
use Rattle.std.proofs.Common.{◌≡◌, ℕ, zero, suc, ◌+◌, ◌<◌, ◌≤◌, ◌^◌, Bool, true, false, not, cond, List, [], ◌∷◌, ◌++◌, length, map, take, drop, Some, refl, sym, ap, ap₂, ◌∙◌, subst, arith, inl, inr, length-append}
use Rattle.std.specs.Prelude.{slice_get, slice_index_or, ◌&&◌, nat_eq, if◌then◌else◌, string_bytes}
use Rattle.std.proofs.lemmas.Option.{slice_get_within}
use Rattle.std.proofs.lemmas.List.{length-take-le, length-map}
use Rattle.lola_bits.specs.Lists.{IsIn, IsAt}
use Rattle.lola_tree.specs.Tree.{SourceTree}
use Rattle.lola_tree.specs.Value.{Values}
use Rattle.lola_tree.specs.Cycle.{IsState, IsGiven, Cycle, Next}
use Rattle.lola_tree.specs.Signals.{values_of, root_inputs, root_registers}
use Rattle.lola_elab.specs.Logic.{logic_value, bit_number, AreBits}
use Rattle.lola_elab.specs.Elaborated.{vector_names, vector_widths, HasOneCycle}
use Rattle.small_tree.specs.declared.table.Active.{Active}
use Rattle.small_tree.specs.Table.{active_value, idle_value, StateTree, SetTree, ClassTree, TableTree}
use Rattle.small_tree.specs.Step.{fits, source_names, no_names, class_names, state_value, set_value, loaded_word, table_value}
use Rattle.lola_app.specs.declared.claim.Claim.{Claim}
use Rattle.lola_app.specs.declared.claim.State.{State}
use Rattle.lola_app.specs.declared.claim.Start.{Start}
use Rattle.lola_app.specs.declared.obligation.Goal.TheVariants as goal
use Rattle.lola_app.specs.declared.obligation.Goal.{Goal as Tried}
use Rattle.lola_app.specs.declared.obligation.Which.{Which}
use Rattle.lola_app.specs.declared.obligation.Which.TheVariants as which
use Rattle.lola_app.specs.declared.subject.Subject.{Subject}
use Rattle.lola_app.specs.Claiming.{AreLeaves, IsClaimedState, IsClaimedStart, IsClaimOf}
use Rattle.lola_app.specs.Headline.{shown, answer_of, IsActive, IsIdle}
use Rattle.lola_app.specs.Obligations.{Goal, invariant, boundary, start, state, Obligation, cover, reset, ends, Valuation, IsValuation, ResetGoal, EndGoal, Premises, HoldsAt, IsViolatedAt, without, free_values}
use Rattle.lola_app.specs.Small.{Interface}
use Rattle.lola_app.specs.Trial.{same_bit, but_one, with_reset, seen, next_numbers, leaves_before, leaves_after, place_fits, end_passes, premises, reset_at, end_at, passes, tried_widths}
use Rattle.lola_app.specs.Valuations.{AreWithin}
use Rattle.lola_app.specs.Vectors.{bit_names, face_of, interface_in}
use Rattle.lola_app.proofs.Behaves.{Behaves}
use Rattle.lola_app.proofs.Leaves.{front_bits, both_bits, bit_back, bit_low, seen_are, seen_append, within_both, within_long, halves, within_put, within_out, put_in, take_out}

-- a trial at the free values of a valuation decides the obligation there
pub record Decides (S : SourceTree) (T : TableTree) (subject : Subject) (o : Obligation) (which : Which) : Type 0 where
  pub holds : (w : Valuation) → IsValuation S T o w → passes subject which (free_values S T o w) ≡ true → HoldsAt S T o w
  pub violated : (w : Valuation) → IsValuation S T o w → passes subject which (free_values S T o w) ≡ false → IsViolatedAt S T o w

-- the free values of valuations are the numbers within the widths
pub record Spans (S : SourceTree) (T : TableTree) (subject : Subject) (o : Obligation) (which : Which) : Type 0 where
  pub within : (w : Valuation) → IsValuation S T o w → AreWithin (tried_widths subject which) (free_values S T o w)
  pub valuation : (ns : List ℕ) → AreWithin (tried_widths subject which) ns → (w : Valuation) × IsValuation S T o w × (free_values S T o w ≡ ns)

-- a fact is decided by a bit
pub record IsTold (bit : Bool) (P : Type 0) : Type 0 where
  pub yes : bit ≡ true → P
  pub no : bit ≡ false → P → ⊥

-- a value of 1, told by its bit
told_one : (n : ℕ) (bit : Bool) → n ≡ bit_number bit → IsTold bit (n ≡ 1)
told_one n bit e = record {
  yes = λ on. e ∙ ap bit_number on;
  no = λ off one. let f : bit_number false ≡ 1 = sym (e ∙ ap bit_number off) ∙ one in absurd (omega (arith, f));
}

-- two equal bits, told by their test
same_told : (x y : Bool) → IsTold (same_bit x y) (bit_number x ≡ bit_number y)
same_told true true = record { yes = λ on. refl; no = λ off same. let f : true ≡ false = off in cc }
same_told true false = record { yes = λ on. absurd (let f : false ≡ true = on in cc); no = λ off same. absurd (omega (arith, same)) }
same_told false true = record { yes = λ on. absurd (let f : false ≡ true = on in cc); no = λ off same. absurd (omega (arith, same)) }
same_told false false = record { yes = λ on. refl; no = λ off same. let f : true ≡ false = off in cc }

told_same : (m n : ℕ) (x y : Bool) → m ≡ bit_number x → n ≡ bit_number y → IsTold (same_bit x y) (m ≡ n)
told_same m n x y e f = record {
  yes = λ on. e ∙ (same_told x y).yes on ∙ sym f;
  no = λ off same. (same_told x y).no off (sym e ∙ same ∙ f);
}

-- the value of RESET in its cycle and in any other, as bits
active_bit : (a : Active) → active_value a ≡ bit_number a.value
active_bit a = elim a.value as (λ b. (if b then 1 else 0) ≡ bit_number b) [ true ↦ refl | false ↦ refl ]

idle_bit : (a : Active) → idle_value a ≡ bit_number (not a.value)
idle_bit a = elim a.value as (λ b. (if b then 0 else 1) ≡ bit_number (not b)) [ true ↦ refl | false ↦ refl ]

and_true : (b : Bool) → (b && true) ≡ b
and_true true = refl
and_true false = refl

-- a design and a claim about it, which are those of a source and a table
pub record Fitting (S : SourceTree) (T : TableTree) (subject : Subject) : Type 0 where
  pub does : Behaves S subject.design
  pub is : IsClaimOf T subject.claim
  pub sees : interface_in subject.claim.face ≡ face_of subject.design
  pub at : IsAt (vector_names subject.design.inputs.items) subject.reset T.reset.port
  pub bit : slice_get (vector_widths subject.design.inputs.items) subject.reset ≡ Some 1
  pub one : (s inp : Values) → IsState S s → IsGiven S inp → HasOneCycle S s inp
  pub after : (s inp v s' : Values) → IsState S s → IsGiven S inp → Cycle S s inp v → Next S v s' → IsState S s'

module _ (S : SourceTree) (T : TableTree) (subject : Subject) (fit : Fitting S T subject) where
  abbrev pub claim : Claim
  claim = subject.claim

  abbrev pub is : IsClaimOf T subject.claim
  is = fit.is

  abbrev pub does : Behaves S subject.design
  does = fit.does

  abbrev pub input_names : List (List ℕ)
  input_names = vector_names subject.design.inputs.items

  abbrev pub register_names : List (List ℕ)
  register_names = vector_names subject.design.registers.items

  abbrev pub input_widths : List ℕ
  input_widths = vector_widths subject.design.inputs.items

  abbrev pub register_widths : List ℕ
  register_widths = vector_widths subject.design.registers.items

  -- the numbers of the inputs, of the registers, and of all vectors
  abbrev pub input_numbers : Values → List ℕ
  input_numbers inp = values_of inp input_names

  abbrev pub register_numbers : Values → List ℕ
  register_numbers s = values_of s register_names

  abbrev pub all : Values → Values → List ℕ
  all s inp = input_numbers inp ++ register_numbers s

  active_is : (inp : Values) → IsActive T inp → inp (T.reset.port ∷ []) 0 ≡ bit_number claim.active
  active_is inp active = active ∙ active_bit T.reset ∙ ap bit_number (sym is.active)

  idle_is : (inp : Values) → IsIdle T inp → inp (T.reset.port ∷ []) 0 ≡ bit_number (not claim.active)
  idle_is inp idle = idle ∙ idle_bit T.reset ∙ ap (λ (b : Bool). bit_number (not b)) (sym is.active)

  -- the free values of a cycle
  abbrev pub free : Valuation → List ℕ
  free w = values_of w.input (without T.reset.port (root_inputs S.modules)) ++ values_of w.state (root_registers S.modules)

  all_are : (w : Valuation) (value : ℕ) → w.input (T.reset.port ∷ []) 0 ≡ value → all w.state w.input ≡ with_reset subject.reset value (free w)
  all_are w value at =
      put_in w.input input_names (register_numbers w.state) T.reset.port subject.reset value (free w) does.inputs_distinct fit.at at
      (ap₂ (λ (xs ys : List (List ℕ)). values_of w.input (without T.reset.port xs) ++ values_of w.state ys) (sym does.inputs_are) (sym does.registers_are))

  -- what the table sees, before the clock edge and behind it
  before_are : (s inp : Values) → IsState S s → IsGiven S inp → AreLeaves (interface_in claim.face) s inp (leaves_before subject (all s inp))
  before_are s inp suits given =
      let long : length (input_numbers inp) ≡ length input_widths = within_long input_widths (input_numbers inp) (does.given_within inp given) in
      let apart : leaves_before subject (all s inp) ≡ seen input_widths (input_numbers inp) ++ seen register_widths (register_numbers s) =
      seen_append input_widths register_widths (input_numbers inp) (register_numbers s) long in
      subst (λ (f : Interface). AreLeaves f s inp (leaves_before subject (all s inp))) (sym fit.sees)
      (both_bits (values_of inp (bit_names subject.design.inputs.items)) (values_of s (bit_names subject.design.registers.items)) (seen input_widths (input_numbers inp)) (seen register_widths (register_numbers s))
      (seen_are inp subject.design.inputs.items (does.given_within inp given)) (seen_are s subject.design.registers.items (does.state_within s suits))
      ∙ ap (map bit_number) (sym apart))

  seen_inputs : (inp : Values) → length (values_of inp (interface_in claim.face).inputs) ≡ length claim.face.inputs.items
  seen_inputs inp = length-map (interface_in claim.face).inputs (λ (name : List ℕ). inp (name ∷ []) 0) ∙ length-map claim.face.inputs.items string_bytes

  after_are : (s inp v s' : Values) → IsState S s → IsGiven S inp → Cycle S s inp v → Next S v s' → AreLeaves (interface_in claim.face) s' inp (leaves_after subject (all s inp))
  after_are s inp v s' suits given cycle next =
      let F = interface_in claim.face in
      let front : AreBits (values_of inp F.inputs) (take (length (values_of inp F.inputs)) (leaves_before subject (all s inp))) =
      front_bits (values_of inp F.inputs) (values_of s F.registers) (leaves_before subject (all s inp)) (before_are s inp suits given) in
      let later : AreBits (values_of s' (bit_names subject.design.registers.items)) (seen register_widths (register_numbers s')) =
      seen_are s' subject.design.registers.items (does.state_within s' (fit.after s inp v s' suits given cycle next)) in
      let back : AreBits (values_of s' F.registers) (seen register_widths (next_numbers subject (all s inp))) =
      ap (λ (f : Interface). values_of s' f.registers) fit.sees ∙ later ∙ ap (λ (ns : List ℕ). map bit_number (seen register_widths ns)) (does.next s inp v s' cycle next) in
      both_bits (values_of inp F.inputs) (values_of s' F.registers) (take (length claim.face.inputs.items) (leaves_before subject (all s inp))) (seen register_widths (next_numbers subject (all s inp)))
      (subst (λ (n : ℕ). AreBits (values_of inp F.inputs) (take n (leaves_before subject (all s inp)))) (seen_inputs inp) front) back

  -- a goal that its trial decides at all numbers
  abbrev pub IsResetTold : Tried → Goal → Type 0
  IsResetTold g goal = (s inp v s' : Values) → IsState S s → IsGiven S inp → Cycle S s inp v → Next S v s' → IsTold (reset_at subject g (all s inp)) (ResetGoal T s' goal)

  abbrev pub IsEndTold : ClassTree → Tried → Goal → Type 0
  IsEndTold c g goal = (s inp v s' : Values) → IsState S s → IsGiven S inp → Cycle S s inp v → Next S v s' →
      IsTold (end_passes claim g (leaves_before subject (all s inp)) (leaves_after subject (all s inp))) (EndGoal T c s inp s' goal)

  pub reset_decides : (g : Tried) (goal : Goal) → IsResetTold g goal → Decides S T subject (reset goal) (which.Reset g)
  reset_decides g goal told = record {
    holds = λ w suits on v s' cycle next.
        (told w.state w.input v s' suits.0 suits.1 cycle next).yes (ap (reset_at subject g) (all_are w (bit_number claim.active) (active_is w.input suits.2)) ∙ on);
    violated = λ w suits off.
        let here = fit.one w.state w.input suits.0 suits.1 in
        let next = here.next here.cycle.0 in (
          here.cycle.0,
          (
            next.0,
            here.cycle.1,
            next.1,
            (told w.state w.input here.cycle.0 next.0 suits.0 suits.1 here.cycle.1 next.1).no (ap (reset_at subject g) (all_are w (bit_number claim.active) (active_is w.input suits.2)) ∙ off),
          ),
        );
  }

  -- the premises, told by their test
  premises_told : (s inp : Values) (leaves : List Bool) → AreLeaves (interface_in claim.face) s inp leaves → IsTold (premises claim leaves) (Premises T is.small.class s)
  premises_told s inp leaves are =
      let one = told_one (table_value T.invariant (source_names s)) (logic_value claim.invariant leaves) (is.invariant s inp leaves are) in
      let two = told_one (table_value T.boundary (source_names s)) (logic_value claim.boundary leaves) (is.boundary s inp leaves are) in
      let three : fits is.small.class.pattern 0 ≡ place_fits claim.pattern false = ap (λ (p : List ℕ). fits p 0) is.pattern ∙ and_true (place_fits claim.pattern false) in
      record {
        yes = λ on.
            let parts = and_parts (logic_value claim.invariant leaves) (logic_value claim.boundary leaves && place_fits claim.pattern false) on in
            let more = and_parts (logic_value claim.boundary leaves) (place_fits claim.pattern false) parts.1 in
            record { invariant = one.yes parts.0; boundary = two.yes more.0; fit = three ∙ more.1 };
        no = λ off kept. not_both off
            (and_from (logic_value claim.invariant leaves) (logic_value claim.boundary leaves && place_fits claim.pattern false) (is_on one kept.invariant)
            (and_from (logic_value claim.boundary leaves) (place_fits claim.pattern false) (is_on two kept.boundary) (sym three ∙ kept.fit)));
      }
    where
      and_parts : (a b : Bool) → (a && b) ≡ true → (a ≡ true) × (b ≡ true)
      and_parts true true e = (refl, refl)
      and_parts true false e = absurd (let f : false ≡ true = e in cc)
      and_parts false b e = absurd (let f : false ≡ true = e in cc)

      and_from : (a b : Bool) → a ≡ true → b ≡ true → (a && b) ≡ true
      and_from a b e f = rw e f

      not_both : {b : Bool} → b ≡ false → b ≡ true → ⊥
      not_both off on = let f : true ≡ false = sym on ∙ off in cc

      is_on : {b : Bool} {P : Type 0} → IsTold b P → P → b ≡ true
      is_on {b = true} told p = refl
      is_on {b = false} told p = absurd (told.no refl p)

  pub end_decides : (g : Tried) (goal : Goal) → IsEndTold is.small.class g goal → Decides S T subject (ends is.small.class 0 goal) (which.End g)
  end_decides g goal told = record {
    holds = λ w suits on v s' cycle next kept.
        let ns = all w.state w.input in
        let here : end_at subject g ns ≡ true = ap (end_at subject g) (all_are w (bit_number (not claim.active)) (idle_is w.input suits.2)) ∙ on in
        (told w.state w.input v s' suits.0 suits.1 cycle next).yes
        (cond_on (premises claim (leaves_before subject ns)) (end_passes claim g (leaves_before subject ns) (leaves_after subject ns))
        (λ off. (premises_told w.state w.input (leaves_before subject ns) (before_are w.state w.input suits.0 suits.1)).no off kept) here);
    violated = λ w suits off.
        let ns = all w.state w.input in
        let there : end_at subject g ns ≡ false = ap (end_at subject g) (all_are w (bit_number (not claim.active)) (idle_is w.input suits.2)) ∙ off in
        let here = fit.one w.state w.input suits.0 suits.1 in
        let next = here.next here.cycle.0 in
        let parts = cond_off (premises claim (leaves_before subject ns)) (end_passes claim g (leaves_before subject ns) (leaves_after subject ns)) there in (
          here.cycle.0,
          (
            next.0,
            here.cycle.1,
            next.1,
            (premises_told w.state w.input (leaves_before subject ns) (before_are w.state w.input suits.0 suits.1)).yes parts.0,
            (told w.state w.input here.cycle.0 next.0 suits.0 suits.1 here.cycle.1 next.1).no parts.1,
          ),
        );
  }
    where
      cond_on : (a b : Bool) → (a ≡ false → ⊥) → cond a b true ≡ true → b ≡ true
      cond_on true b holds e = e
      cond_on false b holds e = absurd (holds refl)

      cond_off : (a b : Bool) → cond a b true ≡ false → (a ≡ true) × (b ≡ false)
      cond_off true b e = (refl, e)
      cond_off false b e = absurd (let f : true ≡ false = e in cc)

  -- the goals
  pub reset_invariant : IsResetTold goal.Invariant invariant
  reset_invariant s inp v s' suits given cycle next =
      told_one (table_value T.invariant (source_names s')) (logic_value claim.invariant (leaves_after subject (all s inp)))
      (is.invariant s' inp (leaves_after subject (all s inp)) (after_are s inp v s' suits given cycle next))

  pub reset_boundary : IsResetTold goal.Boundary boundary
  reset_boundary s inp v s' suits given cycle next =
      told_one (table_value T.boundary (source_names s')) (logic_value claim.boundary (leaves_after subject (all s inp)))
      (is.boundary s' inp (leaves_after subject (all s inp)) (after_are s inp v s' suits given cycle next))

  pub end_invariant : IsEndTold is.small.class goal.Invariant invariant
  end_invariant s inp v s' suits given cycle next =
      told_one (table_value T.invariant (source_names s')) (logic_value claim.invariant (leaves_after subject (all s inp)))
      (is.invariant s' inp (leaves_after subject (all s inp)) (after_are s inp v s' suits given cycle next))

  pub end_boundary : IsEndTold is.small.class goal.Boundary boundary
  end_boundary s inp v s' suits given cycle next =
      told_one (table_value T.boundary (source_names s')) (logic_value claim.boundary (leaves_after subject (all s inp)))
      (is.boundary s' inp (leaves_after subject (all s inp)) (after_are s inp v s' suits given cycle next))

  pub reset_start : (number : ℕ) (row : SetTree) (one : Start) → slice_get claim.starts.items number ≡ Some one → IsClaimedStart (interface_in claim.face) T row one → IsResetTold (goal.State number) (start row)
  reset_start number row one at claimed s inp v s' suits given cycle next =
      rw at
      (told_same (state_value T.states (shown T s') row.name) (table_value row.value no_names) (slice_index_or (leaves_after subject (all s inp)) one.leaf false) (logic_value one.value (leaves_before subject (all s inp)))
      (claimed.state_is s' inp (leaves_after subject (all s inp)) (after_are s inp v s' suits given cycle next))
      (claimed.value_is (leaves_before subject (all s inp))))

  pub end_state : (number : ℕ) (row : StateTree) (one : State) → slice_get claim.states.items number ≡ Some one → IsClaimedState (interface_in claim.face) T is.small.class row one →
      IsEndTold is.small.class (goal.State number) (state row)
  end_state number row one at claimed s inp v s' suits given cycle next =
      rw at
      (told_same (table_value row.shown (source_names s'))
      (set_value is.small.class.sets row.name (table_value row.shown (source_names s)) (class_names T (shown T s) 0 (loaded_word is.small.class (answer_of T inp))))
      (slice_index_or (leaves_after subject (all s inp)) one.leaf false) (logic_value one.set (leaves_before subject (all s inp)))
      (claimed.shown_is s' inp (leaves_after subject (all s inp)) (after_are s inp v s' suits given cycle next))
      (claimed.set_is s inp (leaves_before subject (all s inp)) (before_are s inp suits given)))

  -- the word of one bit
  pub cover_decides : Decides S T subject cover which.Cover
  cover_decides = record {
    holds = λ w suits on. (
      is.small.class,
      record {
        listed = subst (λ (cs : List ClassTree). IsIn is.small.class cs) (sym is.small.one_class) (inl refl);
        fit = fits_bit w.word (low w.word suits) ∙ on;
      },
    );
    violated = λ w suits off c class.
        let same : c ≡ is.small.class = only (subst (λ (cs : List ClassTree). IsIn c cs) is.small.one_class class.listed) in
        let fitted : fits is.small.class.pattern w.word ≡ true = subst (λ (d : ClassTree). fits d.pattern w.word ≡ true) same class.fit in
        let f : true ≡ false = sym fitted ∙ fits_bit w.word (low w.word suits) ∙ off in cc;
  }
    where
      low : (n : ℕ) → n < 2 ^ 1 → n ≤ 1
      low n below = omega arith

      only : {c d : ClassTree} → IsIn c (d ∷ []) → c ≡ d
      only (inl same) = same
      only (inr none) = absurd none

      one_place : (p : ℕ) (b : Bool) → fits (p ∷ []) (bit_number b) ≡ place_fits p b
      one_place p true = and_true (place_fits p true)
      one_place p false = and_true (place_fits p false)

      fits_bit : (word : ℕ) → word ≤ 1 → fits is.small.class.pattern word ≡ place_fits claim.pattern (nat_eq (slice_index_or (word ∷ []) 0 0) 1)
      fits_bit word below =
          ap (λ (p : List ℕ). fits p word) is.pattern ∙ ap (λ n. fits (claim.pattern ∷ []) n) (bit_back word below) ∙ one_place claim.pattern (nat_eq word 1)

  -- the free values of a cycle are within their widths
  reset_place : subject.reset < length input_widths
  reset_place = slice_get_within input_widths subject.reset 1 fit.bit

  cycle_within : (w : Valuation) (value : ℕ) → IsState S w.state → IsGiven S w.input → w.input (T.reset.port ∷ []) 0 ≡ value → AreWithin (but_one subject.reset input_widths register_widths) (free w)
  cycle_within w value suits given at =
      let whole : AreWithin (input_widths ++ register_widths) (all w.state w.input) =
      within_both input_widths register_widths (input_numbers w.input) (register_numbers w.state) (does.given_within w.input given) (does.state_within w.state suits) in
      let put : AreWithin (input_widths ++ register_widths) (with_reset subject.reset value (free w)) =
      subst (AreWithin (input_widths ++ register_widths)) (all_are w value at) whole in
      let long : length (with_reset subject.reset value (free w)) ≡ length (input_widths ++ register_widths) =
      within_long (input_widths ++ register_widths) (with_reset subject.reset value (free w)) put in
      let parts : length (input_widths ++ register_widths) ≡ length input_widths + length register_widths = length-append input_widths register_widths in
      let longer : length (with_reset subject.reset value (free w)) ≡ suc (length (free w)) = one_longer subject.reset value (free w) in
      within_out input_widths register_widths (free w) subject.reset value reset_place (let p = reset_place in omega (arith, p, long, parts, longer)) put
    where
      one_longer : (place value : ℕ) (ns : List ℕ) → length (with_reset place value ns) ≡ suc (length ns)
      one_longer zero value ns = refl
      one_longer (suc place) value [] = refl
      one_longer (suc place) value (n ∷ ns) = ap suc (one_longer place value ns)

  -- a state and an input with given numbers
  cycle_valuation : (bit : Bool) (ns : List ℕ) → AreWithin (but_one subject.reset input_widths register_widths) ns →
      (w : Valuation) × IsState S w.state × IsGiven S w.input × (w.input (T.reset.port ∷ []) 0 ≡ bit_number bit) × (free w ≡ ns)
  cycle_valuation bit ns within =
      let put : AreWithin (input_widths ++ register_widths) (with_reset subject.reset (bit_number bit) ns) =
      within_put input_widths register_widths ns subject.reset (bit_number bit) fit.bit (bit_low bit) within in
      let parts = halves input_widths register_widths (with_reset subject.reset (bit_number bit) ns) put in
      let inp = does.given_of parts.front parts.front_within in
      let s = does.state_of parts.back parts.back_within in
      let w : Valuation = record { word = 0; state = s.0; input = inp.0 } in
      let here : input_numbers inp.0 ++ register_numbers s.0 ≡ with_reset subject.reset (bit_number bit) ns = ap₂ (λ (xs ys : List ℕ). xs ++ ys) inp.2 s.2 ∙ parts.both in
      let out = take_out inp.0 input_names (register_numbers s.0) T.reset.port subject.reset (bit_number bit) ns does.inputs_distinct fit.at (place_low ns within) here in (
        w,
        s.1,
        inp.1,
        out.0,
        ap₂ (λ (xs ys : List (List ℕ)). values_of inp.0 (without T.reset.port xs) ++ values_of s.0 ys) does.inputs_are does.registers_are ∙ out.1,
      )
    where
      place_low : (ns : List ℕ) → AreWithin (but_one subject.reset input_widths register_widths) ns → subject.reset ≤ length ns
      place_low ns within =
          let long : length ns ≡ length (but_one subject.reset input_widths register_widths) =
          within_long (but_one subject.reset input_widths register_widths) ns within in
          let parts : length (but_one subject.reset input_widths register_widths) ≡ length (take subject.reset input_widths) + length (drop (subject.reset + 1) input_widths ++ register_widths) =
          length-append (take subject.reset input_widths) (drop (subject.reset + 1) input_widths ++ register_widths) in
          let taken : length (take subject.reset input_widths) ≡ subject.reset = length-take-le subject.reset input_widths (let p = reset_place in omega (arith, p)) in
          omega (arith, long, parts, taken)

  is_active : (inp : Values) → inp (T.reset.port ∷ []) 0 ≡ bit_number claim.active → IsActive T inp
  is_active inp at = at ∙ ap bit_number is.active ∙ sym (active_bit T.reset)

  is_idle : (inp : Values) → inp (T.reset.port ∷ []) 0 ≡ bit_number (not claim.active) → IsIdle T inp
  is_idle inp at = at ∙ ap (λ (b : Bool). bit_number (not b)) is.active ∙ sym (idle_bit T.reset)

  pub reset_spans : (g : Tried) (goal : Goal) → Spans S T subject (reset goal) (which.Reset g)
  reset_spans g goal = record {
    within = λ w suits. cycle_within w (bit_number claim.active) suits.0 suits.1 (active_is w.input suits.2);
    valuation = λ ns within. let made = cycle_valuation claim.active ns within in (made.0, (made.1, made.2, is_active made.0.input made.3), made.4);
  }

  pub end_spans : (g : Tried) (goal : Goal) → Spans S T subject (ends is.small.class 0 goal) (which.End g)
  end_spans g goal = record {
    within = λ w suits. cycle_within w (bit_number (not claim.active)) suits.0 suits.1 (idle_is w.input suits.2);
    valuation = λ ns within. let made = cycle_valuation (not claim.active) ns within in (made.0, (made.1, made.2, is_idle made.0.input made.3), made.4);
  }

  pub cover_spans : Spans S T subject cover which.Cover
  cover_spans = record {
    within = λ w below. (below, tt);
    valuation = one_number;
  }
    where
      one_number : (ns : List ℕ) → AreWithin (1 ∷ []) ns → (w : Valuation) × IsValuation S T cover w × (free_values S T cover w ≡ ns)
      one_number [] within = absurd within
      one_number (n ∷ []) within = (record { word = n; state = λ path n. 0; input = λ path n. 0 }, within.0, refl)
      one_number (n ∷ m ∷ ns) within = absurd within.1

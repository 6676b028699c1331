-- A worked design with a stall and turns meets all its 25 obligations.
use Rattle.std.proofs.Common.{◌≡◌, ◌<◌, ◌+◌, ◌-◌, ◌/◌, ◌%◌, ◌^◌, ℕ, suc, Bool, true, false, cond, not, List, [], ◌∷◌, refl, sym, ap, ap₂, ◌∙◌, subst, arith, inl, inr, Option, Some, None, ◌++◌, map}
use Rattle.std.specs.List.{AllByRecursion}
use Rattle.lola_bits.proofs.All.{all_append}
use Rattle.std.specs.Prelude.{codes, nat_eq, bit_and, if◌then◌else◌}
use Rattle.std.proofs.lemmas.Bool.{cases_Bool}
use Rattle.std.proofs.lemmas.Bool.Decides.{nat_tests}
use Rattle.lola_bits.specs.declared.op.Op.TheVariants as op
use Rattle.lola_bits.specs.declared.vector.Bits.{Bits}
use Rattle.lola_bits.specs.Number as bits
use Rattle.lola_tree.specs.declared.module.Way.TheVariants.{Inward, Outward}
use Rattle.lola_tree.specs.declared.module.LocalKind.TheVariants.{Reg}
use Rattle.lola_tree.specs.declared.module.Local.{Local}
use Rattle.lola_tree.specs.Tree.{negation, binary, choice, assignment, SourceTree}
use Rattle.lola_tree.specs.Value.{Values}
use Rattle.lola_tree.specs.design.Cycle.{IsGiven, Cycle, Next}
use Rattle.tab_tree.specs.declared.value.StateValue.{StateValue}
use Rattle.tab_tree.specs.declared.value.StateValue.TheVariants.{One}
use Rattle.tab_tree.specs.Names.{vector, vector_form}
use Rattle.tab_tree.specs.Step.{Words, with_turned, of_class, Subject}
use Rattle.tab_tree.specs.Headline.{is_unstalled, IsIdle}
use Rattle.obl_def.specs.Obligations.{Edge, stall, turn, on, finish, Goal, invariant, entry, state, Obligation, reset, edge, edge_obligations, subject_obligations, reset_goals}
use Rattle.obl_def.specs.Valuation.{Valuation, SuitsForm, SuitsWords, SuitsEdge}
use Rattle.obl_def.specs.Holds.{HoldsAt, HoldsAlways, AllHold}
use Rattle.tab_tree.specs.Table.{PhaseTree}
use Rattle.obl_def.proofs.Tables.{named, register, bare, sized, of_width, equal, both, quiet, turning_phase, last_phase, turning, turning_class, turning_table}
use Rattle.obl_def.proofs.Storing.{port}

abbrev local : List ℕ → ℕ → Local
local name width = record { kind = Reg (record { name = codes "clk"; at = 0 }) (of_width width); name = name; at = 0 }

abbrev tri : SourceTree
tri = record {
  modules =
      record {
        name = codes "Tri";
        ports = port Inward (codes "clk") ∷ port Inward (codes "rst") ∷ port Inward (codes "st") ∷ port Outward (codes "o") ∷ [];
        consts = [];
        locals = local (codes "q") 1 ∷ local (codes "a") 1 ∷ local (codes "c") 2 ∷ [];
        body =
            assignment (codes "c") None (choice (named (codes "rst")) (sized 0 2) (choice (named (codes "st")) (named (codes "c")) (binary op.Add (named (codes "c")) (sized 1 2) 0) 0) 0) 0 0
            ∷ assignment (codes "a") None (choice (named (codes "st")) (named (codes "a")) (choice (equal (named (codes "c")) (sized 0 2)) (named (codes "q")) (negation (named (codes "a")) 0) 0) 0) 0 0
            ∷ assignment (codes "q") None
            (choice (named (codes "rst")) (bare 0) (choice (both (negation (named (codes "st")) 0) (equal (named (codes "c")) (sized 3 2))) (negation (named (codes "a")) 0) (named (codes "q")) 0) 0) 0 0
            ∷ assignment (codes "o") None (named (codes "q")) 0 0 ∷ [];
        ends = record { name = codes "Tri"; at = 0 };
        at = 0;
      } ∷ [];
}

abbrev at : Values → List ℕ → ℕ
at v name = v (name ∷ []) 0

-- the next values, by numbers
abbrev next_c : (rst st c : ℕ) → ℕ
next_c rst st c = cond (nat_eq rst 1) 0 (cond (nat_eq st 1) c ((c + 1) % 2 ^ 2))

abbrev next_a : (st q a c : ℕ) → ℕ
next_a st q a c = cond (nat_eq st 1) a (cond (nat_eq (bits.number (nat_eq c 0)) 1) q (2 ^ 1 - 1 - a))

abbrev next_q : (rst st q a c : ℕ) → ℕ
next_q rst st q a c = cond (nat_eq rst 1) 0 (cond (nat_eq (bit_and (2 ^ 1 - 1 - st) (bits.number (nat_eq c 3))) 1) (2 ^ 1 - 1 - a) q)

record Steps (s inp s' : Values) : Type 0 where
  c : at s' (codes "c") ≡ next_c (at inp (codes "rst")) (at inp (codes "st")) (at s (codes "c"))
  a : at s' (codes "a") ≡ next_a (at inp (codes "st")) (at s (codes "q")) (at s (codes "a")) (at s (codes "c"))
  q : at s' (codes "q") ≡ next_q (at inp (codes "rst")) (at inp (codes "st")) (at s (codes "q")) (at s (codes "a")) (at s (codes "c"))

steps : (s inp v s' : Values) → Cycle tri s inp v → Next tri v s' → Steps s inp s'
steps s inp v s' cycle next =
    let rst : at v (codes "rst") ≡ at inp (codes "rst") = cycle.inputs _ (inr (inl refl), refl) in
    let st : at v (codes "st") ≡ at inp (codes "st") = cycle.inputs _ (inr (inr (inl refl)), refl) in
    let q : at v (codes "q") ≡ at s (codes "q") = cycle.registers _ (inr (inr (inr (inr (inl refl)))), refl) in
    let a : at v (codes "a") ≡ at s (codes "a") = cycle.registers _ (inr (inr (inr (inr (inr (inl refl))))), refl) in
    let c : at v (codes "c") ≡ at s (codes "c") = cycle.registers _ (inr (inr (inr (inr (inr (inr (inl refl)))))), refl) in
    record {
      c = next _ (inl refl) ∙ (λ i. next_c (rst i) (st i) (c i));
      a = next _ (inr (inl refl)) ∙ (λ i. next_a (st i) (q i) (a i) (c i));
      q = next _ (inr (inr (inl refl))) ∙ (λ i. next_q (rst i) (st i) (q i) (a i) (c i));
    }

-- what the next values are on each edge
no_last : (b : Bool) (x y : ℕ) → cond (nat_eq (bit_and 0 (bits.number b)) 1) x y ≡ y
no_last true x y = refl
no_last false x y = refl

q_stalled : (rst st q a c : ℕ) → nat_eq rst 1 ≡ false → st ≡ 1 → next_q rst st q a c ≡ q
q_stalled rst st q a c idle one = rw (idle, one) (no_last (nat_eq c 3) (2 ^ 1 - 1 - a) q)

a_stalled : (st q a c : ℕ) → st ≡ 1 → next_a st q a c ≡ a
a_stalled st q a c one = rw one refl

c_stalled : (rst st c : ℕ) → nat_eq rst 1 ≡ false → st ≡ 1 → next_c rst st c ≡ c
c_stalled rst st c idle one = rw (idle, one) refl

q_free : (rst q a c : ℕ) → nat_eq rst 1 ≡ false → nat_eq c 3 ≡ false → next_q rst 0 q a c ≡ q
q_free rst q a c idle other = rw (idle, other) refl

q_last : (rst q a : ℕ) → nat_eq rst 1 ≡ false → next_q rst 0 q a 3 ≡ 2 ^ 1 - 1 - a
q_last rst q a idle = rw idle refl

c_free : (rst c : ℕ) → nat_eq rst 1 ≡ false → next_c rst 0 c ≡ (c + 1) % 2 ^ 2
c_free rst c idle = rw idle refl

one_of : (x : ℕ) → not (nat_eq x 1) ≡ false → x ≡ 1
one_of x e = grind (arith, nat_tests)

zero_of : (x : ℕ) → not (nat_eq x 1) ≡ true → x < 2 → x ≡ 0
zero_of x e small = grind (arith, nat_tests)

is_number : (x y : ℕ) → bits.number (nat_eq x y) ≡ 1 → x ≡ y
is_number x y e = elim (cases_Bool (nat_eq x y)) [
  | inl p ↦ grind (arith, nat_tests)
  | inr p ↦ let f : ◌≡◌ {A = ℕ} 0 1 = rw p at e in absurd (cc)
]

number_is : (x y : ℕ) → x ≡ y → bits.number (nat_eq x y) ≡ 1
number_is x y e = let p : nat_eq x y ≡ true = grind (arith, nat_tests) in rw p refl

both_tests : (x y : Bool) → bit_and (bits.number x) (bits.number y) ≡ 1 → (bits.number x ≡ 1) × (bits.number y ≡ 1)
both_tests true true e = (refl, refl)
both_tests true false e = absurd (let f : 0 ≡ 1 = e in cc)
both_tests false true e = absurd (let f : 0 ≡ 1 = e in cc)
both_tests false false e = absurd (let f : 0 ≡ 1 = e in cc)

both_of : (x y z w : ℕ) → bit_and (bits.number (nat_eq x y)) (bits.number (nat_eq z w)) ≡ 1 → (x ≡ y) × (z ≡ w)
both_of x y z w e = let t = both_tests (nat_eq x y) (nat_eq z w) e in (is_number x y t.0, is_number z w t.1)

are_both : (x y z w : ℕ) → x ≡ y → z ≡ w → bit_and (bits.number (nat_eq x y)) (bits.number (nat_eq z w)) ≡ 1
are_both x y z w e f = ap₂ bit_and (number_is x y e) (number_is z w f)

-- inputs and registers of one bit
small_st : (inp : Values) → IsGiven tri inp → at inp (codes "st") < 2
small_st inp is = is.inputs _ (inr (inr (inl refl)), refl)

-- what an edge does, from its state and input
module _ (s inp v s' : Values) (cycle : Cycle tri s inp v) (next : Next tri v s') (idle : IsIdle turning_table inp) where
  stays : is_unstalled turning_table inp ≡ false → (at s' (codes "q") ≡ at s (codes "q")) × (at s' (codes "a") ≡ at s (codes "a")) × (at s' (codes "c") ≡ at s (codes "c"))
  stays stalled =
      let t = steps s inp v s' cycle next in
      let one = one_of (at inp (codes "st")) stalled in
      (t.q ∙ q_stalled (at inp (codes "rst")) (at inp (codes "st")) (at s (codes "q")) (at s (codes "a")) (at s (codes "c")) idle one, t.a ∙ a_stalled (at inp (codes "st")) (at s (codes "q")) (at s (codes "a")) (at s (codes "c")) one, t.c ∙ c_stalled (at inp (codes "rst")) (at inp (codes "st")) (at s (codes "c")) idle one)

  module _ (given : IsGiven tri inp) (free : is_unstalled turning_table inp ≡ true) where
    none : at inp (codes "st") ≡ 0
    none = zero_of (at inp (codes "st")) free (small_st inp given)

    first : at s (codes "c") ≡ 0 → (at s' (codes "q") ≡ at s (codes "q")) × (at s' (codes "a") ≡ at s (codes "q")) × (at s' (codes "c") ≡ 1)
    first z =
        let t = steps s inp v s' cycle next in (
          t.q ∙ (λ i. next_q (at inp (codes "rst")) (none i) (at s (codes "q")) (at s (codes "a")) (z i)) ∙ q_free (at inp (codes "rst")) (at s (codes "q")) (at s (codes "a")) 0 idle refl,
          t.a ∙ (λ i. next_a (none i) (at s (codes "q")) (at s (codes "a")) (z i)),
          t.c ∙ (λ i. next_c (at inp (codes "rst")) (none i) (z i)) ∙ c_free (at inp (codes "rst")) 0 idle,
        )

    one : at s (codes "c") ≡ 1 → (at s' (codes "q") ≡ at s (codes "q")) × (at s' (codes "a") ≡ 2 ^ 1 - 1 - at s (codes "a")) × (at s' (codes "c") ≡ 2)
    one z =
        let t = steps s inp v s' cycle next in (
          t.q ∙ (λ i. next_q (at inp (codes "rst")) (none i) (at s (codes "q")) (at s (codes "a")) (z i)) ∙ q_free (at inp (codes "rst")) (at s (codes "q")) (at s (codes "a")) 1 idle refl,
          t.a ∙ (λ i. next_a (none i) (at s (codes "q")) (at s (codes "a")) (z i)),
          t.c ∙ (λ i. next_c (at inp (codes "rst")) (none i) (z i)) ∙ c_free (at inp (codes "rst")) 1 idle,
        )

    two : at s (codes "c") ≡ 2 → (at s' (codes "q") ≡ at s (codes "q")) × (at s' (codes "a") ≡ 2 ^ 1 - 1 - at s (codes "a")) × (at s' (codes "c") ≡ 3)
    two z =
        let t = steps s inp v s' cycle next in (
          t.q ∙ (λ i. next_q (at inp (codes "rst")) (none i) (at s (codes "q")) (at s (codes "a")) (z i)) ∙ q_free (at inp (codes "rst")) (at s (codes "q")) (at s (codes "a")) 2 idle refl,
          t.a ∙ (λ i. next_a (none i) (at s (codes "q")) (at s (codes "a")) (z i)),
          t.c ∙ (λ i. next_c (at inp (codes "rst")) (none i) (z i)) ∙ c_free (at inp (codes "rst")) 2 idle,
        )

    three : at s (codes "c") ≡ 3 → (at s' (codes "q") ≡ 2 ^ 1 - 1 - at s (codes "a")) × (at s' (codes "c") ≡ 0)
    three z =
        let t = steps s inp v s' cycle next in (
          t.q ∙ (λ i. next_q (at inp (codes "rst")) (none i) (at s (codes "q")) (at s (codes "a")) (z i)) ∙ q_last (at inp (codes "rst")) (at s (codes "q")) (at s (codes "a")) idle,
          t.c ∙ (λ i. next_c (at inp (codes "rst")) (none i) (z i)) ∙ c_free (at inp (codes "rst")) 3 idle,
        )

-- the accumulator of phase 1, where it is in scope
word_of : (o : Option Bits) → SuitsForm (Some (vector_form 1)) o → (t : ℕ) × (o ≡ Some (vector 1 t))
word_of None h = absurd h
word_of (Some x) h = (x.value, ap (λ (n : ℕ). Some (vector n x.value)) h.wide)

same_words : (m : Words) (t : ℕ) → m.turned 1 ≡ Some (vector 1 t) → m ≡ with_turned m 1 (Some (vector 1 t))
same_words m t is = λ i. record { loaded = m.loaded; turned = λ j. at_place j i }
  where
    at_place : (j : ℕ) → m.turned j ≡ (if nat_eq j 1 then Some (vector 1 t) else m.turned j)
    at_place j = elim (cases_Bool (nat_eq j 1)) [
      | inl e ↦ let same : 1 ≡ j = grind (arith, nat_tests) in rw e (subst (λ (k : ℕ). m.turned k ≡ Some (vector 1 t)) same is)
      | inr e ↦ rw e refl
    ]

with_word : (p : ℕ) (phase : PhaseTree) (e : Edge) (goal : Goal) → ((m : Words) → SuitsWords tri turning_table turning p (suc p) m → SuitsForm (Some (vector_form 1)) (m.turned 1)) →
    ((w : Valuation) (t : ℕ) → SuitsEdge tri turning_table turning p e w → HoldsAt tri turning_table (edge (of_class turning_class turning) p phase e goal) (record w { words = with_turned w.words 1 (Some (vector 1 t)) })) →
    HoldsAlways tri turning_table (edge (of_class turning_class turning) p phase e goal)
with_word p phase e goal has holds w suits =
    let x = word_of (w.words.turned 1) (has w.words suits.words) in
    subst (λ (m : Words). HoldsAt tri turning_table (edge (of_class turning_class turning) p phase e goal) (record w { words = m })) (sym (same_words w.words x.0 x.1)) (holds w x.0 suits)

-- the place of the count in c
abbrev place : ℕ → ℕ
place k = (k / 2 ^ 0 % 2 ^ (1 - 0 + 1) + 1) % 2 ^ 2

abbrev shown : ℕ → StateValue
shown n = One (vector 1 n)

module _ (s inp v s' : Values) (cycle : Cycle tri s inp v) (next : Next tri v s') (idle : IsIdle turning_table inp) where
  -- phase 1: a is the accumulator t, and c the place of the count k
  module _ (t k : ℕ) (entry : bit_and (bits.number (nat_eq (at s (codes "a")) t)) (bits.number (nat_eq (at s (codes "c")) (place k))) ≡ 1) where
    stall_link : is_unstalled turning_table inp ≡ false → bit_and (bits.number (nat_eq (at s' (codes "a")) t)) (bits.number (nat_eq (at s' (codes "c")) (place k))) ≡ 1
    stall_link stalled =
        let e = both_of (at s (codes "a")) t (at s (codes "c")) (place k) entry in
        let r = stays s inp v s' cycle next idle stalled in
        are_both (at s' (codes "a")) t (at s' (codes "c")) (place k) (r.1 ∙ e.0) (r.2 ∙ e.1)

    module _ (given : IsGiven tri inp) (free : is_unstalled turning_table inp ≡ true) where
      turns_on : k ≡ 0 → (at s' (codes "q") ≡ at s (codes "q")) × (bit_and (bits.number (nat_eq (at s' (codes "a")) (2 ^ 1 - 1 - t))) (bits.number (nat_eq (at s' (codes "c")) (place (suc k)))) ≡ 1)
      turns_on z =
          let e = both_of (at s (codes "a")) t (at s (codes "c")) (place k) entry in
          let r = one s inp v s' cycle next idle given free (e.1 ∙ ap place z) in
          (r.0, are_both (at s' (codes "a")) (2 ^ 1 - 1 - t) (at s' (codes "c")) (place (suc k)) (r.1 ∙ ap (λ (n : ℕ). 2 ^ 1 - 1 - n) e.0) (r.2 ∙ sym (ap (λ (n : ℕ). place (suc n)) z)))

      goes_on : k ≡ 1 → (at s' (codes "q") ≡ at s (codes "q")) × (bit_and (bits.number (nat_eq (at s' (codes "a")) (2 ^ 1 - 1 - t))) (bits.number (nat_eq (at s' (codes "c")) 3)) ≡ 1)
      goes_on z =
          let e = both_of (at s (codes "a")) t (at s (codes "c")) (place k) entry in
          let r = two s inp v s' cycle next idle given free (e.1 ∙ ap place z) in
          (r.0, are_both (at s' (codes "a")) (2 ^ 1 - 1 - t) (at s' (codes "c")) 3 (r.1 ∙ ap (λ (n : ℕ). 2 ^ 1 - 1 - n) e.0) r.2)

  -- phase 2: a is the accumulator t, and c is 3
  module _ (t : ℕ) (entry : bit_and (bits.number (nat_eq (at s (codes "a")) t)) (bits.number (nat_eq (at s (codes "c")) 3)) ≡ 1) where
    last_stall : is_unstalled turning_table inp ≡ false → bit_and (bits.number (nat_eq (at s' (codes "a")) t)) (bits.number (nat_eq (at s' (codes "c")) 3)) ≡ 1
    last_stall stalled =
        let e = both_of (at s (codes "a")) t (at s (codes "c")) 3 entry in
        let r = stays s inp v s' cycle next idle stalled in
        are_both (at s' (codes "a")) t (at s' (codes "c")) 3 (r.1 ∙ e.0) (r.2 ∙ e.1)

    ends : IsGiven tri inp → is_unstalled turning_table inp ≡ true → (at s' (codes "q") ≡ 2 ^ 1 - 1 - t) × (at s' (codes "c") ≡ 0)
    ends given free =
        let e = both_of (at s (codes "a")) t (at s (codes "c")) 3 entry in
        let r = three s inp v s' cycle next idle given free e.1 in
        (r.0 ∙ ap (λ (n : ℕ). 2 ^ 1 - 1 - n) e.0, r.1)

no_turn_left : (k : ℕ) → suc k < 2 → k ≡ 0
no_turn_left k h = omega arith

last_turn : (k : ℕ) → suc k ≡ 2 → k ≡ 1
last_turn k h = omega arith

-- the obligations, edge by edge
abbrev u : Subject
u = of_class turning_class turning

abbrev Hold : List Obligation → Type 0
Hold os = AllByRecursion (HoldsAlways tri turning_table) os

abbrev q_state : Goal
q_state = state 0 (record { name = codes "q"; shape = of_width 1; shown = register (codes "q") })

resets_hold : Hold (map reset (reset_goals turning_table))
resets_hold = (
  (λ w suits v s' cycle next. refl),
  (
    (λ w suits v s' cycle next. number_is (at s' (codes "c")) 0 ((steps w.state w.input v s' cycle next).c ∙ rw suits.active refl)),
    ((λ w suits v s' cycle next. (steps w.state w.input v s' cycle next).q ∙ rw suits.active refl), tt),
  ),
)

first_stalls : Hold (edge_obligations turning_table u 0 quiet stall)
first_stalls = (
  (λ w suits v s' cycle next premises. refl),
  (
    (λ w suits v s' cycle next premises.
        number_is (at s' (codes "c")) 0 ((stays w.state w.input v s' cycle next suits.idle suits.stalls).2 ∙ is_number (at w.state (codes "c")) 0 premises.entry)),
    ((λ w suits v s' cycle next premises. ap shown (stays w.state w.input v s' cycle next suits.idle suits.stalls).0), tt),
  ),
)

first_goes_on : Hold (edge_obligations turning_table u 0 quiet (on turning_phase))
first_goes_on = (
  (λ w suits v s' cycle next premises. refl),
  (
    (λ w suits v s' cycle next premises.
        let r = first w.state w.input v s' cycle next suits.idle suits.given suits.stalls (is_number (at w.state (codes "c")) 0 premises.entry) in
        are_both (at s' (codes "a")) (at w.state (codes "q")) (at s' (codes "c")) (place 0) r.1 r.2),
    ((λ w suits v s' cycle next premises. ap shown (first w.state w.input v s' cycle next suits.idle suits.given suits.stalls (is_number (at w.state (codes "c")) 0 premises.entry)).0), tt),
  ),
)

turn_stalls : Hold (edge_obligations turning_table u 1 turning_phase stall)
turn_stalls = (
  with_word 1 turning_phase stall invariant (λ m fit. fit.turned 1) (λ w t suits v s' cycle next premises. refl),
  (
    with_word 1 turning_phase stall entry (λ m fit. fit.turned 1) (λ w t suits v s' cycle next premises. stall_link w.state w.input v s' cycle next suits.idle t w.count premises.entry suits.stalls),
    (with_word 1 turning_phase stall q_state (λ m fit. fit.turned 1) (λ w t suits v s' cycle next premises. ap shown (stays w.state w.input v s' cycle next suits.idle suits.stalls).0), tt),
  ),
)

turn_turns : Hold (edge_obligations turning_table u 1 turning_phase turn)
turn_turns = (
  with_word 1 turning_phase turn invariant (λ m fit. fit.turned 1) (λ w t suits v s' cycle next premises. refl),
  (
    with_word 1 turning_phase turn entry (λ m fit. fit.turned 1) (λ w t suits v s' cycle next premises. (turns_on w.state w.input v s' cycle next suits.idle t w.count premises.entry suits.given suits.stalls (no_turn_left w.count premises.count)).1),
    (with_word 1 turning_phase turn q_state (λ m fit. fit.turned 1) (λ w t suits v s' cycle next premises. ap shown (turns_on w.state w.input v s' cycle next suits.idle t w.count premises.entry suits.given suits.stalls (no_turn_left w.count premises.count)).0), tt),
  ),
)

turn_goes_on : Hold (edge_obligations turning_table u 1 turning_phase (on last_phase))
turn_goes_on = (
  with_word 1 turning_phase (on last_phase) invariant (λ m fit. fit.turned 1) (λ w t suits v s' cycle next premises. refl),
  (
    with_word 1 turning_phase (on last_phase) entry (λ m fit. fit.turned 1) (λ w t suits v s' cycle next premises. (goes_on w.state w.input v s' cycle next suits.idle t w.count premises.entry suits.given suits.stalls (last_turn w.count premises.count)).1),
    (with_word 1 turning_phase (on last_phase) q_state (λ m fit. fit.turned 1) (λ w t suits v s' cycle next premises. ap shown (goes_on w.state w.input v s' cycle next suits.idle t w.count premises.entry suits.given suits.stalls (last_turn w.count premises.count)).0), tt),
  ),
)

last_stalls : Hold (edge_obligations turning_table u 2 last_phase stall)
last_stalls = (
  with_word 2 last_phase stall invariant (λ m fit. fit.turned 1) (λ w t suits v s' cycle next premises. refl),
  (
    with_word 2 last_phase stall entry (λ m fit. fit.turned 1) (λ w t suits v s' cycle next premises. last_stall w.state w.input v s' cycle next suits.idle t premises.entry suits.stalls),
    (with_word 2 last_phase stall q_state (λ m fit. fit.turned 1) (λ w t suits v s' cycle next premises. ap shown (stays w.state w.input v s' cycle next suits.idle suits.stalls).0), tt),
  ),
)

last_ends : Hold (edge_obligations turning_table u 2 last_phase finish)
last_ends = (
  with_word 2 last_phase finish invariant (λ m fit. fit.turned 1) (λ w t suits v s' cycle next premises. refl),
  (
    with_word 2 last_phase finish entry (λ m fit. fit.turned 1) (λ w t suits v s' cycle next premises. number_is (at s' (codes "c")) 0 (ends w.state w.input v s' cycle next suits.idle t premises.entry suits.given suits.stalls).1),
    (with_word 2 last_phase finish q_state (λ m fit. fit.turned 1) (λ w t suits v s' cycle next premises. ap shown (ends w.state w.input v s' cycle next suits.idle t premises.entry suits.given suits.stalls).0), tt),
  ),
)

joined : (xs ys : List Obligation) → Hold xs → Hold ys → Hold (xs ++ ys)
joined xs ys p q = all_append (HoldsAlways tri turning_table) xs ys p q

-- the edges of the phases from the last one on, those from the turns on, and all
abbrev from_last : List Obligation
from_last = edge_obligations turning_table u 2 last_phase stall ++ (edge_obligations turning_table u 2 last_phase finish ++ [])

abbrev from_turns : List Obligation
from_turns =
    edge_obligations turning_table u 1 turning_phase stall
    ++ (edge_obligations turning_table u 1 turning_phase turn ++ (edge_obligations turning_table u 1 turning_phase (on last_phase) ++ from_last))

last_hold : Hold from_last
last_hold =
    joined (edge_obligations turning_table u 2 last_phase stall) (edge_obligations turning_table u 2 last_phase finish ++ []) last_stalls
    (joined (edge_obligations turning_table u 2 last_phase finish) [] last_ends tt)

turns_hold : Hold from_turns
turns_hold =
    joined (edge_obligations turning_table u 1 turning_phase stall)
    (edge_obligations turning_table u 1 turning_phase turn ++ (edge_obligations turning_table u 1 turning_phase (on last_phase) ++ from_last)) turn_stalls
    (joined (edge_obligations turning_table u 1 turning_phase turn) (edge_obligations turning_table u 1 turning_phase (on last_phase) ++ from_last) turn_turns
    (joined (edge_obligations turning_table u 1 turning_phase (on last_phase)) from_last turn_goes_on last_hold))

class_holds : Hold (subject_obligations turning_table u)
class_holds =
    joined (edge_obligations turning_table u 0 quiet stall) (edge_obligations turning_table u 0 quiet (on turning_phase) ++ from_turns) first_stalls
    (joined (edge_obligations turning_table u 0 quiet (on turning_phase)) from_turns first_goes_on turns_hold)

turning_holds : AllHold tri turning_table
turning_holds = record {
  each = (
    (λ w suits. (turning_class, inl refl, refl)),
    joined (map reset (reset_goals turning_table)) (subject_obligations turning_table u ++ []) resets_hold (joined (subject_obligations turning_table u) [] class_holds tt),
  );
}

-- Each answer but want of memory has its own cause, and some answer has its cause.
use Rattle.std.proofs.Common.{◌≡◌, ◌⊎◌, ◌≢◌, ℕ, zero, suc, ◌<◌, ◌≤◌, Bool, true, false, List, [], ◌∷◌, length, Option, Some, None, refl, ap, subst, sym, ◌∙◌, inl, inr, arith}
use Rattle.std.specs.Prelude.{Result, Ok, Err}
use Rattle.std.proofs.lemmas.Bool.{cases_Bool, cases_lt}
use Rattle.lola_bits.specs.declared.vector.Bits.{Bits}
use Rattle.lola_bits.specs.Lists.{IsIn, IsAt}
use Rattle.lola_bits.proofs.All.{of_all}
use Rattle.lola_bits.proofs.Places.{get_in}
use Rattle.tab_tree.specs.declared.value.Answer.{Answer}
use Rattle.tab_tree.specs.Table.{InsideTree, ClassTree, TableTree}
use Rattle.tab_tree.specs.Step.{Arch, IsInside, cycles_of, fits, next_arch, next_word, instruction_rows}
use Rattle.tab_tree.specs.Fits.{AreApart, EachApart}
use Rattle.tab_mach.specs.declared.stepping.Stepped.{Stepped}
use Rattle.tab_mach.specs.declared.stepping.StepError.{StepError}
use Rattle.tab_mach.specs.declared.stepping.StepError.TheVariants.{NoClass, Outside, Short, Memory}
use Rattle.tab_mach.specs.Outcome.{IsFirst, HasSteps, IsInstruction, IsShort, Outcome}
use Rattle.tab_mach.proofs.Steps.{first_same, steps_same, not_outside, not_none, stepped_by}

module _ (T : TableTree) (A : Arch) (i : Bits) (answers : List Answer) where
  both_ok : (s t : Stepped) → IsInstruction T A i answers s → IsInstruction T A i answers t → s ≡ t
  both_ok s t p q =
      let e = steps_same T i p.steps q.steps p.class q.class in
      stepped_by s.arch.values t.arch.values s.word t.word s.accesses t.accesses
      (p.arch ∙ ap (λ (b : InsideTree). next_arch T b A i answers 0) e ∙ sym q.arch)
      (p.word ∙ ap (λ (b : InsideTree). next_word b answers 0) e ∙ sym q.word)
      (p.accesses ∙ ap (λ (b : InsideTree). instruction_rows T b A i answers 0) e ∙ sym q.accesses)

  ok_short : {X : Type 0} (s : Stepped) (needed : ℕ) → IsInstruction T A i answers s → IsShort T i answers needed → X
  ok_short s needed p q =
      let e = ap (λ (b : InsideTree). cycles_of b.phases) (steps_same T i p.steps q.steps p.class q.class) in
      let enough : cycles_of p.steps.phases ≤ length answers = p.enough in
      let few : length answers < needed = q.few in
      let all : needed ≡ cycles_of q.steps.phases = q.all in
      absurd (omega arith)

  pub one : (x y : Result Stepped StepError) → Outcome T A i answers x → Outcome T A i answers y → x ≢ Err Memory → y ≢ Err Memory → x ≡ y
  one (Ok s) (Ok t) p q a b = ap Ok (both_ok s t p q)
  one (Ok s) (Err NoClass) p q a b = not_none T i p.class.number p.class.class p.class.first q
  one (Ok s) (Err (Outside n)) p q a b = not_outside T i p.steps n p.class q
  one (Ok s) (Err (Short needed)) p q a b = ok_short s needed p q
  one (Ok s) (Err Memory) p q a b = absurd (b refl)
  one (Err NoClass) (Ok t) p q a b = not_none T i q.class.number q.class.class q.class.first p
  one (Err NoClass) (Err NoClass) p q a b = refl
  one (Err NoClass) (Err (Outside n)) p q a b = not_none T i n q.class q.first p
  one (Err NoClass) (Err (Short needed)) p q a b = not_none T i q.class.number q.class.class q.class.first p
  one (Err NoClass) (Err Memory) p q a b = absurd (b refl)
  one (Err (Outside m)) (Ok t) p q a b = not_outside T i q.steps m q.class p
  one (Err (Outside m)) (Err NoClass) p q a b = not_none T i m p.class p.first q
  one (Err (Outside m)) (Err (Outside n)) p q a b = ap (λ (k : ℕ). Err (Outside k)) (first_same T i m n p.class q.class p.first q.first).0
  one (Err (Outside m)) (Err (Short needed)) p q a b = not_outside T i q.steps m q.class p
  one (Err (Outside m)) (Err Memory) p q a b = absurd (b refl)
  one (Err (Short m)) (Ok t) p q a b = ok_short t m q p
  one (Err (Short m)) (Err NoClass) p q a b = not_none T i p.class.number p.class.class p.class.first q
  one (Err (Short m)) (Err (Outside n)) p q a b = not_outside T i p.steps n p.class q
  one (Err (Short m)) (Err (Short n)) p q a b =
      ap (λ (k : ℕ). Err (Short k)) (p.all ∙ ap (λ (b : InsideTree). cycles_of b.phases) (steps_same T i p.steps q.steps p.class q.class) ∙ sym q.all)
  one (Err (Short m)) (Err Memory) p q a b = absurd (b refl)
  one (Err Memory) y p q a b = absurd (a refl)

-- the first class that a word fits, if it fits one
record Found (cs : List ClassTree) (w : ℕ) : Type 0 where
  pub number : ℕ
  pub class : ClassTree
  pub stands : IsAt cs number class
  pub fit : fits class.pattern w ≡ true
  pub earlier : (m : ℕ) (d : ClassTree) → m < number → IsAt cs m d → fits d.pattern w ≡ false

earlier_more : (c : ClassTree) (cs : List ClassTree) (w n : ℕ) → fits c.pattern w ≡ false → ((m : ℕ) (d : ClassTree) → m < n → IsAt cs m d → fits d.pattern w ≡ false) →
    (m : ℕ) (d : ClassTree) → m < suc n → IsAt (c ∷ cs) m d → fits d.pattern w ≡ false
earlier_more c cs w n miss earlier zero d below at = let f : Some c ≡ Some d = at in let e : d ≡ c = cc in ap (λ (e : ClassTree). fits e.pattern w) e ∙ miss
earlier_more c cs w n miss earlier (suc m) d below at = earlier m d (omega arith) at

search_first : (cs : List ClassTree) (w : ℕ) → Found cs w ⊎ ((c : ClassTree) → IsIn c cs → fits c.pattern w ≡ false)
search_first [] w = inr (λ c among. absurd among)
search_first (c ∷ cs) w = elim (cases_Bool (fits c.pattern w)) [
  | inl hit ↦ inl (record { number = 0; class = c; stands = refl; fit = hit; earlier = λ m d below at. absurd (omega arith) })
  | inr miss ↦ elim (search_first cs w) [
    | inl found ↦ inl (record { number = suc found.number; class = found.class; stands = found.stands; fit = found.fit; earlier = earlier_more c cs w found.number miss found.earlier })
    | inr none ↦ inr (λ d among. elim among [ inl same ↦ ap (λ (e : ClassTree). fits e.pattern w) same ∙ miss | inr later ↦ none d later ])
  ]
]

inside_outcome : (T : TableTree) (A : Arch) (i : Bits) (answers : List Answer) (n : ℕ) (c : ClassTree) → IsFirst T i n c → (o : Option InsideTree) → c.inside ≡ o →
    (x : Result Stepped StepError) × (x ≢ Err Memory) × Outcome T A i answers x
inside_outcome T A i answers n c first None is = (Err (Outside n), λ e. cc, record { class = c; first = first; outside = is })
inside_outcome T A i answers n c first (Some b) is =
    let steps : HasSteps T i b = record { number = n; class = c; first = first; inside = is } in
    elim (cases_lt (length answers) (cycles_of b.phases)) [
      | inl few ↦ (Err (Short (cycles_of b.phases)), λ e. cc, record { steps = b; class = steps; few = few; all = refl })
      | inr enough ↦ (
        Ok (record { arch = record { values = next_arch T b A i answers 0 }; word = next_word b answers 0; accesses = instruction_rows T b A i answers 0 }),
        λ e. cc,
        record { steps = b; class = steps; enough = enough; arch = refl; word = refl; accesses = refl },
      )
    ]

pub some : (T : TableTree) (A : Arch) (i : Bits) (answers : List Answer) → (x : Result Stepped StepError) × (x ≢ Err Memory) × Outcome T A i answers x
some T A i answers = elim (search_first T.classes i.value) [
  | inl found ↦ inside_outcome T A i answers found.number found.class (record { stands = found.stands; fit = found.fit; earlier = found.earlier }) found.class.inside refl
  | inr none ↦ (Err NoClass, λ e. cc, none)
]

-- where no two classes overlap, a class that fits is the first
apart_at : (cs : List ClassTree) → EachApart cs → (m n : ℕ) (d c : ClassTree) → m < n → IsAt cs m d → IsAt cs n c → AreApart d c
apart_at [] apart m n d c below at there = absurd (let f : None ≡ Some d = at in cc)
apart_at (e ∷ cs) apart zero zero d c below at there = absurd (omega arith)
apart_at (e ∷ cs) apart zero (suc n) d c below at there =
    let f : Some e ≡ Some d = at in
    let same : e ≡ d = cc in
    subst (λ (x : ClassTree). AreApart x c) same (of_all (AreApart e) c cs apart.0 (get_in cs n c there))
apart_at (e ∷ cs) apart (suc m) zero d c below at there = absurd (omega arith)
apart_at (e ∷ cs) apart (suc m) (suc n) d c below at there = apart_at cs apart.1 m n d c (omega arith) at there

not_hit : (b : Bool) → (b ≡ true → ⊥) → b ≡ false
not_hit true miss = absurd (miss refl)
not_hit false miss = refl

pub first_apart : (T : TableTree) (i : Bits) (n : ℕ) (c : ClassTree) → EachApart T.classes → IsAt T.classes n c → fits c.pattern i.value ≡ true → IsFirst T i n c
first_apart T i n c apart at fit = record {
  stands = at;
  fit = fit;
  earlier = λ m d below here. not_hit (fits d.pattern i.value) (λ hit. apart_at T.classes apart m n d c below here at i.value hit fit);
}

-- an item has a number
number_in : (c : ClassTree) (cs : List ClassTree) → IsIn c cs → (n : ℕ) × IsAt cs n c
number_in c [] among = absurd among
number_in c (d ∷ cs) (inl same) = (zero, ap Some (sym same))
number_in c (d ∷ cs) (inr later) = let there = number_in c cs later in (suc there.0, there.1)

pub inside_apart : (T : TableTree) (i : Bits) (c : ClassTree) (b : InsideTree) → EachApart T.classes → IsInside T i c b → HasSteps T i b
inside_apart T i c b apart inside =
    let there = number_in c T.classes inside.class.listed in
    record { number = there.0; class = c; first = first_apart T i there.0 c apart there.1 inside.class.fit; inside = inside.inside }

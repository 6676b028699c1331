-- What begins with a word, and how many cycles it takes.
use Rattle.std.proofs.Common.{◌≡◌, ◌≤◌, ◌+◌, ℕ, suc, true, List, [], ◌∷◌, length, Option, Some, None, refl, sym, ◌∙◌, ap, subst, inl, inr, arith, length-append}
use Rattle.std.proofs.lemmas.Bool.{cases_Bool}
use Rattle.std.proofs.lemmas.List.{length-replicate}
use Rattle.lola_bits.specs.declared.vector.Bits.{Bits}
use Rattle.lola_bits.specs.Lists.{IsIn}
use Rattle.lola_bits.proofs.All.{of_all}
use Rattle.lola_bits.proofs.Options.{some_same}
use Rattle.lola_bits.proofs.Tests.{not_both}
use Rattle.tab_tree.specs.declared.value.Answer.{Answer}
use Rattle.tab_tree.specs.Table.{PhaseTree, InsideTree, ClassTree, TableTree}
use Rattle.tab_tree.specs.Step.{Arch, Words, times_of, cycles_of, fits, rows, Subject, of_class, steps_of, Chooses, Lets}
use Rattle.tab_tree.specs.Fits.{AreApart, EachApart, OfInside, EachInside, StartsPlain}
use Rattle.tab_lists.specs.Lists.{class_of, subject_inside, subject_of_class, subject_of}

-- any answer chooses a class
pub chosen : (T : TableTree) (A : Arch) (x : Answer) (u : Subject) → Chooses T A x u
chosen T A x (of_class c b) = tt

class_is : (cs : List ClassTree) (word : ℕ) (c : ClassTree) → class_of cs word ≡ Some c → IsIn c cs × (fits c.pattern word ≡ true)
class_is [] word c is = absurd (let f : None ≡ Some c = is in cc)
class_is (d ∷ cs) word c is = elim (cases_Bool (fits d.pattern word)) [
  | inl hit ↦
      let e : Some d ≡ Some c = rw hit at is in
      let same : d ≡ c = some_same d c e in
      (inl (sym same), subst (λ (x : ClassTree). fits x.pattern word ≡ true) same hit)
  | inr miss ↦
      let e : class_of cs word ≡ Some c = rw miss at is in
      let there = class_is cs word c e in
      (inr there.0, there.1)
]

inside_is : (T : TableTree) (i : Bits) (c : ClassTree) → IsIn c T.classes → fits c.pattern i.value ≡ true → (o : Option InsideTree) → c.inside ≡ o → (u : Subject) → subject_inside c o ≡ Some u → Lets T i u
inside_is T i c listed fit None body u is = absurd (let f : None ≡ Some u = is in cc)
inside_is T i c listed fit (Some b) body u is =
    subst (λ (v : Subject). Lets T i v) (some_same (of_class c b) u is) (record { class = record { listed = listed; fit = fit }; inside = body })

of_class_is : (T : TableTree) (i : Bits) (o : Option ClassTree) → class_of T.classes i.value ≡ o → (u : Subject) → subject_of_class o ≡ Some u → Lets T i u
of_class_is T i None class u is = absurd (let f : None ≡ Some u = is in cc)
of_class_is T i (Some c) class u is = let there = class_is T.classes i.value c class in inside_is T i c there.0 there.1 c.inside refl u is

pub subject_is : (T : TableTree) (i : Bits) (u : Subject) → subject_of T i ≡ Some u → Lets T i u
subject_is T i u is = of_class_is T i (class_of T.classes i.value) refl u is

-- where no two classes overlap, the first that fits is the one
class_found : (cs : List ClassTree) (word : ℕ) (c : ClassTree) → EachApart cs → IsIn c cs → fits c.pattern word ≡ true → class_of cs word ≡ Some c
class_found [] word c apart listed fit = absurd listed
class_found (d ∷ cs) word c apart listed fit = elim (cases_Bool (fits d.pattern word)) [
  | inl hit ↦ rw hit (elim listed [
    | inl same ↦ ap Some (sym same)
    | inr later ↦ absurd (of_all (AreApart d) c cs apart.0 later word hit fit)
  ])
  | inr miss ↦ rw miss (elim listed [
    | inl same ↦ not_both fit (ap (λ (x : ClassTree). fits x.pattern word) same ∙ miss)
    | inr later ↦ class_found cs word c apart.1 later fit
  ])
]

pub subject_found : (T : TableTree) (i : Bits) (u : Subject) → EachApart T.classes → Lets T i u → subject_of T i ≡ Some u
subject_found T i (of_class c b) apart lets =
    ap subject_of_class (class_found T.classes i.value c apart lets.class.listed lets.class.fit) ∙ ap (subject_inside c) lets.inside

-- an instruction takes at least a cycle, and has a row for each
plain_cycles : (phases : List PhaseTree) → StartsPlain phases → 1 ≤ cycles_of phases
plain_cycles [] plain = absurd plain
plain_cycles (phase ∷ phases) plain = let one : times_of phase.turns ≡ 1 = ap times_of plain.turns in omega arith

pub some_cycle : (T : TableTree) (i : Bits) (u : Subject) → EachInside (λ c b. StartsPlain b.phases) T → Lets T i u → 1 ≤ cycles_of (steps_of u).phases
some_cycle T i (of_class c b) plain lets =
    let here : OfInside (λ b. StartsPlain b.phases) c.inside = of_all (λ (c : ClassTree). OfInside (λ b. StartsPlain b.phases) c.inside) c T.classes plain lets.class.listed in
    plain_cycles b.phases (subst (OfInside (λ b. StartsPlain b.phases)) lets.inside here)

pub rows_length : (T : TableTree) (b : InsideTree) (A : Arch) (i : Bits) (answers : List Answer) (p : ℕ) (phases : List PhaseTree) (m : Words) (at : ℕ) → length (rows T b A i answers p phases m at) ≡ cycles_of phases
rows_length T b A i answers p [] m at = refl
rows_length T b A i answers p (phase ∷ phases) m at =
    simp (length-append, length-replicate) (ap (λ (n : ℕ). times_of phase.turns + n) (rows_length T b A i answers (suc p) phases _ _))

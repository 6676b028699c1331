-- A word's class: the first that it fits, which is the only one where no two overlap.
use Rattle.std.proofs.Common.{◌≡◌, ◌+◌, ℕ, suc, ◌<◌, ◌≤◌, Bool, true, false, List, [], ◌∷◌, length, map, get_or, Option, Some, None, refl, ap, subst, sym, ◌∙◌, inl, inr, arith}
use Rattle.std.specs.Prelude.{nat_lt, position, slice_get}
use Rattle.std.specs.List.{position_or_len}
use Rattle.std.proofs.lemmas.Bool.{cases_Bool, cases_lt}
use Rattle.std.proofs.lemmas.Bool.Decides.{nat_tests}
use Rattle.std.proofs.lemmas.List.Quantifiers.{position-Some}
use Rattle.std.proofs.lemmas.Option.{get_or_from_slice_get, slice_get_read}
use Rattle.lola_bits.specs.declared.vector.Bits.{Bits}
use Rattle.lola_bits.specs.Lists.{IsIn, IsAt}
use Rattle.lola_bits.proofs.All.{of_all}
use Rattle.lola_bits.proofs.Lists.{from_map}
use Rattle.lola_bits.proofs.Places.{from_get, get_in, get_map}
use Rattle.lola_bits.proofs.Tests.{not_both}
use Rattle.tab_tree.specs.declared.table.Class.{Class}
use Rattle.tab_tree.specs.declared.table.Table.{Table}
use Rattle.tab_tree.specs.declared.value.Answer.{Answer}
use Rattle.tab_tree.specs.declared.value.StateValue.{StateValue}
use Rattle.tab_tree.specs.declared.value.Access.{Access}
use Rattle.tab_tree.specs.Table.{InsideTree, ClassTree, TableTree, class_tree, table_tree}
use Rattle.tab_tree.specs.Step.{Arch, fits}
use Rattle.tab_tree.specs.Fits.{OfInside, EachInside}
use Rattle.tab_mach.specs.declared.stepping.Stepped.{Stepped}
use Rattle.tab_mach.specs.Outcome.{TurnsAreSmall, CanStep, IsFirst, IsFirstNumber, HasSteps, FitsNone, IsOutside}

-- what is found by going through the classes
first_here : (p : Class → Bool) (cs : List Class) (n : ℕ) → position p cs ≡ Some n → (n < length cs) × ((x : Class) → slice_get cs n ≡ Some x → p x ≡ true) × ((m : ℕ) (x : Class) → m < n → slice_get cs m ≡ Some x → p x ≡ false)
first_here p [] n e = absurd (let f : None ≡ Some n = e in cc)
first_here p (c ∷ cs) n e =
    let h = position-Some p (c ∷ cs) n c e in (
      h.0,
      λ x at. subst (λ (y : Class). p y ≡ true) (get_or_from_slice_get (c ∷ cs) n x c at) h.1,
      λ m x below at. subst (λ (y : Class). p y ≡ false) (get_or_from_slice_get (c ∷ cs) m x c at) (h.2 m below),
    )

pub first_found : (T : Table) (word : Bits) (n : ℕ) → position (λ (c : Class). fits c.pattern word.value) T.classes ≡ Some n → (n < length T.classes) × IsFirstNumber (table_tree T) word n
first_found T word n e =
    let h = first_here (λ (c : Class). fits c.pattern word.value) T.classes n e in (
      h.0,
      λ c at. let there = from_get class_tree T.classes n c at in record {
        stands = at;
        fit = subst (λ (d : ClassTree). fits d.pattern word.value ≡ true) there.2 (h.1 there.0 there.1);
        earlier = λ m d below here. let back = from_get class_tree T.classes m d here in subst (λ (d : ClassTree). fits d.pattern word.value ≡ false) back.2 (h.2 m back.0 below back.1);
      },
    )

none_passes : (p : Class → Bool) (cs : List Class) → length cs ≤ position_or_len p cs → (x : Class) → IsIn x cs → p x ≡ false
none_passes p [] past x among = absurd among
none_passes p (c ∷ cs) past x among = elim (cases_Bool (p c)) [
  | inl hit ↦ absurd (let f : suc (length cs) ≤ 0 = rw hit at past in omega arith)
  | inr miss ↦
      let f : length cs ≤ position_or_len p cs = (let g : suc (length cs) ≤ 1 + position_or_len p cs = rw miss at past in omega arith) in
      elim among [ inl same ↦ ap p same ∙ miss | inr later ↦ none_passes p cs f x later ]
]

no_place : (p : Class → Bool) (cs : List Class) → position p cs ≡ None → length cs ≤ position_or_len p cs
no_place p cs e = elim (cases_Bool (nat_lt (position_or_len p cs) (length cs))) [
  | inl below ↦ absurd (let f : Some (position_or_len p cs) ≡ None = rw below at e in cc)
  | inr past ↦ grind (arith, nat_tests)
]

pub none_found : (T : Table) (word : Bits) → position (λ (c : Class). fits c.pattern word.value) T.classes ≡ None → FitsNone (table_tree T) word
none_found T word e c among =
    let there = from_map class_tree c T.classes among in
    ap (λ (d : ClassTree). fits d.pattern word.value) there.2
    ∙ none_passes (λ (c : Class). fits c.pattern word.value) T.classes (no_place (λ (c : Class). fits c.pattern word.value) T.classes e) there.0 there.1

-- what holds of the steps of each class holds of the word's
pub inside_has : (P : ClassTree → InsideTree → Type 0) (T : TableTree) → EachInside P T → (n : ℕ) (c : ClassTree) (b : InsideTree) → IsAt T.classes n c → c.inside ≡ Some b → P c b
inside_has P T each n c b at inside = subst (OfInside (P c)) inside (of_all (λ (c : ClassTree). OfInside (P c) c.inside) c T.classes each (get_in T.classes n c at))

pub few_phases : (T : TableTree) (A : Arch) (i : Bits) (answers : List Answer) (b : InsideTree) → CanStep T A i answers → HasSteps T i b → length b.phases ≤ 16
few_phases T A i answers b can h = inside_has (λ c b. length b.phases ≤ 16) T can.small.phases h.number h.class b h.first.stands h.inside

pub small_turns : (T : TableTree) (A : Arch) (i : Bits) (answers : List Answer) (b : InsideTree) → CanStep T A i answers → HasSteps T i b → TurnsAreSmall b.phases
small_turns T A i answers b can h = inside_has (λ c b. TurnsAreSmall b.phases) T can.turns h.number h.class b h.first.stands h.inside

-- one class is the first
pub first_same : (T : TableTree) (i : Bits) (n m : ℕ) (c d : ClassTree) → IsFirst T i n c → IsFirst T i m d → (n ≡ m) × (c ≡ d)
first_same T i n m c d p q = elim (cases_lt n m) [
  | inl below ↦ not_both p.fit (q.earlier n c below p.stands)
  | inr above ↦ elim (cases_lt m n) [
    | inl below ↦ not_both q.fit (p.earlier m d below q.stands)
    | inr same ↦
        let e : n ≡ m = omega arith in
        (e, let f : Some c ≡ Some d = sym p.stands ∙ ap (λ (k : ℕ). slice_get T.classes k) e ∙ q.stands in cc)
  ]
]

some_none : {T X : Type 0} (x : X) (o : Option X) → o ≡ Some x → o ≡ None → T
some_none x o e f = absurd (let g : Some x ≡ None = sym e ∙ f in cc)

pub steps_same : (T : TableTree) (i : Bits) (b d : InsideTree) → HasSteps T i b → HasSteps T i d → b ≡ d
steps_same T i b d p q =
    let e = first_same T i p.number q.number p.class q.class p.first q.first in
    let f : Some b ≡ Some d = sym p.inside ∙ ap (λ (c : ClassTree). c.inside) e.1 ∙ q.inside in
    cc

pub not_outside : {X : Type 0} (T : TableTree) (i : Bits) (b : InsideTree) (n : ℕ) → HasSteps T i b → IsOutside T i n → X
not_outside T i b n p q =
    let e = first_same T i p.number n p.class q.class p.first q.first in
    some_none b q.class.inside (ap (λ (c : ClassTree). c.inside) (sym e.1) ∙ p.inside) q.outside

pub not_none : {X : Type 0} (T : TableTree) (i : Bits) (n : ℕ) (c : ClassTree) → IsFirst T i n c → FitsNone T i → X
not_none T i n c p none = not_both p.fit (none c (get_in T.classes n c p.stands))

-- an instruction's answer is one
pub stepped_by : (A B : List StateValue) (i j : Bits) (xs ys : List Access) → A ≡ B → i ≡ j → xs ≡ ys →
    (let s : Stepped = record { arch = record { values = A }; word = i; accesses = xs } in s) ≡ (let s : Stepped = record { arch = record { values = B }; word = j; accesses = ys } in s)
stepped_by A B i j xs ys p q r = λ k. record { arch = record { values = p k }; word = q k; accesses = r k }

-- a class by its number
pub class_at : (cs : List Class) (n : ℕ) (x : Class) → n < length cs → x ≡ get_or cs n x → IsAt (map class_tree cs) n (class_tree x)
class_at cs n x within is = get_map class_tree cs n x (slice_get_read cs (length cs) n x refl within is)

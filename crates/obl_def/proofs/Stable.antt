-- What isn't refuted is so, where it can be tried.
use Rattle.std.proofs.Common.{◌≡◌, ℕ, true, List, [], ◌∷◌, refl, ap, ap₂, arith, inl, inr}
use Rattle.std.specs.Prelude.{nat_eq}
use Rattle.std.proofs.lemmas.Bool.{cases_Bool}
use Rattle.std.proofs.lemmas.Bool.Decides.{nat_tests}
use Rattle.lola_bits.specs.declared.vector.Bits.{Bits}
use Rattle.tab_tree.specs.declared.value.StateValue.{StateValue}
use Rattle.tab_tree.specs.declared.value.StateValue.TheVariants.{One, Many}

abbrev pub Stable : Type 0 → Type 0
Stable P = ((P → ⊥) → ⊥) → P

pub true_is : Stable (Unit {0})
true_is h = tt

pub both_stable : {P Q : Type 0} → Stable P → Stable Q → Stable (P × Q)
both_stable p q h = (p (λ n. h (λ x. n x.0)), q (λ n. h (λ x. n x.1)))

pub three_stable : {P Q R : Type 0} → Stable P → Stable Q → Stable R → Stable (P × Q × R)
three_stable p q r h = (p (λ n. h (λ x. n x.0)), q (λ n. h (λ x. n x.1)), r (λ n. h (λ x. n x.2)))

pub four_stable : {P Q R V : Type 0} → Stable P → Stable Q → Stable R → Stable V → Stable (P × Q × R × V)
four_stable p q r v h = (p (λ n. h (λ x. n x.0)), q (λ n. h (λ x. n x.1)), r (λ n. h (λ x. n x.2)), v (λ n. h (λ x. n x.3)))

pub five_stable : {P Q R V W : Type 0} → Stable P → Stable Q → Stable R → Stable V → Stable W → Stable (P × Q × R × V × W)
five_stable p q r v w h =
    (p (λ n. h (λ x. n x.0)), q (λ n. h (λ x. n x.1)), r (λ n. h (λ x. n x.2)), v (λ n. h (λ x. n x.3)), w (λ n. h (λ x. n x.4)))

pub each_stable : {X : Type 0} {P : X → Type 0} → ((x : X) → Stable (P x)) → Stable ((x : X) → P x)
each_stable p h x = p x (λ n. h (λ f. n (f x)))

pub number_stable : (a b : ℕ) → Stable (a ≡ b)
number_stable a b h = elim (cases_Bool (nat_eq a b)) [
  | inl e ↦ grind (arith, nat_tests)
  | inr e ↦ absurd (h (λ same. let f : nat_eq a b ≡ true = grind (arith, nat_tests) in cc))
]

pub bits_stable : (x y : Bits) → Stable (x ≡ y)
bits_stable x y h =
    let w = number_stable x.width y.width (λ n. h (λ e. n (ap (λ (z : Bits). z.width) e))) in
    let v = number_stable x.value y.value (λ n. h (λ e. n (ap (λ (z : Bits). z.value) e))) in
    ap₂ (λ (a b : ℕ). record { width = a; value = b }) w v

all_stable : (xs ys : List Bits) → Stable (xs ≡ ys)
all_stable [] [] h = refl
all_stable [] (y ∷ ys) h = absurd (h (λ e. cc))
all_stable (x ∷ xs) [] h = absurd (h (λ e. cc))
all_stable (x ∷ xs) (y ∷ ys) h =
    ap₂ (λ (z : Bits) (zs : List Bits). z ∷ zs) (bits_stable x y (λ n. h (λ e. n (let f : x ∷ xs ≡ y ∷ ys = e in cc))))
    (all_stable xs ys (λ n. h (λ e. n (let f : x ∷ xs ≡ y ∷ ys = e in cc))))

pub value_stable : (a b : StateValue) → Stable (a ≡ b)
value_stable (One x) (One y) h = ap One (bits_stable x y (λ n. h (λ e. n (let f : One x ≡ One y = e in cc))))
value_stable (One x) (Many ys) h = absurd (h (λ e. let f : One x ≡ Many ys = e in cc))
value_stable (Many xs) (One y) h = absurd (h (λ e. let f : Many xs ≡ One y = e in cc))
value_stable (Many xs) (Many ys) h = ap Many (all_stable xs ys (λ n. h (λ e. n (let f : Many xs ≡ Many ys = e in cc))))

-- The first of several faults is among them, and none is sooner.
use Rattle.std.proofs.Common.{◌≡◌, ◌⊎◌, ℕ, ◌<◌, Bool, true, false, cond, nat_eq, nat_lt, List, [], ◌∷◌, Some, None, inl, inr, refl, sym, ap, ◌∙◌, subst, arith}
use Rattle.std.proofs.lemmas.Bool.{false_from_ne_true}
use Rattle.lola_bits.proofs.Tests.{not_both}
use Rattle.lola_bits.specs.Lists.{IsIn}
use Rattle.lola_tree.specs.Tree.{SourceTree}
use Rattle.lola_width.specs.declared.fault.SourceFault.{SourceFault}
use Rattle.lola_width.specs.Order.{stage_of, place_of, row_of, is_sooner, first_after}
use Rattle.lola_width.specs.Sized.{source_faults}
use Rattle.lola_width.specs.Answered.{IsSooner, AnswersFirst}
use Rattle.lola_width.proofs.Faults.{none_found}

-- by one number, and where it is the same by what is behind it
abbrev then : ℕ → ℕ → Bool → Bool
then s t behind = cond (nat_eq s t) behind (nat_lt s t)

then_through : (s t v : ℕ) (a b c : Bool) → (a ≡ true → b ≡ true → c ≡ true) → then s t a ≡ true → then t v b ≡ true → then s v c ≡ true
then_through s t v a b c behind e f = grind (arith, e, f, behind)

then_between : (s t v : ℕ) (a b c : Bool) → (c ≡ true → b ≡ false → a ≡ true) → then s v c ≡ true → then t v b ≡ false → then s t a ≡ true
then_between s t v a b c behind e f = grind (arith, e, f, behind)

lt_through : (r u x : ℕ) → nat_lt r u ≡ true → nat_lt u x ≡ true → nat_lt r x ≡ true
lt_through r u x e f = grind (arith, e, f)

lt_between : (r u x : ℕ) → nat_lt r x ≡ true → nat_lt u x ≡ false → nat_lt r u ≡ true
lt_between r u x e f = grind (arith, e, f)

abbrev before : ℕ → ℕ → ℕ → ℕ → ℕ → ℕ → Bool
before s p r t q u = then s t (then p q (nat_lt r u))

through : (s p r t q u v w x : ℕ) → before s p r t q u ≡ true → before t q u v w x ≡ true → before s p r v w x ≡ true
through s p r t q u v w x e f = then_through s t v _ _ _ (then_through p q w _ _ _ (lt_through r u x)) e f

between : (s p r t q u v w x : ℕ) → before s p r v w x ≡ true → before t q u v w x ≡ false → before s p r t q u ≡ true
between s p r t q u v w x e f = then_between s t v _ _ _ (then_between p q w _ _ _ (lt_between r u x)) e f

-- the order of faults is that of their numbers
abbrev is_before : SourceFault → SourceFault → Bool
is_before f g = before (stage_of f) (place_of f) (row_of f) (stage_of g) (place_of g) (row_of g)

same : (f g : SourceFault) → is_sooner f g ≡ is_before f g
same f g = refl

then_self : (s : ℕ) (behind : Bool) → then s s behind ≡ behind
then_self s behind = grind arith

itself : (f : SourceFault) → is_sooner f f ≡ false
itself f = then_self (stage_of f) _ ∙ then_self (place_of f) _ ∙ least_of_all (row_of f) where
  least_of_all : (r : ℕ) → nat_lt r r ≡ false
  least_of_all r = grind arith

then_less : (s t : ℕ) (behind : Bool) → s < t → then s t behind ≡ true
then_less s t behind l = grind (arith, l)

then_same : (s t : ℕ) (behind : Bool) → s ≡ t → behind ≡ true → then s t behind ≡ true
then_same s t behind e b = grind (arith, e, b)

lt_is : (r u : ℕ) → r < u → nat_lt r u ≡ true
lt_is r u l = grind (arith, l)

decides : (f g : SourceFault) → IsSooner f g → is_sooner f g ≡ true
decides f g (inl l) = then_less (stage_of f) (stage_of g) _ l
decides f g (inr e) = then_same (stage_of f) (stage_of g) _ e.0 (elim e.1 [
  | inl l ↦ then_less (place_of f) (place_of g) _ l
  | inr l ↦ then_same (place_of f) (place_of g) _ l.0 (lt_is (row_of f) (row_of g) l.1)
])

sooner_through : (f g h : SourceFault) → is_sooner f g ≡ true → is_sooner g h ≡ true → is_sooner f h ≡ true
sooner_through f g h = through (stage_of f) (place_of f) (row_of f) (stage_of g) (place_of g) (row_of g) (stage_of h) (place_of h) (row_of h)

sooner_between : (f g h : SourceFault) → is_sooner f h ≡ true → is_sooner g h ≡ false → is_sooner f g ≡ true
sooner_between f g h = between (stage_of f) (place_of f) (row_of f) (stage_of g) (place_of g) (row_of g) (stage_of h) (place_of h) (row_of h)

-- what is answered of one fault and those behind it
record Least (g : SourceFault) (xs : List SourceFault) (f : SourceFault) : Type 0 where
  there : (f ≡ g) ⊎ IsIn f xs
  first : is_sooner g f ≡ false
  others : (h : SourceFault) → IsIn h xs → is_sooner h f ≡ false

keep : (b : Bool) (x g : SourceFault) (xs : List SourceFault) (f : SourceFault) → is_sooner x g ≡ b →
    (first_after (Some x) xs ≡ Some f → Least x xs f) → (first_after (Some g) xs ≡ Some f → Least g xs f) →
    first_after (Some (cond b x g)) xs ≡ Some f → Least g (x ∷ xs) f
keep true x g xs f is new old e =
    let ih = new e in
    record {
      there = elim ih.there [ inl p ↦ inr (inl p) | inr i ↦ inr (inr i) ];
      first = false_from_ne_true (is_sooner g f) (λ t. not_both (sooner_through x g f is t) ih.first);
      others = λ h i. elim i [ inl p ↦ subst (λ k. is_sooner k f ≡ false) (sym p) ih.first | inr j ↦ ih.others h j ];
    }
keep false x g xs f is new old e =
    let ih = old e in
    record {
      there = elim ih.there [ inl p ↦ inl p | inr i ↦ inr (inr i) ];
      first = ih.first;
      others = λ h i. elim i [
        | inl p ↦ subst (λ k. is_sooner k f ≡ false) (sym p) (false_from_ne_true (is_sooner x f) (λ t. not_both (sooner_between x g f t ih.first) is))
        | inr j ↦ ih.others h j
      ];
    }

least : (g : SourceFault) (xs : List SourceFault) (f : SourceFault) → first_after (Some g) xs ≡ Some f → Least g xs f
least g [] f e =
    let p : f ≡ g = cc in
    record { there = inl p; first = subst (λ k. is_sooner g k ≡ false) (sym p) (itself g); others = λ h i. absurd i }
least g (x ∷ xs) f e = keep (is_sooner x g) x g xs f refl (least x xs f) (least g xs f) e

first_is : (xs : List SourceFault) (f : SourceFault) → first_after None xs ≡ Some f → IsIn f xs × ((h : SourceFault) → IsIn h xs → is_sooner h f ≡ false)
first_is [] f e = absurd (cc)
first_is (x ∷ xs) f e =
    let l = least x xs f e in
    (l.there, λ h i. elim i [ inl p ↦ subst (λ k. is_sooner k f ≡ false) (sym p) l.first | inr j ↦ l.others h j ])

pub answers : (S : SourceTree) → AnswersFirst S
answers S = record {
  none = (λ e. record { none = none_found (source_faults S) e }, λ sized. ap (first_after None) sized.none);
  first = λ f e.
      let is = first_is (source_faults S) f e in
      record { holds = is.0; none_sooner = λ g i s. not_both (decides g f s) (is.1 g i) };
}

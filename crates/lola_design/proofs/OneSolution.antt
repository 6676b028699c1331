-- Equations whose uses have an order have one solution: that of their numbers.
use Rattle.std.proofs.Common.{◌≡◌, ℕ, zero, suc, Bool, true, false, ◌&&◌, List, [], ◌∷◌, Option, Some, None, refl, sym, ◌∙◌, ap, ap₂, subst, inl, inr}
use Rattle.std.specs.Prelude.{bytes_eq, slice_get}
use Rattle.std.proofs.lemmas.Bool.{cases_Bool, false≢true}
use Rattle.std.proofs.lemmas.Slice.Eq.{bytes_eq-Decides}
use Rattle.lola_tree.specs.Value.{Path, Values}
use Rattle.lola_bits.specs.Lists.{IsIn}
use Rattle.lola_tree.specs.design.Equations.{Equation, Right, right_value}
use Rattle.lola_order.specs.Graph.{Graph, IsWanted}
use Rattle.lola_order.specs.Solutions.{HangsOnUses, IsSolution}
use Rattle.lola_design.proofs.Numbered.{Given, vector, array, IsGivenAs, given_at, Fixed, IsFixed, IsUsed, AreNumbered, Solves, HasOneSolution}
use Rattle.lola_design.specs.Paths.{path_eq}
use Rattle.lola_design.specs.Graph.{number_of, right_of}
use Rattle.lola_design.proofs.Agree.{right_agrees}

-- equal paths
and_parts : (a b : Bool) → (a && b) ≡ true → (a ≡ true) × (b ≡ true)
and_parts true true e = (refl, refl)
and_parts true false e = absurd (false≢true e)
and_parts false b e = absurd (false≢true e)

pub path_same : (x y : Path) → path_eq x y ≡ true → x ≡ y
path_same [] [] e = refl
path_same [] (y ∷ ys) e = absurd (false≢true e)
path_same (x ∷ xs) [] e = absurd (false≢true e)
path_same (x ∷ xs) (y ∷ ys) e = let p = and_parts (bytes_eq x y) (path_eq xs ys) e in ap₂ (λ (n : List ℕ) (ns : Path). n ∷ ns) ((bytes_eq-Decides x y).0 p.0) (path_same xs ys p.1)

pub path_is : (x : Path) → path_eq x x ≡ true
path_is [] = refl
path_is (x ∷ xs) = rw ((bytes_eq-Decides x x).1 refl) (path_is xs)

number_later : (y : Path) (ys : List Path) (x : Path) → slice_get ys (number_of ys x) ≡ Some x → slice_get (y ∷ ys) (number_of (y ∷ ys) x) ≡ Some x
number_later y ys x is = elim (cases_Bool (path_eq y x)) [ inl same ↦ rw (same, path_same y x same) refl | inr other ↦ rw other is ]

pub number_there : (paths : List Path) (i : ℕ) (x : Path) → slice_get paths i ≡ Some x → slice_get paths (number_of paths x) ≡ Some x
number_there [] i x is = absurd (let e : None ≡ Some x = is in cc)
number_there (y ∷ ys) zero x is = let e : Some y ≡ Some x = is in let s : y ≡ x = cc in rw (subst (λ (z : Path). path_eq y z ≡ true) s (path_is y)) is
number_there (y ∷ ys) (suc i) x is = number_later y ys x (number_there ys i x is)

pub right_there : (E : List Equation) (e : Equation) → IsIn e E → (f : Equation) × IsIn f E × (f.left ≡ e.left) × (right_of E e.left ≡ Some f.right)
right_there [] e is = absurd is
right_there (d ∷ E) e is = elim (cases_Bool (path_eq d.left e.left)) [
  | inl same ↦ (d, inl refl, path_same d.left e.left same, rw same refl)
  | inr other ↦ elim is [
    | inl here ↦ absurd (false≢true (sym other ∙ subst (λ (c : Equation). path_eq c.left e.left ≡ true) here (path_is e.left)))
    | inr later ↦ let r = right_there E e later in (r.0, inr r.1, r.2, rw other r.3)
  ]
]

-- what is fixed, or else a number
abbrev or_fixed : Option Given → ℕ → ℕ → ℕ
or_fixed None x n = x
or_fixed (Some g) x n = given_at g n

at_zero : (g : Given) (x : ℕ → ℕ) → IsGivenAs g x → x 0 ≡ given_at g 0
at_zero (vector n) x is = is
at_zero (array elements) x is = is 0

itself : (g : Given) (x : ℕ → ℕ) → ((n : ℕ) → x n ≡ given_at g n) → IsGivenAs g x
itself (vector n) x each = each 0
itself (array elements) x each = each

-- the value of what has a right side, or else another
abbrev if_right : Option Right → ℕ → ℕ → ℕ
if_right None x other = other
if_right (Some r) x other = x

module _ (E : List Equation) (fixed : Fixed) (paths : List Path) (g : Graph) (outside : Values) (are : AreNumbered E fixed paths g) where
  -- a valuation on paths by one on numbers
  abbrev by_path : (ℕ → ℕ) → Values
  by_path u x n = or_fixed (fixed x) (u (number_of paths x)) n

  -- what has no equation: fixed, or 0
  abbrev base_at : Option Path → ℕ
  base_at None = 0
  base_at (Some x) = or_fixed (fixed x) 0 0

  abbrev base : ℕ → ℕ
  base i = base_at (slice_get paths i)

  -- a valuation on numbers by one on paths
  abbrev at_entry : Values → Option Path → ℕ
  at_entry v None = 0
  at_entry v (Some x) = if_right (right_of E x) (v x 0) (or_fixed (fixed x) 0 0)

  abbrev by_number : Values → ℕ → ℕ
  by_number v i = at_entry v (slice_get paths i)

  -- the value of the equation of a number
  abbrev right_number : Option Right → (ℕ → ℕ) → ℕ
  right_number None u = 0
  right_number (Some r) u = right_value outside (by_path u) r

  abbrev at_right : Option Path → (ℕ → ℕ) → ℕ
  at_right None u = 0
  at_right (Some x) u = right_number (right_of E x) u

  abbrev number_value : ℕ → (ℕ → ℕ) → ℕ
  number_value i u = at_right (slice_get paths i) u

  number_is : (e : Equation) (is : IsIn e E) (i : ℕ) → slice_get paths i ≡ Some e.left → (u : ℕ → ℕ) → number_value i u ≡ right_value outside (by_path u) e.right
  number_is e is i there u =
      let f = right_there E e is in
      let same : f.0.right ≡ e.right = are.once f.0 e f.1 is f.2 in
      ap (λ (o : Option Path). at_right o u) there ∙ ap (λ (o : Option Right). right_number o u) f.3 ∙ ap (right_value outside (by_path u)) same

  entry_is : (e : Equation) (is : IsIn e E) (i : ℕ) → slice_get paths i ≡ Some e.left → (v : Values) → by_number v i ≡ v e.left 0
  entry_is e is i there v =
      let f = right_there E e is in
      ap (at_entry v) there ∙ ap (λ (o : Option Right). if_right o (v e.left 0) (or_fixed (fixed e.left) 0 0)) f.3

  used_number : (us : List ℕ) (y : Path) (x : IsUsed E paths us y) → number_of paths y ≡ x.number
  used_number us y x = are.distinct (number_of paths y) x.number y (number_there paths x.number y x.is) x.is

  hangs : HangsOnUses g number_value
  hangs i us u w uses same =
      let o = are.only i (record { uses = us; equation = uses }) in
      let e = o.0 in
      let k = are.each e o.1 in
      let n : i ≡ k.number = are.distinct i k.number e.left o.2 k.is in
      let same_uses : k.uses ≡ us = (let a : Some (Some k.uses) ≡ Some (Some us) = sym k.graph ∙ (ap (slice_get g) (sym n) ∙ uses) in cc) in
      number_is e o.1 i o.2 u
      ∙ right_agrees outside (by_path u) (by_path w) e.right
      (λ y there. elim (k.vectors y there) [
        | inl is_fixed ↦ rw is_fixed.1 refl
        | inr used ↦ ap (λ x. or_fixed (fixed y) x 0) (ap u (used_number k.uses y used) ∙ same used.number (subst (λ (l : List ℕ). IsIn used.number l) same_uses used.among) ∙ ap w (sym (used_number k.uses y used)))
      ])
      (λ y there m. let is_fixed = k.arrays y there in rw is_fixed.1 refl)
      ∙ sym (number_is e o.1 i o.2 w)

  -- a solution on paths is one on numbers
  read_back : (v : Values) → Solves E fixed outside v → (us : List ℕ) (y : Path) → IsUsed E paths us y → (o : Option Given) → fixed y ≡ o → v y 0 ≡ or_fixed o (by_number v (number_of paths y)) 0
  read_back v p us y used None e =
      let i = used.number in
      let at : slice_get paths i ≡ Some used.equation.left = used.is ∙ ap (λ (x : Path). Some x) (sym used.left) in
      ap (λ (x : Path). v x 0) (sym used.left) ∙ sym (entry_is used.equation used.there i at v) ∙ ap (by_number v) (sym (used_number us y used))
  read_back v p us y used (Some g) e = at_zero g (v y) (p.agrees y g e)

  numbers_solve : (v : Values) → Solves E fixed outside v → IsSolution g number_value base (by_number v)
  numbers_solve v p = record {
    equations = λ i wanted.
        let o = are.only i wanted in
        let e = o.0 in
        let k = are.each e o.1 in
        entry_is e o.1 i o.2 v ∙ p.meets e o.1
        ∙ right_agrees outside v (by_path (by_number v)) e.right
        (λ y there. elim (k.vectors y there) [
          | inl is_fixed ↦ at_zero is_fixed.0 (v y) (p.agrees y is_fixed.0 is_fixed.1) ∙ (rw is_fixed.1 refl)
          | inr used ↦ read_back v p k.uses y used (fixed y) refl
        ])
        (λ y there m. let is_fixed = k.arrays y there in p.agrees y (array is_fixed.0) is_fixed.1 m ∙ (rw is_fixed.1 refl))
        ∙ sym (number_is e o.1 i o.2 (by_number v));
    given = λ i given. unwanted v i given (slice_get paths i) refl;
  }
    where
      no_right : (x : Path) (i : ℕ) → (IsWanted g i → ⊥) → slice_get paths i ≡ Some x → (es : List Equation) → ((e : Equation) → IsIn e es → IsIn e E) → right_of es x ≡ None
      no_right x i given is [] sub = refl
      no_right x i given is (e ∷ es) sub = elim (cases_Bool (path_eq e.left x)) [
        | inl same ↦
            let k = are.each e (sub e (inl refl)) in
            let n : k.number ≡ i = are.distinct k.number i x (k.is ∙ ap (λ (z : Path). Some z) (path_same e.left x same)) is in
            absurd (given (record { uses = k.uses; equation = ap (slice_get g) (sym n) ∙ k.graph }))
        | inr other ↦ rw other (no_right x i given is es (λ d there. sub d (inr there)))
      ]

      unwanted : (v : Values) (i : ℕ) → (IsWanted g i → ⊥) → (o : Option Path) → slice_get paths i ≡ o → at_entry v o ≡ base_at o
      unwanted v i given None is = refl
      unwanted v i given (Some x) is = rw (no_right x i given is E (λ e there. there)) refl

  -- a solution on numbers is one on paths
  fixed_none : (x : Path) → (IsFixed fixed x → ⊥) → (o : Option Given) → fixed x ≡ o → (n : ℕ) → or_fixed o n 0 ≡ n
  fixed_none x apart None e n = refl
  fixed_none x apart (Some g) e n = absurd (apart (g, e))

  paths_solve : (u : ℕ → ℕ) → IsSolution g number_value base u → Solves E fixed outside (by_path u)
  paths_solve u p = record {
    meets = λ e there.
        let k = are.each e there in
        let n : number_of paths e.left ≡ k.number = are.distinct (number_of paths e.left) k.number e.left (number_there paths k.number e.left k.is) k.is in
        fixed_none e.left (are.apart e there) (fixed e.left) refl (u (number_of paths e.left))
        ∙ ap u n ∙ p.equations k.number (record { uses = k.uses; equation = k.graph }) ∙ number_is e there k.number k.is u;
    agrees = λ x g is. itself g (by_path u x) (λ n. rw is refl);
  }

  pub has_one : ((f : ℕ → (ℕ → ℕ) → ℕ) (b : ℕ → ℕ) → HangsOnUses g f → (u : ℕ → ℕ) × IsSolution g f b u) →
      ((f : ℕ → (ℕ → ℕ) → ℕ) (b u w : ℕ → ℕ) → HangsOnUses g f → IsSolution g f b u → IsSolution g f b w → (i : ℕ) → u i ≡ w i) → HasOneSolution E fixed outside
  has_one exists one = record {
    solution = let u = exists number_value base hangs in (by_path u.0, paths_solve u.0 u.1);
    same = λ v w p q e there.
        let k = are.each e there in
        sym (entry_is e there k.number k.is v)
        ∙ one number_value base (by_number v) (by_number w) hangs (numbers_solve v p) (numbers_solve w q) k.number
        ∙ entry_is e there k.number k.is w;
  }

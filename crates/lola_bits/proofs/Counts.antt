-- How often a test passes in a list, by std's `count_by`, and what comes once.
use Rattle.std.proofs.Common.{◌≡◌, ℕ, zero, suc, ◌+◌, ◌≤◌, Bool, true, false, cond, List, [], ◌∷◌, ◌++◌, Some, None, refl, sym, ◌∙◌, ap, inl, inr, arith}
use Rattle.std.specs.Prelude.{bytes_eq, slice_get}
use Rattle.std.specs.List.{count_by}
use Rattle.std.proofs.lemmas.Bool.{cond-true, cond-false}
use Rattle.std.proofs.lemmas.List.Sums.{sum_by-append}
use Rattle.lola_bits.specs.Lists.{IsIn, AreDistinct}
use Rattle.lola_bits.proofs.Names.{same_name}

pub count_append : {X : Type 0} (test : X → Bool) (xs ys : List X) → count_by test (xs ++ ys) ≡ count_by test xs + count_by test ys
count_append test xs ys = sum_by-append (λ x. cond (test x) 1 0) xs ys

pub count_yes : {X : Type 0} (test : X → Bool) (x : X) (xs : List X) → test x ≡ true → count_by test (x ∷ xs) ≡ suc (count_by test xs)
count_yes test x xs passes = let e = count_append test (x ∷ []) xs in let one : cond {A = ℕ} (test x) 1 0 ≡ 1 = cond-true (test x) 1 0 passes in omega arith

pub count_no : {X : Type 0} (test : X → Bool) (x : X) (xs : List X) → test x ≡ false → count_by test (x ∷ xs) ≡ count_by test xs
count_no test x xs fails = let e = count_append test (x ∷ []) xs in let none : cond {A = ℕ} (test x) 1 0 ≡ 0 = cond-false (test x) 1 0 fails in omega arith

-- what passes is counted
pub counted : {X : Type 0} (test : X → Bool) (x : X) (xs : List X) → IsIn x xs → test x ≡ true → 1 ≤ count_by test xs
counted test x [] among passes = absurd among
counted test x (y ∷ xs) (inl same) passes = let e = count_yes test y xs (ap test (sym same) ∙ passes) in omega arith
counted test x (y ∷ xs) (inr later) passes = let e = counted test x xs later passes in let more = count_append test (y ∷ []) xs in omega arith

pub counted_at : {X : Type 0} (test : X → Bool) (xs : List X) (i : ℕ) (x : X) → slice_get xs i ≡ Some x → test x ≡ true → 1 ≤ count_by test xs
counted_at test [] i x e passes = absurd (let f : None ≡ Some x = e in cc)
counted_at test (y ∷ xs) zero x e passes = let f : Some y ≡ Some x = e in let same : y ≡ x = cc in let c = count_yes test y xs (ap test same ∙ passes) in omega arith
counted_at test (y ∷ xs) (suc i) x e passes = let c = counted_at test xs i x e passes in let more = count_append test (y ∷ []) xs in omega arith

-- what passes once is one item, at one place
pub one_item : {X : Type 0} (test : X → Bool) (xs : List X) (x y : X) → count_by test xs ≤ 1 → IsIn x xs → IsIn y xs → test x ≡ true → test y ≡ true → x ≡ y
one_item test [] x y once p q e f = absurd p
one_item test (z ∷ xs) x y once (inl p) (inl q) e f = p ∙ sym q
one_item test (z ∷ xs) x y once (inl p) (inr q) e f = absurd (let c = count_yes test z xs (ap test (sym p) ∙ e) in let d = counted test y xs q f in omega arith)
one_item test (z ∷ xs) x y once (inr p) (inl q) e f = absurd (let c = count_yes test z xs (ap test (sym q) ∙ f) in let d = counted test x xs p e in omega arith)
one_item test (z ∷ xs) x y once (inr p) (inr q) e f = one_item test xs x y (let more = count_append test (z ∷ []) xs in omega arith) p q e f

pub one_place : {X : Type 0} (test : X → Bool) (xs : List X) (i j : ℕ) (x y : X) → count_by test xs ≤ 1 → slice_get xs i ≡ Some x → slice_get xs j ≡ Some y → test x ≡ true → test y ≡ true → i ≡ j
one_place test [] i j x y once p q e f = absurd (let g : None ≡ Some x = p in cc)
one_place test (z ∷ xs) zero zero x y once p q e f = refl
one_place test (z ∷ xs) zero (suc j) x y once p q e f =
    absurd (let g : Some z ≡ Some x = p in let same : z ≡ x = cc in let c = count_yes test z xs (ap test same ∙ e) in let d = counted_at test xs j y q f in omega arith)
one_place test (z ∷ xs) (suc i) zero x y once p q e f =
    absurd (let g : Some z ≡ Some y = q in let same : z ≡ y = cc in let c = count_yes test z xs (ap test same ∙ f) in let d = counted_at test xs i x p e in omega arith)
one_place test (z ∷ xs) (suc i) (suc j) x y once p q e f = ap suc (one_place test xs i j x y (let more = count_append test (z ∷ []) xs in omega arith) p q e f)

-- names that come at most once are distinct
pub once_distinct : (names : List (List ℕ)) → ((name : List ℕ) → count_by (λ other. bytes_eq other name) names ≤ 1) → AreDistinct names
once_distinct [] once = tt
once_distinct (x ∷ xs) once = (
  (λ is. let few = once x in
      let first = count_yes (λ other. bytes_eq other x) x xs (same_name x x refl) in
      let more = counted (λ other. bytes_eq other x) x xs is (same_name x x refl) in
      absurd (omega arith)),
  once_distinct xs (λ name. let few = once name in let more = count_append (λ other. bytes_eq other name) (x ∷ []) xs in omega arith),
)

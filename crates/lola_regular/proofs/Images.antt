-- Lists in which each name comes equally often have equally many images of a path.
use Rattle.std.proofs.Common.{◌≡◌, ℕ, zero, suc, ◌+◌, ◌≤◌, Bool, true, false, List, [], ◌∷◌, ◌++◌, map, refl, sym, ◌∙◌, ap, subst, inl, inr, ◌⊎◌, arith}
use Rattle.std.specs.Prelude.{bytes_eq, if◌then◌else◌}
use Rattle.std.proofs.lemmas.Bool.{cases_Bool, cond-true, cond-false}
use Rattle.lola_bits.specs.Lists.{IsIn}
use Rattle.lola_bits.proofs.Names.{same_name, is_same_name}
use Rattle.lola_tree.specs.Value.{Path}
use Rattle.lola_design.specs.Paths.{path_eq, one_if, count}
use Rattle.lola_design.specs.Once.{name_count}
use Rattle.lola_regular.proofs.Named.{present_count, counted_in}
use Rattle.lola_regular.proofs.Targets.{one_kept, when}

-- how often paths come
pub path_count_append : (x : Path) (xs ys : List Path) → count x (xs ++ ys) ≡ count x xs + count x ys
path_count_append x [] ys = omega arith
path_count_append x (y ∷ xs) ys = let e : count x (xs ++ ys) ≡ count x xs + count x ys = path_count_append x xs ys in omega arith

-- all but one
abbrev without : List ℕ → List (List ℕ) → List (List ℕ)
without d [] = []
without d (e ∷ es) = if bytes_eq e d then es else e ∷ without d es

without_count : (n d : List ℕ) (es : List (List ℕ)) → IsIn d es → name_count n es ≡ one_if (bytes_eq d n) + name_count n (without d es)
without_count n d [] is = absurd is
without_count n d (e ∷ es) is = elim (cases_Bool (bytes_eq e d)) [
  | inl same ↦
      let f : without d (e ∷ es) ≡ es = cond-true (bytes_eq e d) es (e ∷ without d es) same in
      let g : one_if (bytes_eq e n) ≡ one_if (bytes_eq d n) = ap (λ (k : List ℕ). one_if (bytes_eq k n)) (is_same_name e d same) in
      ap (λ (k : ℕ). k + name_count n es) g ∙ ap (λ (l : List (List ℕ)). one_if (bytes_eq d n) + name_count n l) (sym f)
  | inr other ↦
      let f : without d (e ∷ es) ≡ e ∷ without d es = cond-false (bytes_eq e d) es (e ∷ without d es) other in
      let later = without_count n d es (behind d e es other is) in
      let g : name_count n (without d (e ∷ es)) ≡ one_if (bytes_eq e n) + name_count n (without d es) = ap (name_count n) f in
      omega arith
]
  where
    behind : (d e : List ℕ) (es : List (List ℕ)) → bytes_eq e d ≡ false → IsIn d (e ∷ es) → IsIn d es
    behind d e es other (inl same) = absurd (let f = same_name e d (sym same) in cc)
    behind d e es other (inr later) = later

without_images : (x : Path) (f : List ℕ → Path) (d : List ℕ) (es : List (List ℕ)) → IsIn d es → count x (map f es) ≡ one_if (path_eq (f d) x) + count x (map f (without d es))
without_images x f d [] is = absurd is
without_images x f d (e ∷ es) is = elim (cases_Bool (bytes_eq e d)) [
  | inl same ↦
      let g : without d (e ∷ es) ≡ es = cond-true (bytes_eq e d) es (e ∷ without d es) same in
      ap (λ (k : List ℕ). one_if (path_eq (f k) x) + count x (map f es)) (is_same_name e d same) ∙ ap (λ (l : List (List ℕ)). one_if (path_eq (f d) x) + count x (map f l)) (sym g)
  | inr other ↦
      let g : without d (e ∷ es) ≡ e ∷ without d es = cond-false (bytes_eq e d) es (e ∷ without d es) other in
      let later = without_images x f d es (behind d e es other is) in
      let h : count x (map f (without d (e ∷ es))) ≡ one_if (path_eq (f e) x) + count x (map f (without d es)) = ap (λ (l : List (List ℕ)). count x (map f l)) g in
      omega arith
]
  where
    behind : (d e : List ℕ) (es : List (List ℕ)) → bytes_eq e d ≡ false → IsIn d (e ∷ es) → IsIn d es
    behind d e es other (inl same) = absurd (let f = same_name e d (sym same) in cc)
    behind d e es other (inr later) = later

pub same_images : (x : Path) (f : List ℕ → Path) (xs ys : List (List ℕ)) → ((n : List ℕ) → name_count n xs ≡ name_count n ys) → count x (map f xs) ≡ count x (map f ys)
same_images x f [] [] same = refl
same_images x f [] (y ∷ ys) same = let e = same y in let some = present_count y (y ∷ ys) (inl refl) in absurd (omega arith)
same_images x f (d ∷ xs) ys same =
    let some = present_count d (d ∷ xs) (inl refl) in
    let e = same d in
    let is = counted_in d ys (omega arith) in
    let rest : (n : List ℕ) → name_count n xs ≡ name_count n (without d ys) = λ n. let g = same n in let h = without_count n d ys is in omega arith in
    let later = same_images x f xs (without d ys) rest in
    let here = without_images x f d ys is in
    omega arith

-- the names of those of some items that pass a test
abbrev pub selected : {X : Type 0} → (X → Bool) → (X → List ℕ) → List X → List (List ℕ)
selected test name [] = []
selected test name (x ∷ xs) = one_kept (test x) (name x) ++ selected test name xs

pub selected_few : {X : Type 0} (test : X → Bool) (name : X → List ℕ) (n : List ℕ) (xs : List X) → name_count n (selected test name xs) ≤ name_count n (map name xs)
selected_few test name n [] = omega arith
selected_few {X = X} test name n (x ∷ xs) = by_test (test x) (selected_few test name n xs) where
  by_test : (b : Bool) → name_count n (selected test name xs) ≤ name_count n (map name xs) → name_count n (one_kept b (name x) ++ selected test name xs) ≤ one_if (bytes_eq (name x) n) + name_count n (map name xs)
  by_test true few = omega arith
  by_test false few = omega arith

pub selected_in : {X : Type 0} (test : X → Bool) (name : X → List ℕ) (n : List ℕ) (xs : List X) → IsIn n (selected test name xs) → (x : X) × IsIn x xs × (test x ≡ true) × (n ≡ name x)
selected_in test name n [] is = absurd is
selected_in {X = X} test name n (x ∷ xs) is = elim (cases_Bool (test x)) [
  | inl passes ↦ here passes (λ more. selected_in test name n xs more) (subst (λ (b : Bool). IsIn n (one_kept b (name x) ++ selected test name xs)) passes is)
  | inr fails ↦ let later = selected_in test name n xs (subst (λ (b : Bool). IsIn n (one_kept b (name x) ++ selected test name xs)) fails is) in (later.0, inr later.1, later.2, later.3)
]
  where
    here : test x ≡ true → (IsIn n (selected test name xs) → (y : X) × IsIn y xs × (test y ≡ true) × (n ≡ name y)) → IsIn n (name x ∷ selected test name xs) →
        (y : X) × IsIn y (x ∷ xs) × (test y ≡ true) × (n ≡ name y)
    here passes further (inl same) = (x, inl refl, passes, same)
    here passes further (inr more) = let later = further more in (later.0, inr later.1, later.2, later.3)

pub in_selected : {X : Type 0} (test : X → Bool) (name : X → List ℕ) (x : X) (xs : List X) → IsIn x xs → test x ≡ true → IsIn (name x) (selected test name xs)
in_selected test name x [] is passes = absurd is
in_selected {X = X} test name x (y ∷ xs) (inl same) passes =
    subst (λ (b : Bool). IsIn (name x) (one_kept b (name y) ++ selected test name xs)) (sym (ap test (sym same) ∙ passes)) (inl (ap name same))
in_selected test name x (y ∷ xs) (inr later) passes = by_test (test y) (in_selected test name x xs later passes) where
  by_test : (b : Bool) → IsIn (name x) (selected test name xs) → IsIn (name x) (one_kept b (name y) ++ selected test name xs)
  by_test true is = inr is
  by_test false is = is

-- a count of at most 1 is 1 or 0 by a test
pub exact : (b : Bool) (k : ℕ) → k ≤ 1 → (b ≡ true → 1 ≤ k) → (1 ≤ k → b ≡ true) → k ≡ when b 1
exact true k most some only = let h = some refl in omega arith
exact false zero most some only = refl
exact false (suc k) most some only = absurd (let f : false ≡ true = only (omega arith) in cc)

pub either_some : (j k : ℕ) → 1 ≤ j + k → (1 ≤ j) ⊎ (1 ≤ k)
either_some zero k some = inr (omega arith)
either_some (suc j) k some = inl (omega arith)

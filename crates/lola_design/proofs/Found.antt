-- From how often a path comes to what has it.
use Rattle.std.proofs.Common.{◌≡◌, suc, ◌+◌, ◌≤◌, Bool, true, false, List, [], ◌∷◌, refl, sym, ◌∙◌, ap, subst, inl, inr, arith}
use Rattle.std.specs.Prelude.{if◌then◌else◌}
use Rattle.std.proofs.lemmas.Bool.{cases_Bool}
use Rattle.lola_bits.specs.Lists.{IsIn}
use Rattle.lola_tree.specs.Value.{Path}
use Rattle.lola_tree.specs.design.Signals.{Kind, Signal}
use Rattle.lola_tree.specs.design.Equations.{Equation, Update}
use Rattle.lola_design.specs.Paths.{path_eq, one_if, count, lefts, update_lefts, paths_where}
use Rattle.lola_design.proofs.Counts.{count_append}
use Rattle.lola_design.proofs.Paths.{paths}
use Rattle.lola_design.proofs.OneSolution.{path_same, path_is}

-- a path counts where it is
same_counts : (x y : Path) → y ≡ x → one_if (path_eq y x) ≡ 1
same_counts x y same = rw (subst (λ (z : Path). path_eq y z ≡ true) same (path_is y)) refl

pub counted_in : (x : Path) (xs : List Path) → 1 ≤ count x xs → IsIn x xs
counted_in x [] most = absurd (omega arith)
counted_in x (y ∷ ys) most = elim (cases_Bool (path_eq y x)) [
  | inl same ↦ inl (sym (path_same y x same))
  | inr other ↦ let e : one_if (path_eq y x) ≡ 0 = rw other refl in inr (counted_in x ys (omega arith))
]

pub left_of : (x : Path) (E : List Equation) → 1 ≤ count x (lefts E) → (e : Equation) × IsIn e E × (e.left ≡ x)
left_of x [] most = absurd (omega arith)
left_of x (e ∷ E) most = elim (cases_Bool (path_eq e.left x)) [
  | inl same ↦ (e, inl refl, path_same e.left x same)
  | inr other ↦ let o : one_if (path_eq e.left x) ≡ 0 = rw other refl in let r = left_of x E (omega arith) in (r.0, inr r.1, r.2)
]

pub left_counts : (e : Equation) (E : List Equation) → IsIn e E → 1 ≤ count e.left (lefts E)
left_counts e [] is = absurd is
left_counts e (d ∷ E) (inl here) = let o = same_counts e.left d.left (ap (λ (c : Equation). c.left) (sym here)) in omega arith
left_counts e (d ∷ E) (inr later) = let o = left_counts e E later in omega arith

pub update_of : (x : Path) (U : List Update) → 1 ≤ count x (update_lefts U) → (u : Update) × IsIn u U × (u.left ≡ x)
update_of x [] most = absurd (omega arith)
update_of x (u ∷ U) most = elim (cases_Bool (path_eq u.left x)) [
  | inl same ↦ (u, inl refl, path_same u.left x same)
  | inr other ↦ let o : one_if (path_eq u.left x) ≡ 0 = rw other refl in let r = update_of x U (omega arith) in (r.0, inr r.1, r.2)
]

pub update_counts : (u : Update) (U : List Update) → IsIn u U → 1 ≤ count u.left (update_lefts U)
update_counts u [] is = absurd is
update_counts u (d ∷ U) (inl here) = let o = same_counts u.left d.left (ap (λ (c : Update). c.left) (sym here)) in omega arith
update_counts u (d ∷ U) (inr later) = let o = update_counts u U later in omega arith

-- signals of some kinds are some of all
pub where_most : (x : Path) (test : Kind → Bool) (xs : List Signal) → count x (paths_where test xs) ≤ count x (paths xs)
where_most x test [] = omega arith
where_most x test (s ∷ xs) = elim (cases_Bool (test s.kind)) [
  | inl passes ↦ let e = where_most x test xs in let f : count x (paths_where test (s ∷ xs)) ≡ one_if (path_eq s.path x) + count x (paths_where test xs) = rw passes refl in omega arith
  | inr fails ↦ let e = where_most x test xs in let f : count x (paths_where test (s ∷ xs)) ≡ count x (paths_where test xs) = rw fails refl in omega arith
]

pub where_counts : (test : Kind → Bool) (s : Signal) (xs : List Signal) → IsIn s xs → test s.kind ≡ true → 1 ≤ count s.path (paths_where test xs)
where_counts test s [] is passes = absurd is
where_counts test s (y ∷ xs) (inl here) passes =
    let k : test y.kind ≡ true = subst (λ (z : Signal). test z.kind ≡ true) here passes in
    let o = same_counts s.path y.path (ap (λ (z : Signal). z.path) (sym here)) in
    let f : count s.path (paths_where test (y ∷ xs)) ≡ one_if (path_eq y.path s.path) + count s.path (paths_where test xs) = rw k refl in
    omega arith
where_counts test s (y ∷ xs) (inr later) passes =
    let e = where_counts test s xs later passes in
    let f = count_append s.path (if test y.kind then y.path ∷ [] else []) (paths_where test xs) in
    omega arith

-- and one of another kind is one more
pub where_less : (test : Kind → Bool) (s : Signal) (xs : List Signal) → IsIn s xs → test s.kind ≡ false → suc (count s.path (paths_where test xs)) ≤ count s.path (paths xs)
where_less test s [] is other = absurd is
where_less test s (y ∷ xs) (inl here) other =
    let k : test y.kind ≡ false = subst (λ (z : Signal). test z.kind ≡ false) here other in
    let o = same_counts s.path y.path (ap (λ (z : Signal). z.path) (sym here)) in
    let e = where_most s.path test xs in
    let f : count s.path (paths_where test (y ∷ xs)) ≡ count s.path (paths_where test xs) = rw k refl in
    omega arith
where_less test s (y ∷ xs) (inr later) other = elim (cases_Bool (test y.kind)) [
  | inl passes ↦
      let e = where_less test s xs later other in
      let f : count s.path (paths_where test (y ∷ xs)) ≡ one_if (path_eq y.path s.path) + count s.path (paths_where test xs) = rw passes refl in
      omega arith
  | inr fails ↦
      let e = where_less test s xs later other in
      let f : count s.path (paths_where test (y ∷ xs)) ≡ count s.path (paths_where test xs) = rw fails refl in
      omega arith
]

-- a signal of some path and kind
pub where_of : (x : Path) (test : Kind → Bool) (xs : List Signal) → 1 ≤ count x (paths_where test xs) → (s : Signal) × IsIn s xs × (s.path ≡ x) × (test s.kind ≡ true)
where_of x test [] most = absurd (omega arith)
where_of x test (y ∷ xs) most = elim (cases_Bool (test y.kind)) [
  | inl passes ↦
      let f : count x (paths_where test (y ∷ xs)) ≡ one_if (path_eq y.path x) + count x (paths_where test xs) = rw passes refl in
      elim (cases_Bool (path_eq y.path x)) [
        | inl same ↦ (y, inl refl, path_same y.path x same, passes)
        | inr other ↦ let o : one_if (path_eq y.path x) ≡ 0 = rw other refl in let r = where_of x test xs (omega arith) in (r.0, inr r.1, r.2, r.3)
      ]
  | inr fails ↦
      let f : count x (paths_where test (y ∷ xs)) ≡ count x (paths_where test xs) = rw fails refl in
      let r = where_of x test xs (omega arith) in (r.0, inr r.1, r.2, r.3)
]

pub path_counts : (s : Signal) (xs : List Signal) → IsIn s xs → 1 ≤ count s.path (paths xs)
path_counts s [] is = absurd is
path_counts s (y ∷ xs) (inl here) = let o = same_counts s.path y.path (ap (λ (z : Signal). z.path) (sym here)) in omega arith
path_counts s (y ∷ xs) (inr later) = let o = path_counts s xs later in omega arith

-- two signals of one path are one
pub one_signal : (xs : List Signal) (s t : Signal) → count s.path (paths xs) ≤ 1 → IsIn s xs → IsIn t xs → s.path ≡ t.path → s ≡ t
one_signal [] s t once p q same = absurd p
one_signal (y ∷ xs) s t once (inl p) (inl q) same = p ∙ sym q
one_signal (y ∷ xs) s t once (inl p) (inr q) same =
    let o = same_counts s.path y.path (ap (λ (z : Signal). z.path) (sym p)) in
    let e = subst (λ (z : Path). 1 ≤ count z (paths xs)) (sym same) (path_counts t xs q) in
    absurd (omega arith)
one_signal (y ∷ xs) s t once (inr p) (inl q) same =
    let o = same_counts s.path y.path (ap (λ (z : Signal). z.path) (sym q) ∙ sym same) in
    let e = path_counts s xs p in
    absurd (omega arith)
one_signal (y ∷ xs) s t once (inr p) (inr q) same = let less : count s.path (paths xs) ≤ 1 = omega arith in one_signal xs s t less p q same

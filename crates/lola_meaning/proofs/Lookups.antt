-- The first equation and the first update of a path, and values of a type as lists.
use Rattle.std.proofs.Common.{◌≡◌, ℕ, ◌≤◌, true, List, [], ◌∷◌, map, reverse, Some, refl, sym, ◌∙◌, ap, subst, inl, inr, arith}
use Rattle.std.proofs.lemmas.Bool.{cases_Bool, cond-true, cond-false}
use Rattle.lola_bits.specs.Lists.{IsIn}
use Rattle.lola_alg.specs.Means.{number_in}
use Rattle.lola_flat.specs.Numbers.{first_numbers}
use Rattle.lola_tree.specs.declared.named.Shape.{Shape}
use Rattle.lola_tree.specs.declared.named.Shape.TheVariants.{Vector, Array}
use Rattle.lola_tree.specs.Names.{Names}
use Rattle.lola_tree.specs.Tree.{SourceTree}
use Rattle.lola_tree.specs.Value.{Path}
use Rattle.lola_tree.specs.design.Signals.{register, Signal, signals, elements}
use Rattle.lola_tree.specs.design.Equations.{Equation, Update, updates}
use Rattle.lola_tree.specs.design.Cycle.{IsSignal, AreSame}
use Rattle.lola_tree.specs.design.Chains.{flat_equations}
use Rattle.lola_design.specs.Paths.{path_eq, one_if, count, lefts, update_lefts, has_equation, is_register}
use Rattle.lola_design.specs.Assigned.{AreAssigned}
use Rattle.lola_design.specs.Graph.{right_of}
use Rattle.lola_design.proofs.Found.{where_counts, update_counts}
use Rattle.lola_design.proofs.Counts.{one_equation}
use Rattle.lola_design.proofs.Stored.{one_update}
use Rattle.lola_design.proofs.OneSolution.{path_same, path_is}
use Rattle.lola_unfold.specs.Flat.{update_of}
use Rattle.lola_meaning.proofs.Numbers.{value_at, same_values}

-- a path among some counts
pub path_counted : (x : Path) (xs : List Path) → IsIn x xs → 1 ≤ count x xs
path_counted x [] is = absurd is
path_counted x (y ∷ ys) (inl same) = let e : one_if (path_eq y x) ≡ 1 = rw (subst (λ (z : Path). path_eq z x ≡ true) same (path_is x)) refl in omega arith
path_counted x (y ∷ ys) (inr later) = let h = path_counted x ys later in omega arith

-- the first equation of a path
pub first_right : (E : List Equation) (x : Path) → 1 ≤ count x (lefts E) → (e : Equation) × IsIn e E × (e.left ≡ x) × (right_of E x ≡ Some e.right)
first_right [] x some = absurd (omega arith)
first_right (e ∷ E) x some = elim (cases_Bool (path_eq e.left x)) [
  | inl same ↦ (e, inl refl, path_same e.left x same, cond-true (path_eq e.left x) (Some e.right) (right_of E x) same)
  | inr other ↦
      let none : one_if (path_eq e.left x) ≡ 0 = rw other refl in
      let r = first_right E x (omega arith) in
      (r.0, inr r.1, r.2, cond-false (path_eq e.left x) (Some e.right) (right_of E x) other ∙ r.3)
]

-- the first update of a path
pub first_update : (U : List Update) (x : Path) → 1 ≤ count x (update_lefts U) → (u : Update) × IsIn u U × (u.left ≡ x) × (update_of U x ≡ Some u)
first_update [] x some = absurd (omega arith)
first_update (u ∷ U) x some = elim (cases_Bool (path_eq u.left x)) [
  | inl same ↦ (u, inl refl, path_same u.left x same, cond-true (path_eq u.left x) (Some u) (update_of U x) same)
  | inr other ↦
      let none : one_if (path_eq u.left x) ≡ 0 = rw other refl in
      let r = first_update U x (omega arith) in
      (r.0, inr r.1, r.2, cond-false (path_eq u.left x) (Some u) (update_of U x) other ∙ r.3)
]

-- where a path has one update, it is that one
pub that_update : (U : List Update) (u : Update) → count u.left (update_lefts U) ≤ 1 → IsIn u U → update_of U u.left ≡ Some u
that_update [] u once there = absurd there
that_update (t ∷ U) u once (inl here) =
    cond-true (path_eq t.left u.left) (Some t) (update_of U u.left) (subst (λ (d : Update). path_eq d.left u.left ≡ true) here (path_is u.left)) ∙ ap (λ (d : Update). Some d) (sym here)
that_update (t ∷ U) u once (inr later) = elim (cases_Bool (path_eq t.left u.left)) [
  | inl same ↦ absurd (let a : one_if (path_eq t.left u.left) ≡ 1 = rw same refl in let b = update_counts u U later in omega arith)
  | inr other ↦
      let none : one_if (path_eq t.left u.left) ≡ 0 = rw other refl in
      cond-false (path_eq t.left u.left) (Some t) (update_of U u.left) other ∙ that_update U u (omega arith) later
]

-- the equation of a wire or pad, and the update of a register
pub equation_at : (S : SourceTree) → AreAssigned (reverse S.modules) → (x : Signal) → IsIn x (signals S) → has_equation x.kind ≡ true →
    (e : Equation) × IsIn e (flat_equations S) × (e.left ≡ x.path) × (right_of (flat_equations S) x.path ≡ Some e.right)
equation_at S are x there wired =
    first_right (flat_equations S) x.path (let a = where_counts has_equation x (signals S) there wired in let b = one_equation x.path S are in omega arith)

pub update_at : (S : SourceTree) → AreAssigned (reverse S.modules) → (x : Signal) → IsSignal S register x → (u : Update) × IsIn u (updates S) × (u.left ≡ x.path) × (update_of (updates S) x.path ≡ Some u)
update_at S are x there =
    first_update (updates S) x.path (let a = where_counts is_register x (signals S) there.0 (ap is_register there.1) in let b = one_update x.path S are in omega arith)

-- values that are the same, as lists and back
pub same_elements : (names : Names) (type : Shape) (x y : ℕ → ℕ) → AreSame names type x y → map x (first_numbers (elements names type)) ≡ map y (first_numbers (elements names type))
same_elements names (Vector w) x y same = ap (λ (n : ℕ). n ∷ []) same
same_elements names (Array n w) x y same = same_values x y (elements names (Array n w)) same

pub from_elements : (names : Names) (type : Shape) (l : List ℕ) (y : ℕ → ℕ) → l ≡ map y (first_numbers (elements names type)) → AreSame names type (number_in l) y
from_elements names (Vector w) l y is = ap (λ (k : List ℕ). number_in k 0) is
from_elements names (Array n w) l y is = λ i inside. ap (λ (k : List ℕ). number_in k i) is ∙ value_at y (elements names (Array n w)) i inside

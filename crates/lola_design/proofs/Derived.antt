-- A design that keeps to what well sized ones do: its equations by number, what a state and an input give, and its
-- cycles as solutions.
use Rattle.std.proofs.Common.{◌≡◌, ◌≢◌, ℕ, suc, ◌≤◌, true, false, List, [], ◌∷◌, Option, Some, None, refl, sym, ◌∙◌, ap, subst, ◌⊎◌, inl, inr, arith}
use Rattle.std.specs.Prelude.{if◌then◌else◌}
use Rattle.std.proofs.lemmas.Bool.{cases_Bool, cond-true, cond-false}
use Rattle.lola_bits.specs.Lists.{IsIn}
use Rattle.lola_tree.specs.declared.named.Shape.{Shape}
use Rattle.lola_tree.specs.declared.named.Shape.TheVariants.{Vector, Array}
use Rattle.lola_tree.specs.Tree.{SourceTree}
use Rattle.lola_tree.specs.Value.{Path, Values}
use Rattle.lola_tree.specs.design.Signals.{Kind, clock, input, pad, wire, register, Signal, signals, signal_paths}
use Rattle.lola_tree.specs.Names.{Names}
use Rattle.lola_tree.specs.design.Equations.{Equation, right_value}
use Rattle.lola_tree.specs.design.Cycle.{AreSame, Cycle}
use Rattle.lola_tree.specs.design.Chains.{flat_equations}
use Rattle.lola_design.specs.Paths.{path_eq, count, has_equation, paths_where}
use Rattle.lola_design.specs.Regular.{IsArray, IsRegular}
use Rattle.lola_design.proofs.Counts.{one_equation}
use Rattle.lola_design.proofs.Paths.{paths, paths_once}
use Rattle.lola_design.proofs.Pads.{pads_flat}
use Rattle.lola_design.proofs.Found.{counted_in, left_of, left_counts, where_most, where_counts, where_less, path_counts}
use Rattle.lola_design.proofs.OneSolution.{path_same, path_is}
use Rattle.lola_design.proofs.Numbered.{Given, vector, array, IsGivenAs, Fixed, IsFixed, AreEquations, Solves}

-- what a value is given as
abbrev pub given_as : Shape → (ℕ → ℕ) → Given
given_as (Vector width) x = vector (x 0)
given_as (Array count width) x = array x

abbrev pub given_of : Kind → Shape → (ℕ → ℕ) → (ℕ → ℕ) → Option Given
given_of clock type s i = None
given_of input type s i = Some (given_as type i)
given_of pad type s i = None
given_of wire type s i = None
given_of register type s i = Some (given_as type s)

abbrev fixed_in : List Signal → Values → Values → Fixed
fixed_in [] s inp x = None
fixed_in (y ∷ ys) s inp x = if path_eq y.path x then given_of y.kind y.type (s x) (inp x) else fixed_in ys s inp x

from_given : (names : Names) (type : Shape) (x y : ℕ → ℕ) → IsGivenAs (given_as type y) x → AreSame names type x y
from_given names (Vector width) x y same = same
from_given names (Array count width) x y same = λ n within. same n

module _ (s inp : Values) where
  -- what is given to a signal
  fixed_is : (xs : List Signal) (y : Signal) → count y.path (paths xs) ≤ 1 → IsIn y xs → fixed_in xs s inp y.path ≡ given_of y.kind y.type (s y.path) (inp y.path)
  fixed_is [] y once is = absurd is
  fixed_is (z ∷ xs) y once (inl here) =
      let same : path_eq z.path y.path ≡ true = subst (λ (w : Signal). path_eq w.path y.path ≡ true) here (path_is y.path) in
      cond-true (path_eq z.path y.path) (given_of z.kind z.type (s y.path) (inp y.path)) (fixed_in xs s inp y.path) same
      ∙ subst (λ (w : Signal). given_of w.kind w.type (s y.path) (inp y.path) ≡ given_of y.kind y.type (s y.path) (inp y.path)) here refl
  fixed_is (z ∷ xs) y once (inr later) = elim (cases_Bool (path_eq z.path y.path)) [
    | inl same ↦ absurd (let e = path_counts y xs later in let f : count y.path (paths (z ∷ xs)) ≡ suc (count y.path (paths xs)) = rw same (omega arith) in omega arith)
    | inr other ↦
        let less : count y.path (paths xs) ≤ 1 = omega arith in
        cond-false (path_eq z.path y.path) (given_of z.kind z.type (s y.path) (inp y.path)) (fixed_in xs s inp y.path) other ∙ fixed_is xs y less later
  ]

  -- and what has it
  pub fixed_from : (xs : List Signal) (x : Path) (g : Given) → fixed_in xs s inp x ≡ Some g → (y : Signal) × IsIn y xs × (y.path ≡ x) × (given_of y.kind y.type (s x) (inp x) ≡ Some g)
  fixed_from [] x g is = absurd (let e : None ≡ Some g = is in cc)
  fixed_from (z ∷ xs) x g is = elim (cases_Bool (path_eq z.path x)) [
    | inl same ↦ (z, inl refl, path_same z.path x same, sym (cond-true (path_eq z.path x) (given_of z.kind z.type (s x) (inp x)) (fixed_in xs s inp x) same) ∙ is)
    | inr other ↦
        let r = fixed_from xs x g (sym (cond-false (path_eq z.path x) (given_of z.kind z.type (s x) (inp x)) (fixed_in xs s inp x) other) ∙ is) in
        (r.0, inr r.1, r.2, r.3)
  ]

module _ (S : SourceTree) (is : IsRegular S) (s inp : Values) where
  abbrev pub fixed : Fixed
  fixed x = fixed_in (signals S) s inp x

  once : (x : Path) → count x (signal_paths S) ≤ 1
  once x = paths_once S is.names x

  pub given_to : (y : Signal) → IsIn y (signals S) → fixed y.path ≡ given_of y.kind y.type (s y.path) (inp y.path)
  given_to y there = fixed_is s inp (signals S) y (once y.path) there

  -- a wire or pad has an equation
  pub equation_of : (y : Signal) → IsIn y (signals S) → has_equation y.kind ≡ true → (e : Equation) × IsIn e (flat_equations S) × (e.left ≡ y.path)
  equation_of y there passes =
      let e = where_counts has_equation y (signals S) there passes in
      let f = one_equation y.path S is.assigned in
      left_of y.path (flat_equations S) (omega arith)

  -- what has an equation is one
  left_wire : (e : Equation) → IsIn e (flat_equations S) → 1 ≤ count e.left (paths_where has_equation (signals S))
  left_wire e there = let a = left_counts e (flat_equations S) there in let b = one_equation e.left S is.assigned in omega arith

  no_equation : (y : Signal) → IsIn y (signals S) → has_equation y.kind ≡ false → (e : Equation) → IsIn e (flat_equations S) → y.path ≡ e.left → ⊥
  no_equation y there none e said same =
      let a = subst (λ (x : Path). 1 ≤ count x (paths_where has_equation (signals S))) (sym same) (left_wire e said) in
      let b = where_less has_equation y (signals S) there none in
      let c = once y.path in
      omega arith

  pub equation_wires : (e : Equation) → IsIn e (flat_equations S) → (y : Signal) → IsIn y (signals S) → y.path ≡ e.left → has_equation y.kind ≡ true
  equation_wires e said y there same = elim (cases_Bool (has_equation y.kind)) [ inl wired ↦ wired | inr none ↦ absurd (no_equation y there none e said same) ]

  kind_given : (k : Kind) (type : Shape) (a b : ℕ → ℕ) (g : Given) → given_of k type a b ≡ Some g → has_equation k ≡ false
  kind_given clock type a b g e = absurd (let f : None ≡ Some g = e in cc)
  kind_given input type a b g e = refl
  kind_given pad type a b g e = absurd (let f : None ≡ Some g = e in cc)
  kind_given wire type a b g e = absurd (let f : None ≡ Some g = e in cc)
  kind_given register type a b g e = refl

  vector_read : (y : Path) (z : Signal) → IsIn z (signals S) → (k : Kind) → z.kind ≡ k → k ≢ clock → z.path ≡ y → IsFixed fixed y ⊎ ((d : Equation) × IsIn d (flat_equations S) × (d.left ≡ y))
  vector_read y z there clock kind other path = absurd (other refl)
  vector_read y z there input kind other path =
      inl (given_as z.type (inp z.path), subst (λ (x : Path). fixed x ≡ Some (given_as z.type (inp z.path))) path (given_to z there ∙ ap (λ (k : Kind). given_of k z.type (s z.path) (inp z.path)) kind))
  vector_read y z there register kind other path =
      inl (given_as z.type (s z.path), subst (λ (x : Path). fixed x ≡ Some (given_as z.type (s z.path))) path (given_to z there ∙ ap (λ (k : Kind). given_of k z.type (s z.path) (inp z.path)) kind))
  vector_read y z there pad kind other path = let e = equation_of z there (ap has_equation kind) in inr (e.0, e.1, e.2 ∙ path)
  vector_read y z there wire kind other path = let e = equation_of z there (ap has_equation kind) in inr (e.0, e.1, e.2 ∙ path)

  pub array_is : (type : Shape) (x : ℕ → ℕ) → IsArray type → given_as type x ≡ array x
  array_is (Vector width) x none = absurd none
  array_is (Array count width) x is_array = refl

  pub are_equations : AreEquations (flat_equations S) fixed (signal_paths S)
  are_equations = record {
    paths_once = once;
    lefts_once = λ x. let a = one_equation x S is.assigned in let b = where_most x has_equation (signals S) in let c = once x in omega arith;
    signals = λ e there. let a = left_wire e there in let b = where_most e.left has_equation (signals S) in counted_in e.left (signal_paths S) (omega arith);
    apart = λ e there f.
        let y = fixed_from s inp (signals S) e.left f.0 f.1 in
        no_equation y.0 y.1 (kind_given y.0.kind y.0.type (s e.left) (inp e.left) f.0 y.3) e there y.2;
    vectors = λ e there y read. let z = (is.equation_reads e there).vector y read in vector_read y z.0 z.1 z.0.kind refl z.2 z.4;
    arrays = λ e there y read.
        let z = (is.equation_reads e there).array y read in (
          s z.0.path,
          subst (λ (x : Path). fixed x ≡ Some (array (s z.0.path))) z.3
              (given_to z.0 z.1.0 ∙ ap (λ (k : Kind). given_of k z.0.type (s z.0.path) (inp z.0.path)) z.1.1 ∙ ap (λ (g : Given). Some g) (array_is z.0.type (s z.0.path) z.2)),
        );
  }

  -- a cycle meets the equations of its signals
  pub meets_all : (v : Values) → Cycle S s inp v → (e : Equation) → IsIn e (flat_equations S) → v e.left 0 ≡ right_value inp v e.right
  meets_all v c = (pads_flat S is.pads inp v).0 c.holds

  -- and solutions are cycles
  pub cycle_of : (v : Values) → Solves (flat_equations S) fixed inp v → Cycle S s inp v
  cycle_of v q = record {
    holds = (pads_flat S is.pads inp v).1 q.meets;
    registers = λ y there. from_given y.names y.type (v y.path) (s y.path)
        (q.agrees y.path (given_as y.type (s y.path)) (given_to y there.0 ∙ ap (λ (k : Kind). given_of k y.type (s y.path) (inp y.path)) there.1));
    inputs = λ y there. from_given y.names y.type (v y.path) (inp y.path)
        (q.agrees y.path (given_as y.type (inp y.path)) (given_to y there.0 ∙ ap (λ (k : Kind). given_of k y.type (s y.path) (inp y.path)) there.1));
  }

-- The width, the number and the fit of an expression hang on what it reads alone.
use Rattle.std.proofs.Common.{◌≡◌, ℕ, zero, suc, ◌^◌, ◌<◌, ◌≤◌, List, [], ◌∷◌, length, replicate, get_or, refl, ap, ap₂, subst, arith}
use Rattle.std.specs.List.{AllByRecursion}
use Rattle.std.proofs.lemmas.Nat.{pow_pos}
use Rattle.lola_bits.proofs.All.{all_front, all_back}
use Rattle.lola_bits.specs.Number.{slice_of}
use Rattle.lola_alg.specs.Means.{IsWidth, Suits, op_width, op_works, op_number, number_in}
use Rattle.lola_flat.specs.Tree.{ExprTree, number, signal, from_outside, element, slice, join, repeat, apply, ExprTrees, no_expr, one_expr}
use Rattle.lola_flat.specs.Value.{Env, elements, sum_of, joined_all, width, widths, value, values, IsVectorOf, IsArrayOf, Fits, AllFit, reads, all_reads}
use Rattle.lola_flat.specs.Signals.{HaveSame}

module _ (W V : Env ℕ) where
  mutual
    pub width_same : (e : ExprTree) → AllByRecursion (HaveSame W V) (reads e) → width W e ≡ width V e
    width_same (number w n) same = refl
    width_same (signal n) same = ap (λ (x : List ℕ). get_or x 0 0) same.0
    width_same (from_outside n) same = same.0
    width_same (element n place) same = ap (λ (x : List ℕ). get_or x 0 0) same.0
    width_same (slice of high low) same = refl
    width_same (join parts) same = ap sum_of (widths_same parts same)
    width_same (repeat part times) same = ap (λ w. sum_of (replicate times w)) (width_same part same)
    width_same (apply o args) same = ap (op_width o) (widths_same args same)

    pub widths_same : (es : ExprTrees) → AllByRecursion (HaveSame W V) (all_reads es) → widths W es ≡ widths V es
    widths_same no_expr same = refl
    widths_same (one_expr e es) same =
        ap₂ (λ (x : ℕ) (xs : List ℕ). x ∷ xs) (width_same e (all_front (HaveSame W V) (reads e) (all_reads es) same)) (widths_same es (all_back (HaveSame W V) (reads e) (all_reads es) same))

  -- a table that has something for a signal has the signal
  there : {X : Type 0} (xs : List (List X)) (n : ℕ) → 1 ≤ length (get_or xs n []) → n < length xs
  there [] n some = absurd (omega arith)
  there (x ∷ xs) zero some = omega arith
  there (x ∷ xs) (suc n) some = let h = there xs n some in omega arith

  given : (xs : List ℕ) (n : ℕ) → 1 ≤ get_or xs n 0 → n < length xs
  given [] n some = absurd (omega arith)
  given (x ∷ xs) zero some = omega arith
  given (x ∷ xs) (suc n) some = let h = given xs n some in omega arith

  array_there : (ws : List ℕ) (place : ℕ) → IsArrayOf ws place → 1 ≤ length ws
  array_there ws place a = let p = pow_pos place in let c : length ws ≡ 2 ^ place = a.count in omega arith

  mutual
    pub fits_same : (e : ExprTree) → AllByRecursion (HaveSame W V) (reads e) → Fits W e → Fits V e
    fits_same (number w n) same fits = fits
    fits_same (signal n) same fits =
        let vector : IsVectorOf (elements V n) = subst IsVectorOf same.0 fits.1 in
        let one : length (elements V n) ≡ 1 = vector.one in
        (there V.signals n (omega arith), vector)
    fits_same (from_outside n) same fits =
        let wide : IsWidth (get_or V.outside n 0) = subst IsWidth same.0 fits.1 in
        (given V.outside n wide.0, wide)
    fits_same (element n place) same fits =
        let array : IsArrayOf (elements V n) (width V place) = subst (IsArrayOf (elements V n)) (width_same place same.1) (subst (λ (ws : List ℕ). IsArrayOf ws (width W place)) same.0 fits.1.0) in
        (there V.signals n (array_there (elements V n) (width V place) array), (array, fits_same place same.1 fits.1.1))
    fits_same (slice of high low) same fits = (subst (λ w. high < w) (width_same of same) fits.0, (fits.1.0, fits_same of same fits.1.1))
    fits_same (join parts) same fits = (subst (λ ws. IsWidth (sum_of ws)) (widths_same parts same) fits.0, all_fit_same parts same fits.1)
    fits_same (repeat part times) same fits = (subst (λ w. IsWidth (sum_of (replicate times w))) (width_same part same) fits.0, fits_same part same fits.1)
    fits_same (apply o args) same fits = (subst (Suits o) (widths_same args same) fits.0, all_fit_same args same fits.1)

    pub all_fit_same : (es : ExprTrees) → AllByRecursion (HaveSame W V) (all_reads es) → AllFit W es → AllFit V es
    all_fit_same no_expr same fits = tt
    all_fit_same (one_expr e es) same fits =
        (fits_same e (all_front (HaveSame W V) (reads e) (all_reads es) same) fits.0, all_fit_same es (all_back (HaveSame W V) (reads e) (all_reads es) same) fits.1)

module _ (W V N M : Env ℕ) where
  mutual
    pub value_same : (e : ExprTree) → AllByRecursion (HaveSame W V) (reads e) → AllByRecursion (HaveSame N M) (reads e) → value W N e ≡ value V M e
    value_same (number w n) wide same = refl
    value_same (signal n) wide same = ap (λ (x : List ℕ). get_or x 0 0) same.0
    value_same (from_outside n) wide same = same.0
    value_same (element n place) wide same = ap₂ number_in same.0 (value_same place wide.1 same.1)
    value_same (slice of high low) wide same = ap (λ x. slice_of x high low) (value_same of wide same)
    value_same (join parts) wide same = ap₂ joined_all (widths_same W V parts wide) (values_same parts wide same)
    value_same (repeat part times) wide same = ap₂ (λ (w n : ℕ). joined_all (replicate times w) (replicate times n)) (width_same W V part wide) (value_same part wide same)
    value_same (apply o args) wide same = ap₂ (λ (ws ns : List ℕ). op_number o (op_works o ws) ns) (widths_same W V args wide) (values_same args wide same)

    pub values_same : (es : ExprTrees) → AllByRecursion (HaveSame W V) (all_reads es) → AllByRecursion (HaveSame N M) (all_reads es) → values W N es ≡ values V M es
    values_same no_expr wide same = refl
    values_same (one_expr e es) wide same =
        ap₂ (λ (x : ℕ) (xs : List ℕ). x ∷ xs)
        (value_same e (all_front (HaveSame W V) (reads e) (all_reads es) wide) (all_front (HaveSame N M) (reads e) (all_reads es) same))
        (values_same es (all_back (HaveSame W V) (reads e) (all_reads es) wide) (all_back (HaveSame N M) (reads e) (all_reads es) same))

-- What stands ready behind the steps of the parts.
use Rattle.std.proofs.Common.{◌≡◌, ℕ, ◌≤◌, List, [], ◌++◌, length, drop, Some, sym, ap, subst, ◌∙◌, append-nil}
use Rattle.std.proofs.lemmas.List.{drop_all}
use Rattle.std.specs.List.{AllByRecursion}
use Rattle.lola_alg.specs.Algebra.{Calls, Meaning, IsAlgebra}
use Rattle.lola_alg.specs.Means.{AreKnown, HasArray}
use Rattle.lola_alg.specs.Steps.{into}
use Rattle.lola_alg.specs.Loops.{GoesOn}
use Rattle.lola_flat.specs.declared.expr.FExpr.{FExpr}
use Rattle.lola_flat.specs.Tree.{ExprTree, expr_trees, element}
use Rattle.lola_flat.specs.Value.{Env, mapped, elements, vector, width, Fits, AllFit}
use Rattle.lola_eval.specs.Steps.{lowers_step}
use Rattle.lola_eval.specs.Means.{EnvKnown, MeansValue, MeansValues}
use Rattle.lola_eval.proofs.Kept.{env_known, elements_known}
use Rattle.lola_eval.proofs.Means.{array_of, lowers_means}

module _ {D B : Type 0} (c : Calls D B) (m : Meaning D B) (law : IsAlgebra c m) where
  pub array_ready : (E : Env (List B)) (n : ℕ) (t : ExprTree) (d now : D) (x : List B) (items : List (List B)) → Fits (mapped length E) (element n t) → EnvKnown m d E → MeansValue m E t d (now, x) →
      items ≡ elements E n → HasArray items x
  array_ready E n t d now x items fits known p is =
      subst (λ (ys : List (List B)). HasArray ys x) (sym is) (vector 0 (mapped length E) n, array_of c m law E n x (width (mapped length E) t) p.long fits.1.0)

  pub elements_ready : (E : Env (List B)) (n : ℕ) (t : ExprTree) (d now : D) (x : List B) (items : List (List B)) → EnvKnown m d E → MeansValue m E t d (now, x) →
      items ≡ elements E n → AllByRecursion (AreKnown m now) items
  elements_ready E n t d now x items known p is = subst (AllByRecursion (AreKnown m now)) (sym is) (elements_known m now E n (env_known m d now E p.stays known))

  pub lowers_done : (E : Env (List B)) (es : List FExpr) (at : ℕ) (d now : D) (made : List (List B)) → length es ≤ at → EnvKnown m d E → AllFit (mapped length E) (expr_trees es) →
      GoesOn (lowers_step c E (expr_trees es) d) made (lowers_step c E (expr_trees (drop at es)) now) → MeansValues m E (expr_trees es) d (now, made)
  lowers_done E es at d now made past known fits so =
      let none : drop at es ≡ [] = drop_all at es past in
      let end : lowers_step c E (expr_trees es) d ≡ Some (now, made) =
      so ∙ ap (λ ys. into (lowers_step c E (expr_trees ys) now) (λ more f. Some (f, made ++ more))) none ∙ ap (λ xs. Some (now, xs)) (append-nil made) in
      lowers_means c m law E (expr_trees es) d (now, made) fits known end

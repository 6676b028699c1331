-- Loops make the steps of their lists, one after another.
use Rattle.std.proofs.Common.{◌≡◌, ℕ, zero, suc, ◌+◌, ◌-◌, ◌/◌, ◌%◌, ◌<◌, List, [], ◌∷◌, ◌++◌, length, drop, get_or, Option, Some, None, sym, ap, subst, ◌∙◌, arith}
use Rattle.std.specs.Prelude.{nat_eq}
use Rattle.std.proofs.lemmas.List.{drop_more}
use Rattle.lola_alg.specs.Algebra.{Calls}
use Rattle.lola_alg.specs.Steps.{into}
use Rattle.lola_alg.specs.Loops.{GoesOn}
use Rattle.lola_alg.proofs.Loops.{goes_on_more}
use Rattle.lola_flat.specs.declared.expr.FExpr.{FExpr}
use Rattle.lola_flat.specs.Tree.{expr_tree, one_expr, expr_trees}
use Rattle.lola_flat.specs.Value.{Env, Fits, AllFit}
use Rattle.lola_eval.specs.Steps.{number_step, lower_step, lowers_step}

-- the next element stands in front of the rest
pub trees_more : (es : List FExpr) (at : ℕ) (e : FExpr) → at < length es → e ≡ get_or es at e → expr_trees (drop at es) ≡ one_expr (expr_tree e) (expr_trees (drop (at + 1) es))
trees_more es at e within is = ap expr_trees (drop_more es at e within ∙ ap (λ x. x ∷ drop (at + 1) es) (sym is))

module _ {D B : Type 0} (c : Calls D B) where
  pub number_more : (width place rest : ℕ) (d now : D) (bit : B) (made : List B) (whole : Option (D × List B)) → place < width → (now, bit) ≡ c.constant d (nat_eq (rest % 2) 1) →
      GoesOn whole made (number_step c (width - place) rest d) → (items : List B) → items ≡ made ++ bit ∷ [] → GoesOn whole items (number_step c (width - (place + 1)) (rest / 2) now)
  number_more width place rest d now bit made whole within one e items all =
      let less : width - place ≡ suc (width - (place + 1)) = omega arith in
      let first : number_step c (width - place) rest d ≡ into (number_step c (width - (place + 1)) (rest / 2) now) (λ bits f. Some (f, bit ∷ bits)) =
      ap (λ w. number_step c w rest d) less ∙ ap (λ (o : D × B). into (number_step c (width - (place + 1)) (rest / 2) o.0) (λ bits f. Some (f, o.1 ∷ bits))) (sym one) in
      subst (λ is. GoesOn whole is (number_step c (width - (place + 1)) (rest / 2) now)) (sym all)
      (goes_on_more whole made bit (number_step c (width - (place + 1)) (rest / 2) now) (subst (GoesOn whole made) first e))

  pub lowers_more : (E : Env (List B)) (es : List FExpr) (at : ℕ) (e : FExpr) (d now : D) (bits : List B) (made : List (List B)) (whole : Option (D × List (List B))) → at < length es → e ≡ get_or es at e →
      lower_step c E (expr_tree e) d ≡ Some (now, bits) → GoesOn whole made (lowers_step c E (expr_trees (drop at es)) d) → (items : List (List B)) → items ≡ made ++ bits ∷ [] →
      GoesOn whole items (lowers_step c E (expr_trees (drop (at + 1) es)) now)
  lowers_more E es at e d now bits made whole within is step so items all =
      let first : lowers_step c E (expr_trees (drop at es)) d ≡ into (lowers_step c E (expr_trees (drop (at + 1) es)) now) (λ more f. Some (f, bits ∷ more)) =
      ap (λ ts. lowers_step c E ts d) (trees_more es at e within is) ∙ ap (λ o. into o (λ x f. into (lowers_step c E (expr_trees (drop (at + 1) es)) f) (λ xs h. Some (h, x ∷ xs)))) step in
      subst (λ is. GoesOn whole is (lowers_step c E (expr_trees (drop (at + 1) es)) now)) (sym all)
      (goes_on_more whole made bits (lowers_step c E (expr_trees (drop (at + 1) es)) now) (subst (GoesOn whole made) first so))

  -- a step without a place is the whole without one
  pub lowers_full : (E : Env (List B)) (es : List FExpr) (at : ℕ) (e : FExpr) (d : D) (made : List (List B)) (whole : Option (D × List (List B))) → at < length es → e ≡ get_or es at e →
      lower_step c E (expr_tree e) d ≡ None → GoesOn whole made (lowers_step c E (expr_trees (drop at es)) d) → whole ≡ None
  lowers_full E es at e d made whole within is none so =
      let first : lowers_step c E (expr_trees (drop at es)) d ≡ None =
      ap (λ ts. lowers_step c E ts d) (trees_more es at e within is) ∙ ap (λ o. into o (λ x f. into (lowers_step c E (expr_trees (drop (at + 1) es)) f) (λ xs h. Some (h, x ∷ xs)))) none in
      so ∙ ap (λ o. into o (λ more d. Some (d, made ++ more))) first

-- an expression of a list that fits does
pub fits_at : (W : Env ℕ) (es : List FExpr) (at : ℕ) (e : FExpr) → at < length es → e ≡ get_or es at e → AllFit W (expr_trees es) → Fits W (expr_tree e)
fits_at W [] at e within is all = absurd (omega arith)
fits_at W (x ∷ es) zero e within is all = subst (λ y. Fits W (expr_tree y)) (sym is) all.0
fits_at W (x ∷ es) (suc n) e within is all = fits_at W es n e (omega arith) is all.1

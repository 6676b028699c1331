-- Outcomes in stages: those of two different stages exclude each other.
use Rattle.std.proofs.Common.{◌≡◌, ℕ, zero, suc, ◌+◌, ◌<◌, ◌≤◌, refl, sym, ap, ◌∙◌, subst, inl, inr, ◌⊎◌, arith}
use Rattle.std.proofs.lemmas.Bool.{cases_lt}
use Rattle.lola_app.specs.Stages.{Stage, words, reading, scanning, grammar, sizes, forms, table, limits, verdict, place_of, IsReached}

-- the stage with a number
abbrev pub stage_at : ℕ → Stage
stage_at zero = words
stage_at (suc zero) = reading
stage_at (suc (suc zero)) = scanning
stage_at (suc (suc (suc zero))) = grammar
stage_at (suc (suc (suc (suc zero)))) = sizes
stage_at (suc (suc (suc (suc (suc zero))))) = forms
stage_at (suc (suc (suc (suc (suc (suc zero)))))) = table
stage_at (suc (suc (suc (suc (suc (suc (suc zero))))))) = limits
stage_at (suc (suc (suc (suc (suc (suc (suc (suc n)))))))) = verdict

numbered : (k : Stage) → stage_at (place_of k) ≡ k
numbered words = refl
numbered reading = refl
numbered scanning = refl
numbered grammar = refl
numbered sizes = refl
numbered forms = refl
numbered table = refl
numbered limits = refl
numbered verdict = refl

-- so no two have one number
same_place : (j k : Stage) → place_of j ≡ place_of k → j ≡ k
same_place j k e = sym (numbered j) ∙ ap stage_at e ∙ numbered k

-- the first stage is reached, and the stage behind one that is reached and passed
pub reached_first : (Passes : Stage → Type 0) → IsReached Passes words
reached_first Passes earlier before = absurd (omega (arith, before))

pub reached_next : (Passes : Stage → Type 0) (k next : Stage) → place_of next ≡ place_of k + 1 → IsReached Passes k → Passes k → IsReached Passes next
reached_next Passes k next behind reached passes j before = go (cases_lt (place_of j) (place_of k))
  where
    go : ((place_of j < place_of k) ⊎ (place_of k ≤ place_of j)) → Passes j
    go (inl less) = reached j less
    go (inr more) =
        let same : place_of j ≡ place_of k = omega (arith, before, behind, more) in
        subst Passes (sym (same_place j k same)) passes

-- where what comes at a stage comes only if that is reached and not passed, and what comes at one stage
-- stands in a relation, so does what comes at any two
module _ {A : Type 0} (Passes : Stage → Type 0) (Comes : Stage → A → Type 0) (R : A → A → Type 0) (reached : (k : Stage) (a : A) → Comes k a → IsReached Passes k) (stops : (k : Stage) (a : A) → Comes k a → Passes k → ⊥) (one : (k : Stage) (a b : A) → Comes k a → Comes k b → R a b) where
  pub one_of_all : (j k : Stage) (a b : A) → Comes j a → Comes k b → R a b
  one_of_all j k a b p q = go (cases_lt (place_of j) (place_of k)) (cases_lt (place_of k) (place_of j))
    where
      go : ((place_of j < place_of k) ⊎ (place_of k ≤ place_of j)) → ((place_of k < place_of j) ⊎ (place_of j ≤ place_of k)) → R a b
      go (inl less) other = absurd (stops j a p (reached k b q j less))
      go (inr more) (inl less) = absurd (stops k b q (reached j a p k less))
      go (inr more) (inr most) =
          let same : place_of j ≡ place_of k = omega (arith, more, most) in
          one k a b (subst (λ (s : Stage). Comes s a) (same_place j k same) p) q

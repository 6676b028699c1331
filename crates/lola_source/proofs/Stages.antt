-- What comes at two different stages excludes each other.
use Rattle.std.proofs.Common.{◌≡◌, ℕ, zero, suc, ◌+◌, ◌<◌, ◌≤◌, List, refl, sym, ap, ◌∙◌, subst, inl, inr, ◌⊎◌, arith}
use Rattle.std.proofs.lemmas.Bool.{cases_lt}
use Rattle.lola_source.specs.Stages.{Stage, scanning, grammar, sizes, depth, count, chains, place_of, Passes, IsReached}

-- the stage with a number
abbrev pub stage_at : ℕ → Stage
stage_at zero = scanning
stage_at (suc zero) = grammar
stage_at (suc (suc zero)) = sizes
stage_at (suc (suc (suc zero))) = depth
stage_at (suc (suc (suc (suc zero)))) = count
stage_at (suc (suc (suc (suc (suc n))))) = chains

numbered : (k : Stage) → stage_at (place_of k) ≡ k
numbered scanning = refl
numbered grammar = refl
numbered sizes = refl
numbered depth = refl
numbered count = refl
numbered chains = refl

-- so no two have one number
same_place : (j k : Stage) → place_of j ≡ place_of k → j ≡ k
same_place j k e = sym (numbered j) ∙ ap stage_at e ∙ numbered k

-- the first stage is reached, and the stage behind one that is reached and passed
pub reached_first : (bytes : List ℕ) → IsReached bytes scanning
reached_first bytes earlier before = absurd (omega (arith, before))

pub reached_next : (bytes : List ℕ) (k next : Stage) → place_of next ≡ place_of k + 1 → IsReached bytes k → Passes bytes k → IsReached bytes next
reached_next bytes k next behind reached passes j before = go (cases_lt (place_of j) (place_of k))
  where
    go : ((place_of j < place_of k) ⊎ (place_of k ≤ place_of j)) → Passes bytes j
    go (inl less) = reached j less
    go (inr more) =
        let same : place_of j ≡ place_of k = omega (arith, before, behind, more) in
        subst (Passes bytes) (sym (same_place j k same)) passes

-- two stages that are reached and not passed are one
pub one_stage : (bytes : List ℕ) (j k : Stage) → IsReached bytes j → (Passes bytes j → ⊥) → IsReached bytes k → (Passes bytes k → ⊥) → j ≡ k
one_stage bytes j k to_j stops_j to_k stops_k = go (cases_lt (place_of j) (place_of k)) (cases_lt (place_of k) (place_of j))
  where
    go : ((place_of j < place_of k) ⊎ (place_of k ≤ place_of j)) → ((place_of k < place_of j) ⊎ (place_of j ≤ place_of k)) → j ≡ k
    go (inl less) other = absurd (stops_j (to_k j less))
    go (inr more) (inl less) = absurd (stops_k (to_j k less))
    go (inr more) (inr most) = same_place j k (omega (arith, more, most))

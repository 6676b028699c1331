-- All bytes of a run are of its kind.
use Rattle.std.proofs.Common.{◌≡◌, ℕ, suc, ◌+◌, Bool, true, false, cond, List, [], ◌∷◌, take, refl, ◌∙◌, ap, arith}
use Rattle.std.specs.Prelude.{◌&&◌}
use Rattle.std.specs.List.{prefix_len, list_all}

by_test : {X : Type 0} (p : X → Bool) (x : X) (xs : List X) (b : Bool) → p x ≡ b → list_all p (take (prefix_len p xs) xs) ≡ true → list_all p (take (prefix_len p (x ∷ xs)) (x ∷ xs)) ≡ true
by_test p x xs true e behind =
    let more : 1 + prefix_len p xs ≡ suc (prefix_len p xs) = omega arith in
    let long : prefix_len p (x ∷ xs) ≡ suc (prefix_len p xs) = ap (λ (t : Bool). cond t (1 + prefix_len p xs) 0) e ∙ more in
    ap (λ (n : ℕ). list_all p (take n (x ∷ xs))) long ∙ ap (λ (t : Bool). t && list_all p (take (prefix_len p xs) xs)) e ∙ behind
by_test p x xs false e behind = ap (λ (t : Bool). list_all p (take (cond t (1 + prefix_len p xs) 0) (x ∷ xs))) e

pub run_is : {X : Type 0} (p : X → Bool) (xs : List X) → list_all p (take (prefix_len p xs) xs) ≡ true
run_is p [] = refl
run_is p (x ∷ xs) = by_test p x xs (p x) refl (run_is p xs)

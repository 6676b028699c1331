-- The bit of a vector of one bit, and whether two vectors are equal.
use Rattle.std.proofs.Common.{◌≡◌, ℕ, ◌+◌, ◌*◌, Bool, true, false, List, [], ◌∷◌, length, Option, Some, None, refl, sym, ◌∙◌, ap, ap₂, subst, arith}
use Rattle.std.specs.Prelude.{nat_eq}
use Rattle.lola_bits.specs.Number.{number}
use Rattle.lola_bits.proofs.Options.{some_same}
use Rattle.lola_alg.specs.Algebra.{Calls, Meaning, Answers, IsAlgebra}
use Rattle.lola_alg.specs.Steps.{alone, equal_step}
use Rattle.lola_alg.specs.Means.{AreKnown, number_at, MeansNumber}
use Rattle.lola_alg.proofs.BitMeans.{into_made, answers_since, kept_bit}
use Rattle.lola_alg.proofs.Loops.{stays_then, stay_known}
use Rattle.lola_alg.proofs.WordMeans.{equal_means}
use Rattle.lola_flat.specs.Tree.{ExprTree}
use Rattle.lola_flat.specs.Value.{Env, mapped, value}
use Rattle.lola_eval.specs.Steps.{lower_step}
use Rattle.lola_eval.specs.Means.{EnvKnown, numbers}
use Rattle.lola_eval.proofs.Kept.{number_stay, env_known, env_stay}
use Rattle.lola_eval.proofs.Means.{lower_means}
use Rattle.lola_checks.specs.Steps.{only_bit, bit_step, alike_step}
use Rattle.lola_checks.specs.Suits.{IsBit, AreAlike}

one_bit : (b : Bool) → b ≡ nat_eq (number b + 2 * 0) 1
one_bit true = refl
one_bit false = refl

one_same : (b t : Bool) → number b + 2 * 0 ≡ number t → b ≡ t
one_same true true e = refl
one_same true false e = absurd (omega arith)
one_same false true e = absurd (omega arith)
one_same false false e = refl

module _ {D B : Type 0} (c : Calls D B) where
  -- a bit that is made alone and then taken is the bit
  pub only_alone : (made : Option (D × B)) (now : D) (bits : List B) (got : D × B) → alone c made ≡ Some (now, bits) → only_bit c bits now ≡ Some got → made ≡ Some got
  only_alone None now bits got e f = absurd (cc)
  only_alone (Some x) now bits got e f = subst (λ (r : D × List B). only_bit c r.1 r.0 ≡ Some got) (sym (some_same (x.0, x.1 ∷ []) (now, bits) e)) f

  pub alone_none : (made : Option (D × B)) → alone c made ≡ None → made ≡ None
  alone_none None e = refl
  alone_none (Some x) e = absurd (cc)

module _ {D B : Type 0} (c : Calls D B) (m : Meaning D B) (law : IsAlgebra c m) where
  pub alike_answers : (x y : List B) (d : D) (made : D × B) → length y ≡ length x → AreKnown m d x → AreKnown m d y → equal_step c x y d ≡ Some made →
      Answers m d made (λ v. nat_eq (number_at m d v x) (number_at m d v y))
  alike_answers x y d made same kx ky e =
      let a = equal_means c m law x y d (made.0, made.1 ∷ []) same kx ky (ap (alone c) e) in
      record { stays = a.stays; known = a.known.0; means = λ v. one_same (m.value made.0 v made.1) (nat_eq (number_at m d v x) (number_at m d v y)) (a.means v) }

  only_means : (d : D) (x : List B) (before : D) (made : D × B) (f : (ℕ → Bool) → ℕ) → MeansNumber m before d x 1 f → only_bit c x d ≡ Some made → Answers m before made (λ v. nat_eq (f v) 1)
  only_means d [] before made f a e = absurd (let h = a.long in omega arith)
  only_means d (b ∷ []) before made f a e =
      answers_since m before d made (λ v. m.value d v b) (λ v. nat_eq (f v) 1) a.stays (λ v. one_bit (m.value d v b) ∙ ap (λ n. nat_eq n 1) (a.means v))
      (kept_bit m d b made (λ v. m.value d v b) (record { known = a.known.0; means = λ v. refl }) e)
  only_means d (b ∷ other ∷ bits) before made f a e = absurd (let h = a.long in omega arith)

  -- an expression of one bit
  pub bit_means : (E : Env (List B)) (t : ExprTree) (d : D) (made : D × B) → IsBit (mapped length E) t → EnvKnown m d E → bit_step c E t d ≡ Some made →
      Answers m d made (λ v. nat_eq (value (mapped length E) (numbers m d v E) t) 1)
  bit_means E t d made suits known e =
      let i = into_made (lower_step c E t d) _ made e in
      let a = lower_means c m law E t d i.0 suits.fits known i.1.0 in
      let f : (ℕ → Bool) → ℕ = λ v. value (mapped length E) (numbers m d v E) t in
      let one : MeansNumber m d i.0.0 i.0.1 1 f = record { stays = a.stays; known = a.known; long = a.long ∙ suits.one; means = a.means } in
      only_means i.0.0 i.0.1 d made f one i.1.1

  -- two expressions of one width
  pub alike_means : (E : Env (List B)) (l r : ExprTree) (d : D) (made : D × B) → AreAlike (mapped length E) l r → EnvKnown m d E → alike_step c E l r d ≡ Some made →
      Answers m d made (λ v. nat_eq (value (mapped length E) (numbers m d v E) l) (value (mapped length E) (numbers m d v E) r))
  alike_means E l r d made suits known e =
      let i = into_made (lower_step c E l d) _ made e in
      let a = lower_means c m law E l d i.0 suits.left_fits known i.1.0 in
      let j = into_made (lower_step c E r i.0.0) _ made i.1.1 in
      let b = lower_means c m law E r i.0.0 j.0 suits.right_fits (env_known m d i.0.0 E a.stays known) j.1.0 in
      let q = alike_answers i.0.1 j.0.1 j.0.0 made (b.long ∙ suits.same ∙ sym a.long) (stay_known m i.0.0 j.0.0 i.0.1 b.stays a.known) b.known j.1.1 in
      answers_since m d j.0.0 made (λ v. nat_eq (number_at m j.0.0 v i.0.1) (number_at m j.0.0 v j.0.1))
      (λ v. nat_eq (value (mapped length E) (numbers m d v E) l) (value (mapped length E) (numbers m d v E) r)) (stays_then m d i.0.0 j.0.0 a.stays b.stays)
      (λ v. ap₂ nat_eq (number_stay m i.0.0 j.0.0 i.0.1 b.stays a.known v ∙ a.means v) (b.means v ∙ ap (λ N. value (mapped length E) N r) (env_stay m d i.0.0 E a.stays known v))) q

-- Whether a word fits a pattern.
use Rattle.std.proofs.Common.{◌≡◌, ℕ, zero, suc, ◌+◌, ◌*◌, ◌/◌, ◌%◌, ◌<◌, ◌≤◌, Bool, true, false, not, ◌&&◌, List, [], ◌∷◌, length, map, Some, refl, sym, ◌∙◌, ap, ap₂, subst, arith}
use Rattle.std.specs.Prelude.{nat_eq, slice_get}
use Rattle.std.specs.Int.{bit_at}
use Rattle.std.proofs.lemmas.Nat.Bits.{bit_at_lowest, bit_at-suc}
use Rattle.std.proofs.Math.Bool.{and_assoc, and-true}
use Rattle.lola_bits.specs.Number.{number}
use Rattle.lola_bits.specs.BitLists.{number_of}
use Rattle.lola_bits.proofs.All.{of_all}
use Rattle.lola_bits.proofs.Places.{get_map, get_in}
use Rattle.lola_alg.specs.Algebra.{Calls, Meaning, Answers, IsAlgebra}
use Rattle.lola_alg.specs.Steps.{into}
use Rattle.lola_alg.specs.Means.{AreKnown, number_at}
use Rattle.lola_alg.proofs.BitMeans.{into_made, Has, has_later, made_has, itself, stays_same, answers_since, kept_bit, both_answers, negated_answers}
use Rattle.lola_alg.proofs.Loops.{stays_then, stay_known}
use Rattle.lola_alg.proofs.WordMeans.{constant_has}
use Rattle.lola_flat.specs.Tree.{ExprTree}
use Rattle.lola_flat.specs.Value.{Env, mapped, value}
use Rattle.lola_eval.specs.Steps.{lower_step}
use Rattle.lola_eval.specs.Means.{EnvKnown, numbers}
use Rattle.lola_eval.proofs.Kept.{number_stay}
use Rattle.lola_eval.proofs.Means.{lower_means}
use Rattle.lola_checks.specs.declared.check.Mark.{Mark}
use Rattle.lola_checks.specs.declared.check.Mark.TheVariants.{Zero, One, Any}
use Rattle.lola_checks.specs.Holds.{mark_suits, pattern_suits}
use Rattle.lola_checks.specs.Suits.{PatternSuits}
use Rattle.lola_checks.specs.Steps.{mark_step, fits_from, fits_step}

is_zero : (b : Bool) → not b ≡ nat_eq (number b) 0
is_zero true = refl
is_zero false = refl

is_one : (b : Bool) → b ≡ nat_eq (number b) 1
is_one true = refl
is_one false = refl

-- a place below the length has its item
pub item_there : {X : Type 0} (xs : List X) (i : ℕ) → i < length xs → (x : X) × (slice_get xs i ≡ Some x)
item_there [] i within = absurd (omega arith)
item_there (x ∷ xs) zero within = (x, refl)
item_there (x ∷ xs) (suc i) within = item_there xs i (omega arith)

-- the bit at a place of a number is that of its list
bit_in : (bs : List Bool) (i : ℕ) (b : Bool) → slice_get bs i ≡ Some b → number b ≡ bit_at (number_of bs) i
bit_in [] i b e = absurd (cc)
bit_in (x ∷ bs) zero b e = let f : x ≡ b = cc in ap number (sym f) ∙ lowest_is x (number_of bs) ∙ sym (bit_at_lowest (number x + 2 * number_of bs))
  where
    lowest_is : (x : Bool) (k : ℕ) → number x ≡ (number x + 2 * k) % 2
    lowest_is true k = omega arith
    lowest_is false k = omega arith
bit_in (x ∷ bs) (suc i) b e = bit_in bs i b e ∙ ap (λ n. bit_at n i) (half_is x (number_of bs)) ∙ sym (bit_at-suc (number x + 2 * number_of bs) i)
  where
    half_is : (x : Bool) (k : ℕ) → k ≡ (number x + 2 * k) / 2
    half_is true k = omega arith
    half_is false k = omega arith

module _ {D B : Type 0} (c : Calls D B) (m : Meaning D B) (law : IsAlgebra c m) where
  -- a mark takes in whether a bit suits it
  pub mark_answers : (mark : Mark) (b so : B) (x w : (ℕ → Bool) → Bool) (d : D) (made : D × B) → Has m d b x → Has m d so w → mark_step c mark (Some b) so d ≡ Some made →
      Answers m d made (λ v. w v && mark_suits mark (number (x v)))
  mark_answers Zero b so x w d made hb h e =
      let n = c.negated d b in
      let no : Answers m d n (λ v. not (x v)) = negated_answers c m law d b x hb in
      answers_since m d n.0 made (λ v. w v && not (x v)) (λ v. w v && nat_eq (number (x v)) 0) no.stays (λ v. ap (λ t. w v && t) (is_zero (x v)))
      (both_answers c m law n.0 so n.1 w (λ v. not (x v)) made (has_later m d n.0 so w no.stays h) (made_has m d n (λ v. not (x v)) no) e)
  mark_answers One b so x w d made hb h e =
      answers_since m d d made (λ v. w v && x v) (λ v. w v && nat_eq (number (x v)) 1) (stays_same m d) (λ v. ap (λ t. w v && t) (is_one (x v))) (both_answers c m law d so b w x made h hb e)
  mark_answers Any b so x w d made hb h e = answers_since m d d made w (λ v. w v && true) (stays_same m d) (λ v. sym (and-true (w v))) (kept_bit m d so made w h e)

  marks_means : (pattern : List Mark) (bits : List B) (so : B) (w : (ℕ → Bool) → Bool) (d : D) (made : D × B) → length pattern ≤ length bits → AreKnown m d bits → Has m d so w → fits_from c pattern bits so d ≡ Some made →
      Answers m d made (λ v. w v && pattern_suits pattern (number_at m d v bits))
  marks_means [] bits so w d made long known h e = answers_since m d d made w (λ v. w v && true) (stays_same m d) (λ v. sym (and-true (w v))) (kept_bit m d so made w h e)
  marks_means (mark ∷ behind) bits so w d made long known h e =
      let item = item_there bits (length behind) (omega arith) in
      let b : B = item.0 in
      let x : (ℕ → Bool) → Bool = λ v. m.value d v b in
      let i = into_made (mark_step c mark (Some b) so d) _ made (subst (λ o. into (mark_step c mark o so d) (λ then f. fits_from c behind bits then f) ≡ Some made) item.1 e) in
      let a = mark_answers mark b so x w d i.0 (itself m d b (of_all (λ y. m.knows d y ≡ true) b bits known (get_in bits (length behind) b item.1))) h i.1.0 in
      let y : (ℕ → Bool) → Bool = λ v. w v && mark_suits mark (number (x v)) in
      let rest = marks_means behind bits i.0.1 y i.0.0 made (omega arith) (stay_known m d i.0.0 bits a.stays known) (made_has m d i.0 y a) i.1.1 in
      answers_since m d i.0.0 made (λ v. y v && pattern_suits behind (number_at m i.0.0 v bits)) (λ v. w v && pattern_suits (mark ∷ behind) (number_at m d v bits)) a.stays
      (λ v. and_assoc (w v) (mark_suits mark (number (x v))) (pattern_suits behind (number_at m i.0.0 v bits))
      ∙ ap₂ (λ k n. w v && (mark_suits mark k && pattern_suits behind n)) (bit_in (map (m.value d v) bits) (length behind) (x v) (get_map (m.value d v) bits (length behind) b item.1))
      (number_stay m d i.0.0 bits a.stays known v)) rest

  -- a word fits a pattern
  pub fits_means : (E : Env (List B)) (t : ExprTree) (pattern : List Mark) (d : D) (made : D × B) → PatternSuits (mapped length E) t pattern → EnvKnown m d E → fits_step c E t pattern d ≡ Some made →
      Answers m d made (λ v. pattern_suits pattern (value (mapped length E) (numbers m d v E) t))
  fits_means E t pattern d made suits known e =
      let i = into_made (lower_step c E t d) _ made e in
      let a = lower_means c m law E t d i.0 suits.fits known i.1.0 in
      let one = law.constant i.0.0 true in
      let o : D = (c.constant i.0.0 true).0 in
      let long : length i.0.1 ≡ length pattern = a.long ∙ suits.long in
      let q = marks_means pattern i.0.1 (c.constant i.0.0 true).1 (λ v. true) o made (omega arith) (stay_known m i.0.0 o i.0.1 one.stays a.known) (constant_has c m law i.0.0 true) i.1.1 in
      answers_since m d o made (λ v. pattern_suits pattern (number_at m o v i.0.1)) (λ v. pattern_suits pattern (value (mapped length E) (numbers m d v E) t)) (stays_then m d i.0.0 o a.stays one.stays)
      (λ v. ap (pattern_suits pattern) (number_stay m i.0.0 o i.0.1 one.stays a.known v ∙ a.means v)) q

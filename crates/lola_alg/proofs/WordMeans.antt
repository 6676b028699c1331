-- The steps of the operators on two vectors of one width mean their numbers, in every algebra.
use Rattle.std.proofs.Common.{◌≡◌, ℕ, ◌+◌, ◌-◌, ◌*◌, ◌%◌, ◌^◌, Bool, true, false, cond, not, ◌&&◌, List, [], ◌∷◌, map, length, nat_eq, nat_lt, bit_and, bit_or, bit_xor, Option, Some, refl, sym, ap, ap₂, subst, ◌∙◌, arith}
use Rattle.std.proofs.lemmas.List.{length-map}
use Rattle.lola_bits.specs.Number.{number, inverted, sum, difference}
use Rattle.lola_bits.specs.BitLists.{number_of}
use Rattle.lola_bits.proofs.Options.{some_same}
use Rattle.lola_alg.specs.Algebra.{Calls, Meaning, Stays, Answers, IsAlgebra}
use Rattle.lola_alg.specs.Steps.{Step, each_step, pairs_step, not_step, both_step, either_step, differ_step, choose_step, sum_step, difference_step, equal_here, equal_step, less_here, less_step, alone, negated_alone}
use Rattle.lola_alg.specs.Means.{AreKnown, number_at, MeansNumber}
use Rattle.lola_alg.proofs.Bools.{either, differ, pairs_of, fold_of, add_of, pairs_long, not_number, and_number, or_number, xor_number, choose_pairs, add_number, add_long}
use Rattle.lola_alg.proofs.Orders.{same_here, below_here, same_number, below_from}
use Rattle.lola_alg.proofs.BitMeans.{into_made, Has, itself, made_has, stays_same, answers_since, negated_answers, not_answers, both_answers, either_answers, differ_answers, equal_answers, less_answers}
use Rattle.lola_alg.proofs.Loops.{stays_then, stay_known}
use Rattle.lola_alg.proofs.ListMeans.{values, values_stay, MeansBits, bits_since, each_means, pairs_means, fold_means, carry_means, choose_gate}

module _ {D B : Type 0} (m : Meaning D B) where
  -- bits with these values mean the number that the list makes
  pub bits_number : (d : D) (made : D × List B) (f : (ℕ → Bool) → List Bool) (width : ℕ) (g : (ℕ → Bool) → ℕ) → MeansBits m d made f →
      ((v : ℕ → Bool) → length (f v) ≡ width) → ((v : ℕ → Bool) → number_of (f v) ≡ g v) → MeansNumber m d made.0 made.1 width g
  bits_number d made f width g a long same =
      let v : ℕ → Bool = λ n. false in
      record {
        stays = a.stays;
        known = a.known;
        long = sym (length-map made.1 (m.value made.0 v)) ∙ (ap length (a.means v) ∙ long v);
        means = λ w. ap number_of (a.means w) ∙ same w;
      }

  -- a number since data before, and an equal one
  pub number_since : (d e : D) (made : D × List B) (width : ℕ) (f g : (ℕ → Bool) → ℕ) → Stays m d e → ((v : ℕ → Bool) → f v ≡ g v) → MeansNumber m e made.0 made.1 width f → MeansNumber m d made.0 made.1 width g
  number_since d e made width f g stays same a =
      record { stays = stays_then m d e made.0 stays a.stays; known = a.known; long = a.long; means = λ v. a.means v ∙ same v }

  values_long : (d : D) (v : ℕ → Bool) (x y : List B) → length y ≡ length x → length (values m d v y) ≡ length (values m d v x)
  values_long d v x y e = length-map y (m.value d v) ∙ (e ∙ sym (length-map x (m.value d v)))

  -- a vector of one bit means its number
  bit_number : (d : D) (bit : D × B) (f : (ℕ → Bool) → Bool) → Answers m d bit f → MeansNumber m d bit.0 (bit.1 ∷ []) 1 (λ v. number (f v))
  bit_number d bit f a = record { stays = a.stays; known = (a.known, tt); long = refl; means = λ v. ap (λ b. number b + 2 * 0) (a.means v) ∙ omega arith }

module _ {D B : Type 0} (c : Calls D B) (m : Meaning D B) (law : IsAlgebra c m) where
  nots_means : (x : List B) (d : D) (made : D × List B) → AreKnown m d x → each_step (not_step c) x d ≡ Some made → MeansBits m d made (λ v. map not (values m d v x))
  nots_means x d made known e = each_means m (not_step c) not (λ d a made k e. not_answers c m law d a (λ v. m.value d v a) made (itself m d a k) e) x d made known e

  pub not_means : (x : List B) (d : D) (made : D × List B) → AreKnown m d x → each_step (not_step c) x d ≡ Some made →
      MeansNumber m d made.0 made.1 (length x) (λ v. inverted (length x) (number_at m d v x))
  not_means x d made known e =
      bits_number m d made (λ v. map not (values m d v x)) (length x) (λ v. inverted (length x) (number_at m d v x)) (nots_means x d made known e)
      (λ v. length-map (values m d v x) not ∙ length-map x (m.value d v))
      (λ v. let h = not_number (values m d v x) in let l = ap (λ n. 2 ^ n) (length-map x (m.value d v)) in omega arith)

  -- a gate for each two bits means the operator that goes bit by bit
  gates_means : (f : B → B → Step D B) (g : Bool → Bool → Bool) (h : ℕ → ℕ → ℕ) →
      ((d : D) (a b : B) (x y : (ℕ → Bool) → Bool) (made : D × B) → Has m d a x → Has m d b y → f a b d ≡ Some made → Answers m d made (λ v. g (x v) (y v))) →
      ((xs ys : List Bool) → length ys ≡ length xs → number_of (pairs_of g xs ys) ≡ h (number_of xs) (number_of ys)) →
      (x y : List B) (d : D) (made : D × List B) → length y ≡ length x → AreKnown m d x → AreKnown m d y → pairs_step f x y d ≡ Some made →
      MeansNumber m d made.0 made.1 (length x) (λ v. h (number_at m d v x) (number_at m d v y))
  gates_means f g h answers numbers x y d made same kx ky e =
      let a = pairs_means m d f (λ v. g)
      (λ d s a b made ka kb e. answers d a b (λ v. m.value d v a) (λ v. m.value d v b) made (itself m d a ka) (itself m d b kb) e) x y d made (stays_same m d) kx ky e in
      bits_number m d made (λ v. pairs_of g (values m d v x) (values m d v y)) (length x) (λ v. h (number_at m d v x) (number_at m d v y)) a
      (λ v. pairs_long g (values m d v x) (values m d v y) (values_long m d v x y same) ∙ length-map x (m.value d v))
      (λ v. numbers (values m d v x) (values m d v y) (values_long m d v x y same))

  pub and_means : (x y : List B) (d : D) (made : D × List B) → length y ≡ length x → AreKnown m d x → AreKnown m d y → pairs_step (both_step c) x y d ≡ Some made →
      MeansNumber m d made.0 made.1 (length x) (λ v. bit_and (number_at m d v x) (number_at m d v y))
  and_means = gates_means (both_step c) (λ p q. p && q) bit_and (both_answers c m law) and_number

  pub or_means : (x y : List B) (d : D) (made : D × List B) → length y ≡ length x → AreKnown m d x → AreKnown m d y → pairs_step (either_step c) x y d ≡ Some made →
      MeansNumber m d made.0 made.1 (length x) (λ v. bit_or (number_at m d v x) (number_at m d v y))
  or_means = gates_means (either_step c) either bit_or (either_answers c m law) or_number

  pub xor_means : (x y : List B) (d : D) (made : D × List B) → length y ≡ length x → AreKnown m d x → AreKnown m d y → pairs_step (differ_step c) x y d ≡ Some made →
      MeansNumber m d made.0 made.1 (length x) (λ v. bit_xor (number_at m d v x) (number_at m d v y))
  xor_means = gates_means (differ_step c) differ bit_xor (differ_answers c m law) xor_number

  -- a choice by a bit is the choice of the numbers
  pub choose_means : (t : B) (x y : List B) (d : D) (made : D × List B) → length y ≡ length x → m.knows d t ≡ true → AreKnown m d x → AreKnown m d y → pairs_step (choose_step c t) x y d ≡ Some made →
      MeansNumber m d made.0 made.1 (length x) (λ v. cond (m.value d v t) (number_at m d v x) (number_at m d v y))
  choose_means t x y d made same kt kx ky e =
      let a = pairs_means m d (choose_step c t) (λ v p q. cond (m.value d v t) p q) (choose_gate c m law d t kt) x y d made (stays_same m d) kx ky e in
      bits_number m d made (λ v. pairs_of (λ p q. cond (m.value d v t) p q) (values m d v x) (values m d v y)) (length x) (λ v. cond (m.value d v t) (number_at m d v x) (number_at m d v y)) a
      (λ v. pairs_long (λ p q. cond (m.value d v t) p q) (values m d v x) (values m d v y) (values_long m d v x y same) ∙ length-map x (m.value d v))
      (λ v. ap number_of (choose_pairs (m.value d v t) (values m d v x) (values m d v y) (values_long m d v x y same)) ∙ chosen (m.value d v t) (values m d v x) (values m d v y))
    where
      chosen : (b : Bool) (xs ys : List Bool) → number_of (cond b xs ys) ≡ cond b (number_of xs) (number_of ys)
      chosen true xs ys = refl
      chosen false xs ys = refl

  -- the same where a vector of one bit is the number that chooses
  pub mux_means : (t : B) (x y : List B) (d : D) (made : D × List B) → length y ≡ length x → m.knows d t ≡ true → AreKnown m d x → AreKnown m d y → pairs_step (choose_step c t) x y d ≡ Some made →
      MeansNumber m d made.0 made.1 (length x) (λ v. cond (nat_eq (number_at m d v (t ∷ [])) 1) (number_at m d v x) (number_at m d v y))
  mux_means t x y d made same kt kx ky e =
      number_since m d d made (length x) (λ v. cond (m.value d v t) (number_at m d v x) (number_at m d v y)) (λ v. cond (nat_eq (number_at m d v (t ∷ [])) 1) (number_at m d v x) (number_at m d v y))
      (stays_same m d) (λ v. one (m.value d v t) (number_at m d v x) (number_at m d v y)) (choose_means t x y d made same kt kx ky e)
    where
      one : (b : Bool) (j k : ℕ) → cond b j k ≡ cond (nat_eq (number b + 2 * 0) 1) j k
      one true j k = refl
      one false j k = refl

  pub constant_has : (d : D) (b : Bool) → Has m (c.constant d b).0 (c.constant d b).1 (λ v. b)
  constant_has d b = let a = law.constant d b in record { known = a.known; means = a.means }

  pub sum_means : (x y : List B) (d : D) (made : D × List B) → length y ≡ length x → AreKnown m d x → AreKnown m d y → sum_step c x y d ≡ Some made →
      MeansNumber m d made.0 made.1 (length x) (λ v. sum (length x) (number_at m d v x) (number_at m d v y))
  sum_means x y d made same kx ky e =
      let z = law.constant d false in
      let d1 : D = (c.constant d false).0 in
      let a = carry_means c m law x y d1 (c.constant d false).1 (λ v. false) made (stay_known m d d1 x z.stays kx) (stay_known m d d1 y z.stays ky) (constant_has d false) e in
      let b = bits_since m d d1 made (λ v. add_of (values m d1 v x) (values m d1 v y) false) (λ v. add_of (values m d v x) (values m d v y) false) z.stays
      (λ v. ap₂ (λ xs ys. add_of xs ys false) (values_stay m d d1 x z.stays kx v) (values_stay m d d1 y z.stays ky v)) a in
      bits_number m d made (λ v. add_of (values m d v x) (values m d v y) false) (length x) (λ v. sum (length x) (number_at m d v x) (number_at m d v y)) b
      (λ v. add_long (values m d v x) (values m d v y) false (values_long m d v x y same) ∙ length-map x (m.value d v))
      (λ v. add_number (values m d v x) (values m d v y) false (values_long m d v x y same)
      ∙ ap₂ (λ n k. n % 2 ^ k) (let h : number_at m d v x + number_at m d v y + 0 ≡ number_at m d v x + number_at m d v y = omega arith in h) (length-map x (m.value d v)))

  pub difference_means : (x y : List B) (d : D) (made : D × List B) → length y ≡ length x → AreKnown m d x → AreKnown m d y → difference_step c x y d ≡ Some made →
      MeansNumber m d made.0 made.1 (length x) (λ v. difference (length x) (number_at m d v x) (number_at m d v y))
  difference_means x y d made same kx ky e =
      let i = into_made (each_step (not_step c) y d) _ made e in
      let n = nots_means y d i.0 ky i.1.0 in
      let d1 : D = i.0.0 in
      let z = law.constant d1 true in
      let d2 : D = (c.constant d1 true).0 in
      let to2 : Stays m d d2 = stays_then m d d1 d2 n.stays z.stays in
      let a = carry_means c m law x i.0.1 d2 (c.constant d1 true).1 (λ v. true) made (stay_known m d d2 x to2 kx) (stay_known m d1 d2 i.0.1 z.stays n.known) (constant_has d1 true) i.1.1 in
      let b = bits_since m d d2 made (λ v. add_of (values m d2 v x) (values m d2 v i.0.1) true) (λ v. add_of (values m d v x) (map not (values m d v y)) true) to2
      (λ v. ap₂ (λ xs ys. add_of xs ys true) (values_stay m d d2 x to2 kx v) (values_stay m d1 d2 i.0.1 z.stays n.known v ∙ n.means v)) a in
      bits_number m d made (λ v. add_of (values m d v x) (map not (values m d v y)) true) (length x) (λ v. difference (length x) (number_at m d v x) (number_at m d v y)) b
      (λ v. add_long (values m d v x) (map not (values m d v y)) true (nots_long d v) ∙ length-map x (m.value d v))
      (λ v. add_number (values m d v x) (map not (values m d v y)) true (nots_long d v)
      ∙ ap₂ (λ k j. k % 2 ^ j) (turned_over (values m d v y) (number_at m d v x) (length x) (length-map y (m.value d v) ∙ same)) (length-map x (m.value d v)))
    where
      nots_long : (d : D) (v : ℕ → Bool) → length (map not (values m d v y)) ≡ length (values m d v x)
      nots_long d v = length-map (values m d v y) not ∙ values_long m d v x y same

      turned_over : (ys : List Bool) (n w : ℕ) → length ys ≡ w → n + number_of (map not ys) + 1 ≡ 2 ^ w + n - number_of ys
      turned_over ys n w l = let h = not_number ys in let p = ap (λ k. 2 ^ k) l in omega arith

  -- the one bit alone, and its negation
  alone_means : (d : D) (bit : Option (D × B)) (f : (ℕ → Bool) → Bool) (made : D × List B) → ((b : D × B) → bit ≡ Some b → Answers m d b f) → alone c bit ≡ Some made →
      MeansNumber m d made.0 made.1 1 (λ v. number (f v))
  alone_means d bit f made ok e =
      let i = into_made bit _ made e in
      subst (λ n. MeansNumber m d n.0 n.1 1 (λ v. number (f v))) (some_same (i.0.0, i.0.1 ∷ []) made i.1.1) (bit_number m d i.0 f (ok i.0 i.1.0))

  negated_alone_means : (d : D) (bit : Option (D × B)) (f : (ℕ → Bool) → Bool) (made : D × List B) → ((b : D × B) → bit ≡ Some b → Answers m d b f) → negated_alone c bit ≡ Some made →
      MeansNumber m d made.0 made.1 1 (λ v. number (not (f v)))
  negated_alone_means d bit f made ok e =
      let i = into_made bit _ made e in
      let one = ok i.0 i.1.0 in
      let n = c.negated i.0.0 i.0.1 in
      let no = negated_answers c m law i.0.0 i.0.1 f (made_has m d i.0 f one) in
      subst (λ n. MeansNumber m d n.0 n.1 1 (λ v. number (not (f v)))) (some_same (n.0, n.1 ∷ []) made i.1.1)
      (bit_number m d n (λ v. not (f v)) (answers_since m d i.0.0 n (λ v. not (f v)) (λ v. not (f v)) one.stays (λ v. refl) no))

  -- the bit that says whether vectors are equal, and whether one is less
  equal_bit : (x y : List B) (d : D) (made : D × B) → length y ≡ length x → AreKnown m d x → AreKnown m d y → equal_step c x y d ≡ Some made →
      Answers m d made (λ v. nat_eq (number_at m d v x) (number_at m d v y))
  equal_bit x y d made same kx ky e =
      let z = law.constant d true in
      let d1 : D = (c.constant d true).0 in
      let a = fold_means c m law (equal_here c) same_here
      (λ d a b so w made ka kb h e. equal_answers c m law d a b so (λ v. m.value d v a) (λ v. m.value d v b) w made (itself m d a ka) (itself m d b kb) h e)
      x y d1 (c.constant d true).1 (λ v. true) made (stay_known m d d1 x z.stays kx) (stay_known m d d1 y z.stays ky) (constant_has d true) e in
      answers_since m d d1 made (λ v. fold_of same_here (values m d1 v x) (values m d1 v y) true) (λ v. nat_eq (number_at m d v x) (number_at m d v y)) z.stays
      (λ v. ap₂ (λ xs ys. fold_of same_here xs ys true) (values_stay m d d1 x z.stays kx v) (values_stay m d d1 y z.stays ky v)
      ∙ same_number (values m d v x) (values m d v y) true (values_long m d v x y same)) a

  less_bit : (x y : List B) (d : D) (made : D × B) → length y ≡ length x → AreKnown m d x → AreKnown m d y → less_step c x y d ≡ Some made →
      Answers m d made (λ v. nat_lt (number_at m d v x) (number_at m d v y))
  less_bit x y d made same kx ky e =
      let z = law.constant d false in
      let d1 : D = (c.constant d false).0 in
      let a = fold_means c m law (less_here c) below_here
      (λ d a b so w made ka kb h e. less_answers c m law d a b so (λ v. m.value d v a) (λ v. m.value d v b) w made (itself m d a ka) (itself m d b kb) h e)
      x y d1 (c.constant d false).1 (λ v. false) made (stay_known m d d1 x z.stays kx) (stay_known m d d1 y z.stays ky) (constant_has d false) e in
      answers_since m d d1 made (λ v. fold_of below_here (values m d1 v x) (values m d1 v y) false) (λ v. nat_lt (number_at m d v x) (number_at m d v y)) z.stays
      (λ v. ap₂ (λ xs ys. fold_of below_here xs ys false) (values_stay m d d1 x z.stays kx v) (values_stay m d d1 y z.stays ky v)
      ∙ below_from (values m d v x) (values m d v y) (values_long m d v x y same)) a

  pub equal_means : (x y : List B) (d : D) (made : D × List B) → length y ≡ length x → AreKnown m d x → AreKnown m d y → alone c (equal_step c x y d) ≡ Some made →
      MeansNumber m d made.0 made.1 1 (λ v. number (nat_eq (number_at m d v x) (number_at m d v y)))
  equal_means x y d made same kx ky e = alone_means d (equal_step c x y d) (λ v. nat_eq (number_at m d v x) (number_at m d v y)) made (λ b is. equal_bit x y d b same kx ky is) e

  pub unequal_means : (x y : List B) (d : D) (made : D × List B) → length y ≡ length x → AreKnown m d x → AreKnown m d y → negated_alone c (equal_step c x y d) ≡ Some made →
      MeansNumber m d made.0 made.1 1 (λ v. number (not (nat_eq (number_at m d v x) (number_at m d v y))))
  unequal_means x y d made same kx ky e = negated_alone_means d (equal_step c x y d) (λ v. nat_eq (number_at m d v x) (number_at m d v y)) made (λ b is. equal_bit x y d b same kx ky is) e

  pub less_means : (x y : List B) (d : D) (made : D × List B) → length y ≡ length x → AreKnown m d x → AreKnown m d y → alone c (less_step c x y d) ≡ Some made →
      MeansNumber m d made.0 made.1 1 (λ v. number (nat_lt (number_at m d v x) (number_at m d v y)))
  less_means x y d made same kx ky e = alone_means d (less_step c x y d) (λ v. nat_lt (number_at m d v x) (number_at m d v y)) made (λ b is. less_bit x y d b same kx ky is) e

  pub not_less_means : (x y : List B) (d : D) (made : D × List B) → length y ≡ length x → AreKnown m d x → AreKnown m d y → negated_alone c (less_step c x y d) ≡ Some made →
      MeansNumber m d made.0 made.1 1 (λ v. number (not (nat_lt (number_at m d v x) (number_at m d v y))))
  not_less_means x y d made same kx ky e = negated_alone_means d (less_step c x y d) (λ v. nat_lt (number_at m d v x) (number_at m d v y)) made (λ b is. less_bit x y d b same kx ky is) e

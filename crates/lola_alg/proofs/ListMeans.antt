-- Each step over vectors makes known bits whose values are the list that its truth function makes.
use Rattle.std.proofs.Common.{◌≡◌, ℕ, ◌+◌, ◌^◌, Bool, true, cond, List, [], ◌∷◌, map, Some, refl, ap, ap₂, subst, ◌∙◌}
use Rattle.lola_bits.proofs.Options.{some_same}
use Rattle.lola_alg.specs.Algebra.{Calls, Meaning, Stays, Answers, IsAlgebra}
use Rattle.lola_alg.specs.Steps.{Step, each_step, pairs_step, choose_step, adder_step, carry_step, fold_step, moves_step}
use Rattle.lola_alg.specs.Means.{AreKnown}
use Rattle.lola_alg.proofs.Bools.{pairs_of, fold_of, add_of, sum_bit, next_carry}
use Rattle.lola_alg.proofs.BitMeans.{into_made, kept_bit, Has, itself, has_later, made_has, stays_same, answers_since, adder_answers, choose_answers}
use Rattle.lola_alg.proofs.Loops.{stays_then, stay_known}

-- for each bit of the second list, the lowest first: moved by 2 to its place where it is 1
abbrev pub moves_of : (ℕ → List Bool → List Bool) → ℕ → List Bool → List Bool → List Bool
moves_of moved place [] xs = xs
moves_of moved place (b ∷ bs) xs = moves_of moved (place + 1) bs (pairs_of (λ x y. cond b x y) (moved (2 ^ place) xs) xs)

module _ {D B : Type 0} (m : Meaning D B) where
  abbrev pub values : D → (ℕ → Bool) → List B → List Bool
  values d v bits = map (m.value d v) bits

  pub values_stay : (d e : D) (bits : List B) → Stays m d e → AreKnown m d bits → (v : ℕ → Bool) → values e v bits ≡ values d v bits
  values_stay d e [] stays known v = refl
  values_stay d e (b ∷ bits) stays known v = ap₂ (λ x xs. x ∷ xs) ((stays b known.0).1 v) (values_stay d e bits stays known.1 v)

  -- known bits were made, with these values
  pub record MeansBits (before : D) (made : D × List B) (value : (ℕ → Bool) → List Bool) : Type 0 where
    pub stays : Stays m before made.0
    pub known : AreKnown m made.0 made.1
    pub means : (v : ℕ → Bool) → values made.0 v made.1 ≡ value v

  -- bits since data before, and of equal values
  pub bits_since : (d e : D) (made : D × List B) (f g : (ℕ → Bool) → List Bool) → Stays m d e → ((v : ℕ → Bool) → f v ≡ g v) → MeansBits e made f → MeansBits d made g
  bits_since d e made f g stays same a = record { stays = stays_then m d e made.0 stays a.stays; known = a.known; means = λ v. a.means v ∙ same v }

  -- a step that makes nothing leaves the bits that were there
  pub kept_bits : (d : D) (bits : List B) (made : D × List B) → AreKnown m d bits → Some (d, bits) ≡ Some made → MeansBits d made (λ v. values d v bits)
  kept_bits d bits made known e = subst (λ n. MeansBits d n (λ v. values d v bits)) (some_same (d, bits) made e) (record { stays = stays_same m d; known = known; means = λ v. refl })

  -- a bit, and then the rest
  pub one_made : (d : D) (first : D × B) (made : D × List B) (x : (ℕ → Bool) → Bool) (xs : (ℕ → Bool) → List Bool) →
      Answers m d first x → MeansBits first.0 made xs → MeansBits d (made.0, first.1 ∷ made.1) (λ v. x v ∷ xs v)
  one_made d first made x xs a r =
      let h = has_later m first.0 made.0 first.1 x r.stays (made_has m d first x a) in
      record { stays = stays_then m d first.0 made.0 a.stays r.stays; known = (h.known, r.known); means = λ v. ap₂ (λ y ys. y ∷ ys) (h.means v) (r.means v) }

  pub each_means : (f : B → Step D B) (g : Bool → Bool) → ((d : D) (a : B) (made : D × B) → m.knows d a ≡ true → f a d ≡ Some made → Answers m d made (λ v. g (m.value d v a))) →
      (xs : List B) (d : D) (made : D × List B) → AreKnown m d xs → each_step f xs d ≡ Some made → MeansBits d made (λ v. map g (values d v xs))
  each_means f g ok [] d made known e = kept_bits d [] made tt e
  each_means f g ok (x ∷ xs) d made known e =
      let i = into_made (f x d) _ made e in
      let j = into_made (each_step f xs i.0.0) _ made i.1.1 in
      let one = ok d x i.0 known.0 i.1.0 in
      let rest = each_means f g ok xs i.0.0 j.0 (stay_known m d i.0.0 xs one.stays known.1) j.1.0 in
      let all = one_made d i.0 j.0 (λ v. g (m.value d v x)) (λ v. map g (values i.0.0 v xs)) one rest in
      subst (λ n. MeansBits d n (λ v. map g (values d v (x ∷ xs)))) (some_same (j.0.0, i.0.1 ∷ j.0.1) made j.1.1)
      (bits_since d d (j.0.0, i.0.1 ∷ j.0.1) (λ v. g (m.value d v x) ∷ map g (values i.0.0 v xs)) (λ v. map g (values d v (x ∷ xs))) (stays_same m d)
      (λ v. ap (λ ys. g (m.value d v x) ∷ map g ys) (values_stay d i.0.0 xs one.stays known.1 v)) all)

  -- a gate of two bits answers so in all data from some on
  abbrev pub IsGate : D → (B → B → Step D B) → ((ℕ → Bool) → Bool → Bool → Bool) → Type 0
  IsGate since f g =
      (d : D) → Stays m since d → (a b : B) (made : D × B) → m.knows d a ≡ true → m.knows d b ≡ true → f a b d ≡ Some made → Answers m d made (λ v. g v (m.value d v a) (m.value d v b))

  pub pairs_means : (since : D) (f : B → B → Step D B) (g : (ℕ → Bool) → Bool → Bool → Bool) → IsGate since f g →
      (xs ys : List B) (d : D) (made : D × List B) → Stays m since d → AreKnown m d xs → AreKnown m d ys → pairs_step f xs ys d ≡ Some made →
      MeansBits d made (λ v. pairs_of (g v) (values d v xs) (values d v ys))
  pairs_means since f g ok [] ys d made since_d kx ky e = kept_bits d [] made tt e
  pairs_means since f g ok (x ∷ xs) [] d made since_d kx ky e = kept_bits d [] made tt e
  pairs_means since f g ok (x ∷ xs) (y ∷ ys) d made since_d kx ky e =
      let i = into_made (f x y d) _ made e in
      let j = into_made (pairs_step f xs ys i.0.0) _ made i.1.1 in
      let one = ok d since_d x y i.0 kx.0 ky.0 i.1.0 in
      let rest = pairs_means since f g ok xs ys i.0.0 j.0 (stays_then m since d i.0.0 since_d one.stays) (stay_known m d i.0.0 xs one.stays kx.1) (stay_known m d i.0.0 ys one.stays ky.1) j.1.0 in
      let all = one_made d i.0 j.0 (λ v. g v (m.value d v x) (m.value d v y)) (λ v. pairs_of (g v) (values i.0.0 v xs) (values i.0.0 v ys)) one rest in
      subst (λ n. MeansBits d n (λ v. pairs_of (g v) (values d v (x ∷ xs)) (values d v (y ∷ ys)))) (some_same (j.0.0, i.0.1 ∷ j.0.1) made j.1.1)
      (bits_since d d (j.0.0, i.0.1 ∷ j.0.1) (λ v. g v (m.value d v x) (m.value d v y) ∷ pairs_of (g v) (values i.0.0 v xs) (values i.0.0 v ys))
      (λ v. pairs_of (g v) (values d v (x ∷ xs)) (values d v (y ∷ ys))) (stays_same m d)
      (λ v. ap₂ (λ us ws. g v (m.value d v x) (m.value d v y) ∷ pairs_of (g v) us ws) (values_stay d i.0.0 xs one.stays kx.1 v) (values_stay d i.0.0 ys one.stays ky.1 v)) all)

module _ {D B : Type 0} (c : Calls D B) (m : Meaning D B) (law : IsAlgebra c m) where
  pub fold_means : (f : B → B → B → Step D B) (g : Bool → Bool → Bool → Bool) →
      ((d : D) (a b so : B) (w : (ℕ → Bool) → Bool) (made : D × B) → m.knows d a ≡ true → m.knows d b ≡ true → Has m d so w → f a b so d ≡ Some made → Answers m d made (λ v. g (m.value d v a) (m.value d v b) (w v))) →
      (xs ys : List B) (d : D) (so : B) (w : (ℕ → Bool) → Bool) (made : D × B) → AreKnown m d xs → AreKnown m d ys → Has m d so w → fold_step c f xs ys so d ≡ Some made →
      Answers m d made (λ v. fold_of g (values m d v xs) (values m d v ys) (w v))
  fold_means f g ok [] ys d so w made kx ky h e = kept_bit m d so made w h e
  fold_means f g ok (x ∷ xs) [] d so w made kx ky h e = kept_bit m d so made w h e
  fold_means f g ok (x ∷ xs) (y ∷ ys) d so w made kx ky h e =
      let i = into_made (f x y so d) _ made e in
      let then : (ℕ → Bool) → Bool = λ v. g (m.value d v x) (m.value d v y) (w v) in
      let one = ok d x y so w i.0 kx.0 ky.0 h i.1.0 in
      let rest = fold_means f g ok xs ys i.0.0 i.0.1 then made (stay_known m d i.0.0 xs one.stays kx.1) (stay_known m d i.0.0 ys one.stays ky.1) (made_has m d i.0 then one) i.1.1 in
      answers_since m d i.0.0 made (λ v. fold_of g (values m i.0.0 v xs) (values m i.0.0 v ys) (then v)) (λ v. fold_of g (values m d v (x ∷ xs)) (values m d v (y ∷ ys)) (w v)) one.stays
      (λ v. ap₂ (λ us ws. fold_of g us ws (g (m.value d v x) (m.value d v y) (w v))) (values_stay m d i.0.0 xs one.stays kx.1 v) (values_stay m d i.0.0 ys one.stays ky.1 v)) rest

  pub carry_means : (xs ys : List B) (d : D) (k : B) (w : (ℕ → Bool) → Bool) (made : D × List B) → AreKnown m d xs → AreKnown m d ys → Has m d k w → carry_step c xs ys k d ≡ Some made →
      MeansBits m d made (λ v. add_of (values m d v xs) (values m d v ys) (w v))
  carry_means [] ys d k w made kx ky h e = kept_bits m d [] made tt e
  carry_means (x ∷ xs) [] d k w made kx ky h e = kept_bits m d [] made tt e
  carry_means (x ∷ xs) (y ∷ ys) d k w made kx ky h e =
      let i = into_made (adder_step c x y k d) _ made e in
      let j = into_made (carry_step c xs ys i.0.1.1 i.0.0) _ made i.1.1 in
      let bit : (ℕ → Bool) → Bool = λ v. sum_bit (m.value d v x) (m.value d v y) (w v) in
      let next : (ℕ → Bool) → Bool = λ v. next_carry (m.value d v x) (m.value d v y) (w v) in
      let one = adder_answers c m law d x y k (λ v. m.value d v x) (λ v. m.value d v y) w i.0 (itself m d x kx.0) (itself m d y ky.0) h i.1.0 in
      let first : Answers m d (i.0.0, i.0.1.0) bit = record { stays = one.stays; known = one.bit.known; means = one.bit.means } in
      let rest = carry_means xs ys i.0.0 i.0.1.1 next j.0 (stay_known m d i.0.0 xs one.stays kx.1) (stay_known m d i.0.0 ys one.stays ky.1) one.next j.1.0 in
      let all = one_made m d (i.0.0, i.0.1.0) j.0 bit (λ v. add_of (values m i.0.0 v xs) (values m i.0.0 v ys) (next v)) first rest in
      subst (λ n. MeansBits m d n (λ v. add_of (values m d v (x ∷ xs)) (values m d v (y ∷ ys)) (w v))) (some_same (j.0.0, i.0.1.0 ∷ j.0.1) made j.1.1)
      (bits_since m d d (j.0.0, i.0.1.0 ∷ j.0.1) (λ v. bit v ∷ add_of (values m i.0.0 v xs) (values m i.0.0 v ys) (next v))
      (λ v. add_of (values m d v (x ∷ xs)) (values m d v (y ∷ ys)) (w v)) (stays_same m d)
      (λ v. ap₂ (λ us ws. sum_bit (m.value d v x) (m.value d v y) (w v) ∷ add_of us ws (next_carry (m.value d v x) (m.value d v y) (w v)))
      (values_stay m d i.0.0 xs one.stays kx.1 v) (values_stay m d i.0.0 ys one.stays ky.1 v)) all)

  -- a bit that is known chooses between two others
  pub choose_gate : (d : D) (t : B) → m.knows d t ≡ true → IsGate m d (choose_step c t) (λ v x y. cond (m.value d v t) x y)
  choose_gate d t known = λ e stays a b made ka kb made_is. choose_answers c m law e t a b (λ v. m.value d v t) (λ v. m.value e v a) (λ v. m.value e v b) made
      (has_later m d e t (λ v. m.value d v t) stays (itself m d t known)) (itself m e a ka) (itself m e b kb) made_is

  -- known bits are moved to known bits, and their values so, in all data from some on
  abbrev pub IsMoved : D → (ℕ → List B → List B) → (ℕ → List Bool → List Bool) → Type 0
  IsMoved since moved to = (d : D) → Stays m since d → (n : ℕ) (xs : List B) → AreKnown m d xs → AreKnown m d (moved n xs) × ((v : ℕ → Bool) → values m d v (moved n xs) ≡ to n (values m d v xs))

  pub moves_means : (since : D) (moved : ℕ → List B → List B) (to : ℕ → List Bool → List Bool) → IsMoved since moved to →
      (bs : List B) (place : ℕ) (xs : List B) (d : D) (made : D × List B) → Stays m since d → AreKnown m d bs → AreKnown m d xs → moves_step c moved place bs xs d ≡ Some made →
      MeansBits m d made (λ v. moves_of to place (values m d v bs) (values m d v xs))
  moves_means since moved to ok [] place xs d made since_d kb kx e = kept_bits m d xs made kx e
  moves_means since moved to ok (b ∷ bs) place xs d made since_d kb kx e =
      let i = into_made (pairs_step (choose_step c b) (moved (2 ^ place) xs) xs d) _ made e in
      let there = ok d since_d (2 ^ place) xs kx in
      let one = pairs_means m d (choose_step c b) (λ v x y. cond (m.value d v b) x y) (choose_gate d b kb.0) (moved (2 ^ place) xs) xs d i.0 (stays_same m d) there.0 kx i.1.0 in
      let rest = moves_means since moved to ok bs (place + 1) i.0.1 i.0.0 made (stays_then m since d i.0.0 since_d one.stays) (stay_known m d i.0.0 bs one.stays kb.1) one.known i.1.1 in
      bits_since m d i.0.0 made (λ v. moves_of to (place + 1) (values m i.0.0 v bs) (values m i.0.0 v i.0.1)) (λ v. moves_of to place (values m d v (b ∷ bs)) (values m d v xs)) one.stays
      (λ v. ap₂ (λ us ws. moves_of to (place + 1) us ws) (values_stay m d i.0.0 bs one.stays kb.1 v)
      (one.means v ∙ ap (λ ws. pairs_of (λ x y. cond (m.value d v b) x y) ws (values m d v xs)) (there.1 v))) rest

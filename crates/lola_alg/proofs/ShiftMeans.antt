-- The steps of the shifts mean their numbers, in every algebra.
use Rattle.std.proofs.Common.{◌≡◌, ℕ, ◌+◌, ◌*◌, ◌%◌, ◌^◌, ◌≤◌, Bool, true, false, cond, List, [], ◌∷◌, length, nat_eq, Option, Some, refl, sym, ap, ap₂, ◌∙◌, inl, inr, arith, eqb-true}
use Rattle.std.proofs.lemmas.List.{length-map}
use Rattle.std.proofs.lemmas.Bool.{cases_Bool, cond-true, cond-false}
use Rattle.lola_bits.specs.Number as should
use Rattle.lola_bits.specs.BitLists.{number_of}
use Rattle.lola_alg.specs.Algebra.{Calls, Meaning, Stays, IsAlgebra}
use Rattle.lola_alg.specs.Steps.{into, pairs_step, choose_step, moves_step, turns_step, moved_up, moved_down, moved_filled}
use Rattle.lola_alg.specs.Means.{AreKnown, number_at, MeansNumber}
use Rattle.lola_alg.proofs.Bools.{pairs_of, choose_pairs}
use Rattle.lola_alg.proofs.BitMeans.{into_made, has_later, stays_same}
use Rattle.lola_alg.proofs.Loops.{stay_known}
use Rattle.lola_alg.proofs.ListMeans.{values, values_stay, MeansBits, bits_since, kept_bits, pairs_means, choose_gate, IsMoved, moves_of, moves_means}
use Rattle.lola_alg.proofs.Moved.{turned, map_up, map_down, map_filled, map_turned, each_up, each_down, each_filled, each_turned, turned_none}
use Rattle.lola_alg.proofs.MovedNumbers.{IsMove, up_moves, down_moves, filled_moves, turned_moves, moves_whole, up_number, down_number, filled_number, turned_number}
use Rattle.lola_alg.proofs.WordMeans.{bits_number, constant_has}

module _ {D B : Type 0} (c : Calls D B) (m : Meaning D B) (law : IsAlgebra c m) where
  -- bits that were moved by each bit of a vector mean the number that was moved by its number
  moved_number : (to : ℕ → List Bool → List Bool) (f : ℕ → ℕ → ℕ → ℕ) → IsMove to → ((k : ℕ) (xs : List Bool) → 1 ≤ length xs → number_of (to k xs) ≡ f (length xs) (number_of xs) k) →
      (x y : List B) (d : D) (made : D × List B) → 1 ≤ length x → MeansBits m d made (λ v. moves_of to 0 (values m d v y) (values m d v x)) →
      MeansNumber m d made.0 made.1 (length x) (λ v. f (length x) (number_at m d v x) (number_at m d v y))
  moved_number to f is numbers x y d made some a =
      bits_number m d made (λ v. moves_of to 0 (values m d v y) (values m d v x)) (length x) (λ v. f (length x) (number_at m d v x) (number_at m d v y)) a
      (λ v. ap length (whole v) ∙ (is.long (number_at m d v y) (values m d v x) ∙ length-map x (m.value d v)))
      (λ v. let l = length-map x (m.value d v) in
      ap number_of (whole v) ∙ (numbers (number_at m d v y) (values m d v x) (omega arith) ∙ ap (λ w. f w (number_at m d v x) (number_at m d v y)) l))
    where
      whole : (v : ℕ → Bool) → moves_of to 0 (values m d v y) (values m d v x) ≡ to (number_at m d v y) (values m d v x)
      whole v =
          let e : 2 ^ 0 * number_at m d v y ≡ number_at m d v y = omega arith in
          moves_whole to is (values m d v y) 0 (values m d v x) ∙ ap (λ k. to k (values m d v x)) e

  -- moves since a constant was made
  moves_since : (moved : ℕ → List B → List B) (to : ℕ → List Bool → List Bool) (since : D) → IsMoved c m law since moved to →
      (x y : List B) (d : D) (made : D × List B) → Stays m d since → AreKnown m d x → AreKnown m d y → moves_step c moved 0 y x since ≡ Some made →
      MeansBits m d made (λ v. moves_of to 0 (values m d v y) (values m d v x))
  moves_since moved to since ok x y d made stays kx ky e =
      bits_since m d since made (λ v. moves_of to 0 (values m since v y) (values m since v x)) (λ v. moves_of to 0 (values m d v y) (values m d v x)) stays
      (λ v. ap₂ (moves_of to 0) (values_stay m d since y stays ky v) (values_stay m d since x stays kx v))
      (moves_means c m law since moved to ok y 0 x since made (stays_same m since) (stay_known m d since y stays ky) (stay_known m d since x stays kx) e)

  pub up_means : (x y : List B) (d : D) (made : D × List B) → 1 ≤ length x → AreKnown m d x → AreKnown m d y → moves_step c (moved_up (c.constant d false).1) 0 y x (c.constant d false).0 ≡ Some made →
      MeansNumber m d made.0 made.1 (length x) (λ v. should.moved_up (length x) (number_at m d v x) (number_at m d v y))
  up_means x y d made some kx ky e =
      let z = c.constant d false in
      moved_number (moved_up false) should.moved_up up_moves (λ k xs l. up_number k xs) x y d made some
      (moves_since (moved_up z.1) (moved_up false) z.0 moved x y d made (law.constant d false).stays kx ky e)
    where
      moved : IsMoved c m law (c.constant d false).0 (moved_up (c.constant d false).1) (moved_up false)
      moved = λ e stays k xs known.
          let z : B = (c.constant d false).1 in
          let h = has_later m (c.constant d false).0 e z (λ v. false) stays (constant_has c m law d false) in
          (each_up (λ b. m.knows e b ≡ true) z k xs h.known known, λ v. map_up (m.value e v) z k xs ∙ ap (λ t. moved_up t k (values m e v xs)) (h.means v))

  pub down_means : (x y : List B) (d : D) (made : D × List B) → 1 ≤ length x → AreKnown m d x → AreKnown m d y → moves_step c (moved_down (c.constant d false).1) 0 y x (c.constant d false).0 ≡ Some made →
      MeansNumber m d made.0 made.1 (length x) (λ v. should.moved_down (number_at m d v x) (number_at m d v y))
  down_means x y d made some kx ky e =
      let z = c.constant d false in
      moved_number (moved_down false) (λ w. should.moved_down) down_moves (λ k xs l. down_number k xs) x y d made some
      (moves_since (moved_down z.1) (moved_down false) z.0 moved x y d made (law.constant d false).stays kx ky e)
    where
      moved : IsMoved c m law (c.constant d false).0 (moved_down (c.constant d false).1) (moved_down false)
      moved = λ e stays k xs known.
          let z : B = (c.constant d false).1 in
          let h = has_later m (c.constant d false).0 e z (λ v. false) stays (constant_has c m law d false) in
          (each_down (λ b. m.knows e b ≡ true) z k xs h.known known, λ v. map_down (m.value e v) z k xs ∙ ap (λ t. moved_down t k (values m e v xs)) (h.means v))

  pub filled_means : (x y : List B) (d : D) (made : D × List B) → 1 ≤ length x → AreKnown m d x → AreKnown m d y → moves_step c moved_filled 0 y x d ≡ Some made →
      MeansNumber m d made.0 made.1 (length x) (λ v. should.moved_filled (length x) (number_at m d v x) (number_at m d v y))
  filled_means x y d made some kx ky e =
      moved_number moved_filled should.moved_filled filled_moves filled_number x y d made some
      (moves_since moved_filled moved_filled d (λ e stays k xs known. (each_filled (λ b. m.knows e b ≡ true) k xs known, λ v. map_filled (m.value e v) k xs)) x y d made (stays_same m d) kx ky e)

  -- turns make the list that moves in a ring make
  turns_means : (bs : List B) (place : ℕ) (xs : List B) (d : D) (made : D × List B) → AreKnown m d bs → AreKnown m d xs → turns_step c place bs xs d ≡ Some made →
      MeansBits m d made (λ v. moves_of turned place (values m d v bs) (values m d v xs))
  turns_means [] place xs d made kb kx e = kept_bits m d xs made kx e
  turns_means (b ∷ bs) place xs d made kb kx e = elim (cases_Bool (nat_eq (2 ^ place % length xs) 0)) [
    | inl none ↦ (
        let rest = turns_means bs (place + 1) xs d made kb.1 kx (sym (cond-true (nat_eq (2 ^ place % length xs) 0) (turns_step c (place + 1) bs xs d) moving none) ∙ e) in
        bits_since m d d made (λ v. moves_of turned (place + 1) (values m d v bs) (values m d v xs)) (λ v. moves_of turned place (values m d v (b ∷ bs)) (values m d v xs)) (stays_same m d)
        (λ v. ap (moves_of turned (place + 1) (values m d v bs)) (sym (unmoved v (eqb-true (2 ^ place % length xs) 0 none)))) rest)
    | inr some ↦ (
        let i = into_made (pairs_step (choose_step c b) (turned (2 ^ place) xs) xs d) (λ ys e. turns_step c (place + 1) bs ys e) made
        (sym (cond-false (nat_eq (2 ^ place % length xs) 0) (turns_step c (place + 1) bs xs d) moving some) ∙ e) in
        let known = each_turned (λ a. m.knows d a ≡ true) (2 ^ place) xs kx in
        let one = pairs_means m d (choose_step c b) (λ v x y. cond (m.value d v b) x y) (choose_gate c m law d b kb.0) (turned (2 ^ place) xs) xs d i.0 (stays_same m d) known kx i.1.0 in
        let rest = turns_means bs (place + 1) i.0.1 i.0.0 made (stay_known m d i.0.0 bs one.stays kb.1) one.known i.1.1 in
        bits_since m d i.0.0 made (λ v. moves_of turned (place + 1) (values m i.0.0 v bs) (values m i.0.0 v i.0.1)) (λ v. moves_of turned place (values m d v (b ∷ bs)) (values m d v xs)) one.stays
        (λ v. ap₂ (moves_of turned (place + 1)) (values_stay m d i.0.0 bs one.stays kb.1 v)
        (one.means v ∙ ap (λ ws. pairs_of (λ x y. cond (m.value d v b) x y) ws (values m d v xs)) (map_turned (m.value d v) (2 ^ place) xs))) rest)
  ]
    where
      moving : Option (D × List B)
      moving = into (pairs_step (choose_step c b) (turned (2 ^ place) xs) xs d) (λ ys e. turns_step c (place + 1) bs ys e)

      same_pairs : (t : Bool) (ys : List Bool) → pairs_of (λ x y. cond t x y) ys ys ≡ ys
      same_pairs true ys = choose_pairs true ys ys refl
      same_pairs false ys = choose_pairs false ys ys refl

      unmoved : (v : ℕ → Bool) → 2 ^ place % length xs ≡ 0 → pairs_of (λ x y. cond (m.value d v b) x y) (turned (2 ^ place) (values m d v xs)) (values m d v xs) ≡ values m d v xs
      unmoved v none =
          ap (λ ws. pairs_of (λ x y. cond (m.value d v b) x y) ws (values m d v xs)) (turned_none (2 ^ place) (values m d v xs) (ap (λ w. 2 ^ place % w) (length-map xs (m.value d v)) ∙ none))
          ∙ same_pairs (m.value d v b) (values m d v xs)

  pub turned_means : (x y : List B) (d : D) (made : D × List B) → 1 ≤ length x → AreKnown m d x → AreKnown m d y → turns_step c 0 y x d ≡ Some made →
      MeansNumber m d made.0 made.1 (length x) (λ v. should.turned (length x) (number_at m d v x) (number_at m d v y))
  turned_means x y d made some kx ky e = moved_number turned should.turned turned_moves turned_number x y d made some (turns_means y 0 x d made ky kx e)

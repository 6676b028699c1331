-- Where there is an order, the equations have one solution: the values along the order.
use Rattle.std.proofs.Common.{◌≡◌, ◌≢◌, ℕ, List, [], ◌∷◌, ◌++◌, refl, sym, ◌∙◌, ap, subst, ◌⊎◌, inl, inr, append_assoc, eq-eqb}
use Rattle.std.specs.Prelude.{Option, Some, None, slice_get, cond, nat_eq}
use Rattle.std.proofs.lemmas.Bool.{cond-true, cond-false, eqb-true, false_from_ne_true}
use Rattle.std.proofs.lemmas.List.{append-nil}
use Rattle.lola_order.specs.Graph.{Graph, IsWanted, ArePlaced, IsOrder}
use Rattle.lola_bits.specs.Lists.{IsIn}
use Rattle.lola_order.specs.Solutions.{HangsOnUses, IsSolution}
use Rattle.lola_bits.proofs.Lists.{in_front, but_last, in_last}

-- a signal is wanted or not
is_wanted : (g : Graph) (i : ℕ) → IsWanted g i ⊎ (IsWanted g i → ⊥)
is_wanted g i = by_entry (slice_get g i) refl
  where
    by_entry : (o : Option (Option (List ℕ))) → slice_get g i ≡ o → IsWanted g i ⊎ (IsWanted g i → ⊥)
    by_entry None e = inr (λ w. let f : None ≡ Some (Some w.uses) = sym e ∙ w.equation in cc)
    by_entry (Some None) e = inr (λ w. let f : Some None ≡ Some (Some w.uses) = sym e ∙ w.equation in cc)
    by_entry (Some (Some us)) e = inl (record { uses = us; equation = e })

-- what is placed isn't placed again
new_later : (g : Graph) (before xs : List ℕ) (i : ℕ) → ArePlaced g before xs → IsIn i before → IsIn i xs → ⊥
new_later g before [] i placed early late = late
new_later g before (x ∷ xs) i placed early (inl same) = placed.0.ready.new (subst (λ (k : ℕ). IsIn k before) same early)
new_later g before (x ∷ xs) i placed early (inr late) = new_later g (before ++ x ∷ []) xs i placed.1 (in_front i before (x ∷ []) early) late

placed_wanted : (g : Graph) (before xs : List ℕ) (i : ℕ) → ArePlaced g before xs → IsIn i xs → IsWanted g i
placed_wanted g before [] i placed is = absurd is
placed_wanted g before (x ∷ xs) i placed (inl same) = subst (λ (k : ℕ). IsWanted g k) (sym same) placed.0.ready.wanted
placed_wanted g before (x ∷ xs) i placed (inr later) = placed_wanted g (before ++ x ∷ []) xs i placed.1 later

module _ {X : Type 0} (g : Graph) (f : ℕ → (ℕ → X) → X) (hangs : HangsOnUses g f) where
  -- two solutions agree on what is placed, one by one
  agree : (base v w : ℕ → X) → IsSolution g f base v → IsSolution g f base w → (before xs : List ℕ) → ArePlaced g before xs → ((j : ℕ) → IsIn j before → v j ≡ w j) → (j : ℕ) → IsIn j (before ++ xs) → v j ≡ w j
  agree base v w p q before [] placed so j is = so j (subst (λ (l : List ℕ). IsIn j l) (append-nil before) is)
  agree base v w p q before (x ∷ xs) placed so j is =
      let here : IsWanted g x = placed.0.ready.wanted in
      let same : v x ≡ w x = p.equations x here ∙ hangs x here.uses v w here.equation (λ k among. elim (is_wanted g k) [
        | inl wanted ↦ so k (placed.0.ready.met k (record { uses = here.uses; equation = here.equation; among = among }) wanted)
        | inr given ↦ p.given k given ∙ sym (q.given k given)
      ]) ∙ sym (q.equations x here) in
      agree base v w p q (before ++ x ∷ []) xs placed.1 (λ k there. elim (but_last k x before there) [
        | inl last ↦ ap v last ∙ same ∙ sym (ap w last)
        | inr early ↦ so k early
      ]) j (rw append_assoc is)

  pub one_solution : (order : List ℕ) (base v w : ℕ → X) → IsOrder g order → IsSolution g f base v → IsSolution g f base w → (i : ℕ) → v i ≡ w i
  one_solution order base v w o p q i = elim (is_wanted g i) [
    | inl wanted ↦ agree base v w p q [] order o.placed (λ j none. absurd none) i (o.all i wanted)
    | inr given ↦ p.given i given ∙ sym (q.given i given)
  ]

  -- the values along an order
  abbrev pub updated : (ℕ → X) → ℕ → X → ℕ → X
  updated v i x j = cond (nat_eq j i) x (v j)

  abbrev pub along : (ℕ → X) → List ℕ → ℕ → X
  along v [] j = v j
  along v (i ∷ is) j = along (updated v i (f i v)) is j

  updated_here : (v : ℕ → X) (i : ℕ) (x : X) → updated v i x i ≡ x
  updated_here v i x = cond-true (nat_eq i i) x (v i) (eq-eqb i i refl)

  updated_other : (v : ℕ → X) (i : ℕ) (x : X) (j : ℕ) → j ≢ i → updated v i x j ≡ v j
  updated_other v i x j other = cond-false (nat_eq j i) x (v j) (false_from_ne_true (nat_eq j i) (λ e. other (eqb-true j i e)))

  along_other : (v : ℕ → X) (xs : List ℕ) (j : ℕ) → (IsIn j xs → ⊥) → along v xs j ≡ v j
  along_other v [] j other = refl
  along_other v (i ∷ is) j other = along_other (updated v i (f i v)) is j (λ later. other (inr later)) ∙ updated_other v i (f i v) j (λ e. other (inl e))

  along_solves : (v : ℕ → X) (before xs : List ℕ) (i : ℕ) → ArePlaced g before xs → IsIn i xs → along v xs i ≡ f i (λ j. along v xs j)
  along_solves v before [] i placed is = absurd is
  along_solves v before (x ∷ xs) i placed (inr later) = along_solves (updated v x (f x v)) (before ++ x ∷ []) xs i placed.1 later
  along_solves v before (x ∷ xs) i placed (inl same) =
      let here : IsWanted g x = placed.0.ready.wanted in
      let last : IsIn x (before ++ x ∷ []) = in_last x before in
      let kept : along (updated v x (f x v)) xs x ≡ f x v = along_other (updated v x (f x v)) xs x (new_later g (before ++ x ∷ []) xs x placed.1 last) ∙ updated_here v x (f x v) in
      let used : f x v ≡ f x (λ j. along v (x ∷ xs) j) = hangs x here.uses v (λ j. along v (x ∷ xs) j) here.equation (λ j among.
      sym (along_other v (x ∷ xs) j (λ later. elim (is_wanted g j) [
        | inl wanted ↦ new_later g before (x ∷ xs) j placed (placed.0.ready.met j (record { uses = here.uses; equation = here.equation; among = among }) wanted) later
        | inr given ↦ given (placed_wanted g before (x ∷ xs) j placed later)
      ]))) in
      subst (λ (k : ℕ). along v (x ∷ xs) k ≡ f k (λ j. along v (x ∷ xs) j)) (sym same) (kept ∙ used)

  pub a_solution : (order : List ℕ) (base : ℕ → X) → IsOrder g order → IsSolution g f base (λ j. along base order j)
  a_solution order base o = record {
    equations = λ i wanted. along_solves base [] order i o.placed (o.all i wanted);
    given = λ i given. along_other base order i (λ there. given (placed_wanted g [] order i o.placed there));
  }

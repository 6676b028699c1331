-- There is one order, and none where there is a closed chain.
use Rattle.std.proofs.Common.{◌≡◌, ℕ, suc, ◌<◌, ◌≤◌, false, List, [], ◌∷◌, ◌++◌, refl, sym, ◌∙◌, ap₂, subst, ◌⊎◌, inl, inr, append_assoc, arith, eq-eqb}
use Rattle.std.specs.Prelude.{cond, nat_eq}
use Rattle.std.proofs.lemmas.Bool.{cases_Bool, cond-true, cond-false, false≢true, eqb-true}
use Rattle.std.proofs.lemmas.List.{append-nil}
use Rattle.lola_order.specs.Graph.{Graph, IsWanted, IsUse, IsReady, IsFirstReady, ArePlaced, IsOrder, IsChain, HasLoop}
use Rattle.lola_bits.specs.Lists.{IsIn}
use Rattle.lola_bits.proofs.Lists.{but_last}

-- one more is placed
pub placed_more : (g : Graph) (before xs : List ℕ) (i : ℕ) → ArePlaced g before xs → IsFirstReady g (before ++ xs) i → ArePlaced g before (xs ++ i ∷ [])
placed_more g before [] i placed first = (subst (λ (l : List ℕ). IsFirstReady g l i) (append-nil before) first, tt)
placed_more g before (x ∷ xs) i placed first = (placed.0, placed_more g (before ++ x ∷ []) xs i placed.1 (rw append_assoc first))

-- what is ready first is one
first_one : (g : Graph) (before : List ℕ) (i j : ℕ) → IsFirstReady g before i → IsFirstReady g before j → i ≡ j
first_one g before i j p q = let a : i ≤ j = p.first j q.ready in let b : j ≤ i = q.first i p.ready in omega arith

-- where all is placed, nothing is ready
none_ready : (g : Graph) (before : List ℕ) (i : ℕ) → ((k : ℕ) → IsWanted g k → IsIn k before) → IsReady g before i → ⊥
none_ready g before i all r = r.new (all i r.wanted)

same_order : (g : Graph) (before xs ys : List ℕ) → ArePlaced g before xs → ArePlaced g before ys → ((k : ℕ) → IsWanted g k → IsIn k (before ++ xs)) → ((k : ℕ) → IsWanted g k → IsIn k (before ++ ys)) → xs ≡ ys
same_order g before [] [] p q all also = refl
same_order g before [] (y ∷ ys) p q all also = absurd (none_ready g before y (λ k w. subst (λ (l : List ℕ). IsIn k l) (append-nil before) (all k w)) q.0.ready)
same_order g before (x ∷ xs) [] p q all also = absurd (none_ready g before x (λ k w. subst (λ (l : List ℕ). IsIn k l) (append-nil before) (also k w)) p.0.ready)
same_order g before (x ∷ xs) (y ∷ ys) p q all also =
    let e : x ≡ y = first_one g before x y p.0 q.0 in
    ap₂ (λ (a : ℕ) (rest : List ℕ). a ∷ rest) e
    (same_order g (before ++ x ∷ []) xs ys p.1 (subst (λ (a : ℕ). ArePlaced g (before ++ a ∷ []) ys) (sym e) q.1)
    (λ k w. rw append_assoc (all k w))
    (λ k w. rw append_assoc (subst (λ (a : ℕ). IsIn k (before ++ a ∷ ys)) (sym e) (also k w))))

pub one_order : (g : Graph) (xs ys : List ℕ) → IsOrder g xs → IsOrder g ys → xs ≡ ys
one_order g xs ys p q = same_order g [] xs ys p.placed q.placed p.all q.all

-- how many stand before a signal
abbrev rank : ℕ → List ℕ → ℕ
rank i [] = 0
rank i (x ∷ xs) = cond (nat_eq x i) 0 (suc (rank i xs))

rank_here : (x : ℕ) (xs : List ℕ) → rank x (x ∷ xs) ≡ 0
rank_here x xs = cond-true (nat_eq x x) 0 (suc (rank x xs)) (eq-eqb x x refl)

rank_later : (i x : ℕ) (xs : List ℕ) → nat_eq x i ≡ false → rank i (x ∷ xs) ≡ suc (rank i xs)
rank_later i x xs other = cond-false (nat_eq x i) 0 (suc (rank i xs)) other

rank_most : (i x : ℕ) (xs : List ℕ) → rank i (x ∷ xs) ≤ suc (rank i xs)
rank_most i x xs = elim (cases_Bool (nat_eq x i)) [
  | inl same ↦ let e = cond-true (nat_eq x i) 0 (suc (rank i xs)) same in omega arith
  | inr other ↦ let e = cond-false (nat_eq x i) 0 (suc (rank i xs)) other in omega arith
]

-- what a placed signal uses was placed before: it stands among those before, or nearer to the front
used_before : (g : Graph) (before xs : List ℕ) (i j : ℕ) → ArePlaced g before xs → IsIn i xs → IsUse g j i → IsWanted g j → IsIn j before ⊎ (rank j xs < rank i xs)
used_before g before [] i j placed among used wanted = absurd among
used_before g before (x ∷ xs) i j placed among used wanted = elim (cases_Bool (nat_eq x i)) [
  | inl same ↦ let e : x ≡ i = eqb-true x i same in inl (placed.0.ready.met j (subst (λ (k : ℕ). IsUse g j k) (sym e) used) wanted)
  | inr other ↦
      let here : rank i (x ∷ xs) ≡ suc (rank i xs) = rank_later i x xs other in
      elim among [
        | inl same ↦ absurd (false≢true (sym other ∙ eq-eqb x i (sym same)))
        | inr later ↦ elim (used_before g (before ++ x ∷ []) xs i j placed.1 later used wanted) [
          | inl there ↦ elim (but_last j x before there) [
            | inl same ↦ inr (let e : rank j (x ∷ xs) ≡ 0 = subst (λ (k : ℕ). rank k (x ∷ xs) ≡ 0) (sym same) (rank_here x xs) in omega arith)
            | inr early ↦ inl early
          ]
          | inr nearer ↦ inr (let most = rank_most j x xs in omega arith)
        ]
      ]
]

-- what an equation uses comes before it, and so does each signal of a chain before the last
use_rank : (g : Graph) (xs : List ℕ) (i j : ℕ) → IsOrder g xs → IsUse g j i → IsWanted g j → rank j xs < rank i xs
use_rank g xs i j o used wanted = elim (used_before g [] xs i j o.placed (o.all i (record { uses = used.uses; equation = used.equation })) used wanted) [
  | inl none ↦ absurd none
  | inr nearer ↦ nearer
]

used_wanted : (g : Graph) (i j : ℕ) → IsUse g j i → IsWanted g i
used_wanted g i j used = record { uses = used.uses; equation = used.equation }

pub chain_wanted : (g : Graph) (x : ℕ) (xs : List ℕ) (y : ℕ) → IsChain g x xs y → IsWanted g y
chain_wanted g x [] y used = used_wanted g y x used
chain_wanted g x (z ∷ zs) y chain = chain_wanted g z zs y chain.1

chain_rank : (g : Graph) (order : List ℕ) (x : ℕ) (xs : List ℕ) (y : ℕ) → IsOrder g order → IsWanted g x → IsChain g x xs y → rank x order < rank y order
chain_rank g order x [] y o wanted used = use_rank g order y x o used wanted
chain_rank g order x (z ∷ zs) y o wanted chain =
    let here : rank x order < rank z order = use_rank g order z x o chain.0 wanted in
    let more : rank z order < rank y order = chain_rank g order z zs y o (used_wanted g z x chain.0) chain.1 in
    omega arith

pub no_loop : (g : Graph) (order : List ℕ) → IsOrder g order → HasLoop g → ⊥
no_loop g order o l =
    let less : rank l.first order < rank l.first order = chain_rank g order l.first l.others l.first o (chain_wanted g l.first l.others l.first l.closed) l.closed in
    omega arith

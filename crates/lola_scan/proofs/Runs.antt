-- Runs of bytes that pass a test, at the front of a text.
use Rattle.std.proofs.Common.{◌≡◌, ℕ, ◌<◌, ◌≤◌, Bool, true, false, List, [], ◌∷◌, ◌++◌, length, take, drop, refl, sym, ap, inl, inr, arith}
use Rattle.std.proofs.Math.Numerals.{one-add}
use Rattle.std.proofs.lemmas.Bool.{cases_Bool, and_parts, and_from}
use Rattle.std.specs.List.{list_all, prefix_len}

-- two texts that are one begin and go on alike
pub heads : {x y : ℕ} {xs ys : List ℕ} → x ∷ xs ≡ y ∷ ys → x ≡ y
heads s = cc

pub tails : {x y : ℕ} {xs ys : List ℕ} → x ∷ xs ≡ y ∷ ys → xs ≡ ys
tails s = cc

-- a text doesn't begin with a byte that passes the test
abbrev pub Ends : (ℕ → Bool) → List ℕ → Type 0
Ends test [] = Unit {0}
Ends test (b ∷ bs) = test b ≡ false

-- the longest front that passes passes
pub run_passes : (test : ℕ → Bool) (text : List ℕ) → list_all test (take (prefix_len test text) text) ≡ true
run_passes test [] = refl
run_passes test (b ∷ bs) = elim (cases_Bool (test b)) [
  | inl e ↦ rw (e, one-add) (and_from (test b) (list_all test (take (prefix_len test bs) bs)) e (run_passes test bs))
  | inr e ↦ rw e refl
]

-- and what stands behind it doesn't go on
pub run_ends : (test : ℕ → Bool) (text : List ℕ) → Ends test (drop (prefix_len test text) text)
run_ends test [] = tt
run_ends test (b ∷ bs) = elim (cases_Bool (test b)) [
  | inl e ↦ rw (e, one-add) (run_ends test bs)
  | inr e ↦ rw e e
]

-- another run at the front of the same text: it is the longest, or the next byte passes too
pub data Another (test : ℕ → Bool) (run rest other behind : List ℕ) : Type 0 where
  same : run ≡ other → rest ≡ behind → Another test run rest other behind
  shorter : (b : ℕ) (bs : List ℕ) → behind ≡ b ∷ bs → test b ≡ true → length other < length run → Another test run rest other behind

pub another : (test : ℕ → Bool) (run rest other behind : List ℕ) → list_all test run ≡ true → list_all test other ≡ true → Ends test rest →
    run ++ rest ≡ other ++ behind → Another test run rest other behind
another test [] rest [] behind p q e s = same refl s
another test [] [] (u ∷ us) behind p q e s = cc
another test [] (r ∷ rs) (u ∷ us) behind p q e s =
    let t : test u ≡ true = (and_parts (test u) (list_all test us) q).0 in
    let h : r ≡ u = cc in
    absurd (cc)
another test (x ∷ xs) rest [] behind p q e s = shorter x (xs ++ rest) (sym s) (and_parts (test x) (list_all test xs) p).0 (omega arith)
another test (x ∷ xs) rest (u ∷ us) behind p q e s =
    elim (another test xs rest us behind (and_parts (test x) (list_all test xs) p).1 (and_parts (test u) (list_all test us) q).1 e (cc)) [
      | same f g ↦ (let h : x ≡ u = cc in same (cc) g)
      | shorter b bs f t l ↦ shorter b bs f t (omega arith)
    ]

-- two runs of one text that end are the same
pub run_same : (test : ℕ → Bool) (run rest other behind : List ℕ) → list_all test run ≡ true → list_all test other ≡ true → Ends test rest →
    Ends test behind → run ++ rest ≡ other ++ behind → (run ≡ other) × (rest ≡ behind)
run_same test run rest other behind p q e f s = elim (another test run rest other behind p q e s) [
  | same g h ↦ (g, h)
  | shorter b bs g t l ↦ (let k : Ends test (b ∷ bs) = rw g at f in absurd (cc))
]

-- no run is longer than one that ends
pub run_longest : (test : ℕ → Bool) (run rest other behind : List ℕ) → list_all test run ≡ true → list_all test other ≡ true → Ends test rest →
    run ++ rest ≡ other ++ behind → length other ≤ length run
run_longest test run rest other behind p q e s = elim (another test run rest other behind p q e s) [
  | same g h ↦ omega (arith, ap length g)
  | shorter b bs g t l ↦ omega arith
]

-- the length of a run that is followed by a byte that doesn't go on
pub prefix_len_is : (test : ℕ → Bool) (run rest : List ℕ) → list_all test run ≡ true → Ends test rest → prefix_len test (run ++ rest) ≡ length run
prefix_len_is test [] [] p e = refl
prefix_len_is test [] (r ∷ rs) p e = rw e refl
prefix_len_is test (x ∷ xs) rest p e =
    let q = and_parts (test x) (list_all test xs) p in
    let h : test x ≡ true = q.0 in
    rw h (omega (arith, prefix_len_is test xs rest q.1 e))

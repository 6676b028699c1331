-- The numbers of a case are dealt out: what share each signal has.
use Rattle.std.proofs.Common.{◌≡◌, ℕ, zero, suc, ◌<◌, ◌^◌, List, [], ◌∷◌, ◌++◌, length, take, drop, replicate, get_or, Some, refl, ap, subst, arith}
use Rattle.std.specs.Prelude.{slice_get}
use Rattle.std.specs.List.{AllByRecursion}
use Rattle.std.proofs.lemmas.List.{take_at, drop_at}
use Rattle.lola_bits.proofs.Options.{some_same, nothing}
use Rattle.lola_flat.specs.Tree.{SignalTree, FlatTree}
use Rattle.lola_flat.specs.Cycle.{AreBelow}
use Rattle.lola_cases.specs.Free.{free_count}
use Rattle.lola_cases.specs.Cases.{AreWithin, elements_in, outside_in, given_from, outside_from}
use Rattle.lola_cases.proofs.Elements.{widths_from}

pub empty : (xs : List ℕ) → length xs ≡ 0 → xs ≡ []
empty [] none = refl
empty (x ∷ xs) none = absurd (omega arith)

-- the first numbers, so many of one width, and the others
pub record IsParted (c w : ℕ) (ws ns : List ℕ) : Type 0 where
  pub long : length (take c ns) ≡ c
  pub below : AllByRecursion (λ n. n < 2 ^ w) (take c ns)
  pub others : AreWithin ws (drop c ns)

pub parted : (c w : ℕ) (ws ns : List ℕ) → AreWithin (replicate c w ++ ws) ns → IsParted c w ws ns
parted zero w ws ns within = record { long = refl; below = tt; others = within }
parted (suc c) w ws [] within = absurd within
parted (suc c) w ws (n ∷ ns) within =
    let r = parted c w ws ns within.1 in
    record { long = ap suc r.long; below = (within.0, r.below); others = r.others }

pub joined : (c w : ℕ) (ws share ns : List ℕ) → length share ≡ c → AllByRecursion (λ n. n < 2 ^ w) share → AreWithin ws ns → AreWithin (replicate c w ++ ws) (share ++ ns)
joined zero w ws [] ns long below within = within
joined zero w ws (n ∷ share) ns long below within = absurd (omega arith)
joined (suc c) w ws [] ns long below within = absurd (omega arith)
joined (suc c) w ws (n ∷ share) ns long below within = (below.0, joined c w ws share ns (omega arith) below.1 within)

-- the first share of all, and what stands behind it
pub first_share : (c : ℕ) (share rest : List ℕ) → length share ≡ c → (take c (share ++ rest) ≡ share) × (drop c (share ++ rest) ≡ rest)
first_share c share rest long = (take_at share rest c long, drop_at share rest c long)

-- a signal's share of the numbers, and what it is given of that
pub record HasShare (F : FlatTree) (signals : List SignalTree) (numbers : List ℕ) (n : ℕ) (s : SignalTree) : Type 0 where
  pub share : List ℕ
  pub long : length share ≡ free_count F s
  pub below : AreBelow s share
  pub given : get_or (given_from F signals numbers) n [] ≡ elements_in s.kind share
  pub outside : get_or (outside_from F signals numbers) n 0 ≡ outside_in s.kind share

pub share_at : (F : FlatTree) (signals : List SignalTree) (numbers : List ℕ) → AreWithin (widths_from F signals) numbers → (n : ℕ) (s : SignalTree) → slice_get signals n ≡ Some s → HasShare F signals numbers n s
share_at F [] numbers within n s is = nothing s is
share_at F (t ∷ signals) numbers within zero s is =
    let r = parted (free_count F t) t.width (widths_from F signals) numbers within in
    subst (λ (u : SignalTree). HasShare F (t ∷ signals) numbers zero u) (some_same t s is)
    (record { share = take (free_count F t) numbers; long = r.long; below = r.below; given = refl; outside = refl })
share_at F (t ∷ signals) numbers within (suc n) s is =
    let r = parted (free_count F t) t.width (widths_from F signals) numbers within in
    let found = share_at F signals (drop (free_count F t) numbers) r.others n s is in
    record { share = found.share; long = found.long; below = found.below; given = found.given; outside = found.outside }

pub given_long : (F : FlatTree) (signals : List SignalTree) (numbers : List ℕ) → length (given_from F signals numbers) ≡ length signals
given_long F [] numbers = refl
given_long F (s ∷ signals) numbers = ap suc (given_long F signals (drop (free_count F s) numbers))

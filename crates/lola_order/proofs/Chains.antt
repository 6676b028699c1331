-- From signals that wait for one another to a closed chain.
use Rattle.std.proofs.Common.{◌≡◌, ℕ, zero, suc, ◌+◌, ◌<◌, ◌≤◌, Bool, true, List, [], ◌∷◌, ◌++◌, length, get_or, set, take, drop, refl, sym, subst, ◌⊎◌, inl, inr, arith}
use Rattle.std.specs.Prelude.{Some, slice_get}
use Rattle.std.specs.List.{AllByRecursion}
use Rattle.std.proofs.lemmas.Bool.{cases_eq}
use Rattle.std.proofs.lemmas.List.{append-nil, drop_more}
use Rattle.lola_order.specs.Graph.{Graph, IsChain, IsLoop}
use Rattle.lola_bits.specs.Lists.{IsIn, AreDistinct}
use Rattle.lola_order.specs.State.{IsUnmet, IsBlockedBy, IsTrail}
use Rattle.lola_bits.proofs.Lists.{distinct_turned}
use Rattle.lola_bits.proofs.All.{all_front, all_back, all_append}
use Rattle.lola_bits.proofs.Places.{get_in, around, drop_found, take_found}
use Rattle.lola_order.proofs.Searching.{unmet_before, unmet_apart, unmet_still}

-- what holds on the way: the signals seen, the last first
pub record IsWalk (g : Graph) (met unseen : List Bool) (signal : ℕ) (seen : List ℕ) : Type 0 where
  pub trail : IsTrail g signal seen
  pub distinct : AreDistinct seen
  pub unmet : IsUnmet met signal
  pub new : (j : ℕ) → IsUnmet unseen j → IsIn j seen → ⊥
  pub each : (j : ℕ) → IsUnmet met j → IsUnmet unseen j ⊎ IsIn j seen

pub walk_none : (g : Graph) (met unseen : List Bool) (signal : ℕ) → unseen ≡ met → IsUnmet met signal → IsWalk g met unseen signal []
walk_none g met unseen signal same unmet = record { trail = tt; distinct = tt; unmet = unmet; new = λ j un none. none; each = λ j un. inl (subst (λ (l : List Bool). IsUnmet l j) (sym same) un) }

pub walk_more : (g : Graph) (met unseen : List Bool) (next : List ℕ) (signal by : ℕ) (seen : List ℕ) → IsWalk g met unseen signal seen → IsUnmet unseen signal → IsBlockedBy g met next signal by →
    IsWalk g met (set unseen signal true) by (signal ∷ seen)
walk_more g met unseen next signal by seen is unmet blocked = record {
  trail = (record { uses = blocked.uses; equation = blocked.equation; among = get_in blocked.uses blocked.at by blocked.there }, is.trail);
  distinct = (is.new signal unmet, is.distinct);
  unmet = blocked.unmet;
  new = λ j un there. elim there [ inl same ↦ unmet_apart unseen signal j un same | inr early ↦ is.new j (unmet_before unseen signal j un) early ];
  each = λ j un. elim (is.each j un) [
    | inl still ↦ elim (cases_eq j signal) [ inl same ↦ inr (inl same) | inr other ↦ inl (unmet_still unseen signal j other still) ]
    | inr early ↦ inr (inr early)
  ];
}

-- chains in two parts
chain_join : (g : Graph) (x : ℕ) (xs : List ℕ) (y : ℕ) (ys : List ℕ) (z : ℕ) → IsChain g x xs y → IsChain g y ys z → IsChain g x (xs ++ y ∷ ys) z
chain_join g x [] y ys z p q = (p, q)
chain_join g x (w ∷ xs) y ys z p q = (p.0, chain_join g w xs y ys z p.1 q)

chain_split : (g : Graph) (x : ℕ) (xs : List ℕ) (y : ℕ) (ys : List ℕ) (z : ℕ) → IsChain g x (xs ++ y ∷ ys) z → IsChain g x xs y × IsChain g y ys z
chain_split g x [] y ys z p = (p.0, p.1)
chain_split g x (w ∷ xs) y ys z p = let q = chain_split g w xs y ys z p.1 in ((p.0, q.0), q.1)

-- a closed chain, from whatever signal it begins
abbrev pub IsRound : Graph → List ℕ → Type 0
IsRound g [] = ⊥
IsRound g (x ∷ xs) = IsChain g x xs x

pub turned : (g : Graph) (xs : List ℕ) (y : ℕ) (ys : List ℕ) → IsRound g (xs ++ y ∷ ys) → IsRound g ((y ∷ ys) ++ xs)
turned g [] y ys round = subst (λ (l : List ℕ). IsChain g y l y) (sym (append-nil ys)) round
turned g (x ∷ xs) y ys round = let q = chain_split g x xs y ys x round in chain_join g y ys x xs y q.1 q.0

-- the trail up to the signal that comes again is one
trail_chain : (g : Graph) (y : ℕ) (xs : List ℕ) (z : ℕ) (zs : List ℕ) → IsTrail g y (xs ++ z ∷ zs) → IsChain g y xs z
trail_chain g y [] z zs trail = trail.0
trail_chain g y (x ∷ xs) z zs trail = (trail.0, trail_chain g x xs z zs trail.1)

pub trail_round : (g : Graph) (xs : List ℕ) (z : ℕ) (zs : List ℕ) → IsTrail g z (xs ++ z ∷ zs) → IsRound g (xs ++ z ∷ [])
trail_round g [] z zs trail = trail.0
trail_round g (x ∷ xs) z zs trail = turned g (z ∷ []) x xs (trail_chain g z (x ∷ xs) z zs trail)

-- a closed chain from its earliest signal on
loop_from : (g : Graph) (xs : List ℕ) (first : ℕ) (ys : List ℕ) → IsRound g (xs ++ first ∷ ys) → AreDistinct (xs ++ first ∷ ys) → AllByRecursion (λ (n : ℕ). first ≤ n) (xs ++ first ∷ ys) → IsLoop g ((first ∷ ys) ++ xs)
loop_from g xs first ys round distinct least =
    let early = all_front (λ (n : ℕ). first ≤ n) xs (first ∷ ys) least in
    let late = all_back (λ (n : ℕ). first ≤ n) xs (first ∷ ys) least in
    record {
      first = first;
      others = ys ++ xs;
      is = refl;
      closed = turned g xs first ys round;
      distinct = distinct_turned xs (first ∷ ys) distinct;
      earliest = all_append (λ (n : ℕ). first ≤ n) (first ∷ ys) xs late early;
    }

pub a_loop : (g : Graph) (names : List ℕ) (at first : ℕ) → slice_get names at ≡ Some first → IsRound g names → AreDistinct names → AllByRecursion (λ (n : ℕ). first ≤ n) names → IsLoop g (drop at names ++ take at names)
a_loop g names at first is round distinct least =
    let e = around names at first is in
    let d : drop at names ≡ first ∷ drop (suc at) names = drop_found names at first is in
    let r = loop_from g (take at names) first (drop (suc at) names) (subst (λ (l : List ℕ). IsRound g l) e round) (subst (λ (l : List ℕ). AreDistinct l) e distinct) (subst (λ (l : List ℕ). AllByRecursion (λ (n : ℕ). first ≤ n) l) e least) in
    subst (λ (l : List ℕ). IsLoop g (l ++ take at names)) (sym d) r

-- the front of a trail up to the signal that comes again
pub cut_round : (g : Graph) (names : List ℕ) (last signal : ℕ) → slice_get names last ≡ Some signal → IsTrail g signal names → IsRound g (take (last + 1) names)
cut_round g names last signal is trail =
    let e = around names last signal is in
    let r = trail_round g (take last names) signal (drop (suc last) names) (subst (λ (l : List ℕ). IsTrail g signal l) e trail) in
    subst (λ (l : List ℕ). IsRound g l) (sym (let more : last + 1 ≡ suc last = omega arith in rw more (take_found names last signal is))) r

-- where a signal stands
pub still_behind : (xs : List ℕ) (i x : ℕ) → i < length xs → (get_or xs i 0 ≡ x → ⊥) → IsIn x (drop i xs) → IsIn x (drop (i + 1) xs)
still_behind xs i x within other is = elim (subst (λ (l : List ℕ). IsIn x l) (drop_more xs i 0 within) is) [ inl same ↦ absurd (other (sym same)) | inr later ↦ later ]

pub none_there : (xs : List ℕ) (i x : ℕ) → length xs ≤ i → IsIn x (drop i xs) → ⊥
none_there [] zero x past is = is
none_there [] (suc i) x past is = is
none_there (y ∷ xs) zero x past is = absurd (omega arith)
none_there (y ∷ xs) (suc i) x past is = none_there xs i x (omega arith) is

-- the least of all, place by place
pub all_least : (xs : List ℕ) (m : ℕ) → ((k : ℕ) → k < length xs → m ≤ get_or xs k 0) → AllByRecursion (λ (n : ℕ). m ≤ n) xs
all_least [] m each = tt
all_least (x ∷ xs) m each = (each 0 (omega arith), all_least xs m (λ k within. each (suc k) (omega arith)))

use Rattle.std.proofs.Common.{◌≡◌, ℕ, ◌+◌, ◌<◌, ◌≤◌, List, [], ◌∷◌, ◌++◌, length, get_or, take, drop, sym, ◌∙◌, ap, subst, arith, Some}
use Rattle.std.specs.Prelude.{slice_get}
use Rattle.std.specs.List.{AllByRecursion}
use Rattle.std.proofs.lemmas.Option.{slice_get-get_or}
use Rattle.lola_order.specs.Graph.{Graph, IsLoop}
use Rattle.lola_bits.specs.Lists.{IsIn, AreDistinct}
use Rattle.lola_bits.proofs.Lists.{distinct_take}
use Rattle.lola_order.specs.State.{IsTrail}
use Rattle.lola_order.proofs.Chains.{IsRound, a_loop, cut_round}
use Rattle.lola_order.proofs.chain.chain.Goals as goal

long : (g : Graph) (xs : List ℕ) → IsRound g xs → 0 < length xs
long g [] round = absurd round
long g (x ∷ xs) round = omega arith

-- a trail that is cut and turned
turned_loop : (g : Graph) (names cut : List ℕ) (signal last at : ℕ) → IsTrail g signal names → AreDistinct names → slice_get names last ≡ Some signal → cut ≡ take (last + 1) names →
    (0 < length cut → at < length cut) → ((first : ℕ) → slice_get cut at ≡ Some first → AllByRecursion (λ (n : ℕ). first ≤ n) cut) → IsLoop g (drop at cut ++ take at cut)
turned_loop g names cut signal last at trail distinct there is within least =
    let round : IsRound g cut = rw is (cut_round g names last signal there trail) in
    let below : at < length cut = within (long g cut round) in
    let first : slice_get cut at ≡ Some (get_or cut at 0) = slice_get-get_or cut at 0 below in
    a_loop g cut at (get_or cut at 0) first round (rw is (distinct_take (last + 1) names distinct)) (least (get_or cut at 0) first)

pub turned-requires : goal.turned-requires
turned-requires c = let e = c.as_slice-2.ensures.len in let f = c.as_slice-3.ensures.len in let b = c.earliest-first.ensures.at_most in omega arith

pub returns-in-Ok : goal.returns-in-Ok
returns-in-Ok c =
    let names = c.in_ok-names.names.items in
    let signal = c.in_ok-names.signal in
    let at = c.earliest-first.result in
    let cut = c.as_slice-2.result.now in
    let there : slice_get names c.place_of-last.result ≡ Some signal =
    subst (λ (l : List ℕ). slice_get l c.place_of-last.result ≡ Some signal) c.as_slice.ensures.value
    (c.place_of-last.ensures (subst (λ (l : List ℕ). IsIn signal l) (sym c.as_slice.ensures.value) c.in_ok-names.ensures.again)) in
    let is : cut ≡ take (c.place_of-last.result + 1) names = c.as_slice-2.ensures.value ∙ c.truncate.ensures.items in
    let same : cut ≡ c.as_slice-3.result.now = c.as_slice-2.ensures.value ∙ sym c.as_slice-3.ensures.value in
    let l = turned_loop c.args.graph.now names cut signal c.place_of-last.result at c.in_ok-names.ensures.trail c.in_ok-names.ensures.distinct there is c.earliest-first.ensures.within c.earliest-first.ensures.least in
    subst (λ (m : List ℕ). IsLoop c.args.graph.now m) (ap (λ (m : List ℕ). drop at m ++ take at m) same ∙ sym c.in-Ok.ensures) l

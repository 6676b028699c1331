use Rattle.std.proofs.Common.{ℕ, Bool, List, [], sym, subst}
use Rattle.lola_order.specs.Graph.{IsOrder}
use Rattle.lola_bits.specs.Lists.{IsIn}
use Rattle.lola_order.specs.State.{IsUnmet, IsBlockedBy}
use Rattle.lola_order.proofs.Searching.{begun, ordered, all_blocked}
use Rattle.lola_order.proofs.ordering.order.Goals as goal

pub settle_all-requires : goal.settle_all-requires
settle_all-requires c =
    let s = c.in_ok-search.search in
    let b = c.in_ok-search.ensures in
    begun c.args.graph.now s.met.items s.next.items s.waiting s.ready s.order.items c.as_slice.result.now b.of_met b.of_next b.of_waiting b.zero b.none_ready b.none_placed
    (λ k below. subst (λ (l : List ℕ). IsIn k l) (sym c.as_slice.ensures.value) (c.in_ok-all.ensures k below))

pub chain-requires-clause-blocked : goal.chain-requires-clause-blocked
chain-requires-clause-blocked c =
    let s = c.place_all.new.search in
    let each = all_blocked c.args.graph.now s.met.items s.next.items s.waiting s.ready s.order.items c.in_ok-place_all.ensures.state c.in_ok-place_all.ensures.none in
    let m = sym c.as_slice-in-Some.ensures.value in
    let n = sym c.as_slice-in-Some-2.ensures.value in
    λ k unmet.
    let b = each k (subst (λ (l : List Bool). IsUnmet l k) (sym m) unmet) in
    (b.0, subst (λ (l : List ℕ). IsBlockedBy c.args.graph.now c.as_slice-in-Some.result.now l k b.0) n (subst (λ (l : List Bool). IsBlockedBy c.args.graph.now l s.next.items k b.0) m b.1))

pub returns-in-None : goal.returns-in-None
returns-in-None c =
    let s = c.place_all.new.search in
    let o = ordered c.args.graph.now s.met.items s.next.items s.waiting s.ready s.order.items [] c.in_ok-place_all.ensures.state
    (λ k unmet. c.in-None.ensures k (subst (λ (l : List Bool). IsUnmet l k) (sym c.as_slice-2.ensures.value) unmet)) in
    subst (λ (l : List ℕ). IsOrder c.args.graph.now l) (sym c.of.ensures) o

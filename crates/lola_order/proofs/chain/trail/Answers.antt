use Rattle.std.proofs.Common.{◌≡◌, ℕ, Bool, true, List, [], ◌∷◌, set, reverse, sym, ◌∙◌, ap, subst}
use Rattle.std.proofs.lemmas.List.{reverse-append}
use Rattle.lola_order.specs.State.{IsUnmet}
use Rattle.lola_order.proofs.Searching.{fewer}
use Rattle.lola_order.proofs.Chains.{IsWalk, walk_more}
use Rattle.lola_order.proofs.chain.trail.Goals as goal

pub loop-unseen-smaller : goal.loop-unseen-smaller
loop-unseen-smaller c =
    fewer c.loop-unseen.unseen.items c.loop-unseen.signal (subst (λ (l : List Bool). IsUnmet l c.loop-unseen.signal) c.as_slice.ensures.value (c.is_unmet.ensures.0 c.loop-unseen-test.true))

pub loop-unseen-preserved : goal.loop-unseen-preserved
loop-unseen-preserved c =
    let k = c.loop-unseen.signal in
    let un = c.loop-unseen.unseen.items in
    let here : IsUnmet un k = subst (λ (l : List Bool). IsUnmet l k) c.as_slice.ensures.value (c.is_unmet.ensures.0 c.loop-unseen-test.true) in
    let b = c.requires.blocked k c.loop-unseen.invariant.unmet in
    let more = walk_more c.args.graph.now c.args.met.now un c.args.next.now k b.0 (reverse c.loop-unseen.seen.items) c.loop-unseen.invariant here b.1 in
    let e : k ∷ reverse c.loop-unseen.seen.items ≡ reverse c.push.new.self.items = sym (ap reverse c.in-Ok.ensures.items ∙ reverse-append c.loop-unseen.seen.items (k ∷ [])) in
    subst (λ (l : List ℕ). IsWalk c.args.graph.now c.args.met.now (set un k true) c.blocker-signal.result l) e
    (subst (λ (n : ℕ). IsWalk c.args.graph.now c.args.met.now (set un k true) n (k ∷ reverse c.loop-unseen.seen.items)) (sym (c.blocker-signal.ensures c.args.met.now b.0 b.1)) more)

use Rattle.std.proofs.Common.{◌≡◌, ℕ, Bool, List, ◌∷◌, length, take, refl, sym, ◌∙◌, ap, subst, arith, Some}
use Rattle.std.specs.Prelude.{slice_get}
use Rattle.std.proofs.lemmas.Option.{slice_get_read}
use Rattle.lola_order.specs.Graph.{Uses, Graph}
use Rattle.lola_bits.specs.Lists.{IsIn}
use Rattle.lola_order.specs.State.{IsUnmet, IsSearch}
use Rattle.lola_order.specs.declared.search.Search.{Search}
use Rattle.lola_order.proofs.Searching.{settled, within_waiting, within_graph, not_given}
use Rattle.lola_order.proofs.search.settle.Goals as goal
use Rattle.lola_order.proofs.search.settle.Goals.{After-items-in-Some}

-- what is known before the look
record Seen (g : Graph) (s : Search) (k at : ℕ) (uses : List ℕ) : Type 0 where
  unmet : IsUnmet s.met.items k
  equation : (more : List ℕ) → IsSearch g s (k ∷ more) → Uses g k uses
  start : ℕ
  began : (more : List ℕ) → IsSearch g s (k ∷ more) → slice_get s.next.items k ≡ Some start
  passed : (j : ℕ) → IsIn j (take at uses) → IsUnmet s.met.items j → IsIn j (take start uses)
  found : (j : ℕ) → slice_get uses at ≡ Some j → IsUnmet s.met.items j

seen : (c : After-items-in-Some) → Seen c.args.graph.now c.args.search.now c.args.signal c.blocked_from-at.result c.items-in-Some.result.now
seen c =
    let s = c.args.search.now in
    let g = c.args.graph.now in
    let k = c.args.signal in
    let at = c.blocked_from-at.result in
    let unmet : IsUnmet s.met.items k = subst (λ (xs : List Bool). IsUnmet xs k) c.as_slice.ensures.value (c.is_unmet.ensures.0 c.if-not-is_unmet.false) in
    let same : c.items.result.now ≡ c.items-in-Some.result.now = c.items.ensures ∙ sym c.items-in-Some.ensures in
    let met : c.as_slice-in-Some.result.now ≡ s.met.items = c.as_slice-in-Some.ensures.value in
    record {
      unmet = unmet;
      equation = λ more is.
          let within = within_graph g s.met.items s.next.items s.waiting s.ready s.order.items (k ∷ more) is k unmet in
          slice_get_read g (length g) k c.index-graph-signal.result refl within c.index-graph-signal.is ∙ ap Some (c.in-Some.is ∙ ap Some (sym c.items-in-Some.ensures));
      start = c.index.result.now;
      began = λ more is.
          let within = within_graph g s.met.items s.next.items s.waiting s.ready s.order.items (k ∷ more) is k unmet in
          slice_get_read s.next.items (length s.next.items) k c.index.result.now refl (let e = is.long.of_next in omega arith) c.index.ensures;
      passed = λ j among un.
          subst (λ (l : List ℕ). IsIn j (take c.index.result.now l)) same
          (c.blocked_from-at.ensures.passed j (subst (λ (l : List ℕ). IsIn j (take at l)) (sym same) among) (subst (λ (m : List Bool). IsUnmet m j) (sym met) un));
      found = λ j there. subst (λ (m : List Bool). IsUnmet m j) met (c.blocked_from-at.ensures.found j (subst (λ (l : List ℕ). slice_get l at ≡ Some j) (sym same) there));
    }

pub look-requires-clause-waiting : goal.look-requires-clause-waiting
look-requires-clause-waiting c =
    let s = c.args.search.now in
    let k = seen (goal.at.look-requires-clause-waiting c).After-items-in-Some in
    let is = c.requires.1 in
    within_waiting c.args.graph.now s.met.items s.next.items s.waiting s.ready s.order.items c.args.signal c.requires.0 is c.items-in-Some.result.now
    (k.equation c.requires.0 is) k.unmet k.start c.blocked_from-at.result (k.began c.requires.0 is) k.passed k.found

pub returns-in-Ok-clause-state : goal.returns-in-Ok-clause-state
returns-in-Ok-clause-state c = λ more is.
    let s = c.args.search.now in
    let n = c.look.new.search in
    let k = seen (goal.at.returns-in-Ok-clause-state c).After-items-in-Some in
    settled c.args.graph.now s.met.items s.next.items s.waiting s.ready s.order.items c.args.signal more is c.items-in-Some.result.now
    (k.equation more is) k.unmet k.start c.blocked_from-at.result (k.began more is) k.passed k.found
    n.met.items n.next.items n.waiting n.ready n.order.items c.in-Ok.ensures.met c.in-Ok.ensures.next c.in-Ok.ensures.order c.in-Ok.ensures.waits c.in-Ok.ensures.ready

pub returns-in-None-clause-state : goal.returns-in-None-clause-state
returns-in-None-clause-state c = λ more is.
    let s = c.args.search.now in
    let unmet : IsUnmet s.met.items c.args.signal = subst (λ (xs : List Bool). IsUnmet xs c.args.signal) c.as_slice.ensures.value (c.is_unmet.ensures.0 c.if-not-is_unmet.false) in
    let within = within_graph c.args.graph.now s.met.items s.next.items s.waiting s.ready s.order.items (c.args.signal ∷ more) is c.args.signal unmet in
    absurd (not_given c.args.graph.now s.met.items s.next.items s.waiting s.ready s.order.items (c.args.signal ∷ more) is c.args.signal unmet
    (slice_get_read c.args.graph.now (length c.args.graph.now) c.args.signal c.index-graph-signal.result refl within c.index-graph-signal.is ∙ ap Some c.in-None.is))

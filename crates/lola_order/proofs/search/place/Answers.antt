use Rattle.std.proofs.Common.{ℕ, ◌<◌, Bool, true, false, List, length, set, sym, subst, arith}
use Rattle.std.proofs.lemmas.Option.{slice_get_within}
use Rattle.lola_bits.specs.Lists.{IsIn}
use Rattle.lola_order.specs.State.{IsState, unmet_count}
use Rattle.lola_order.proofs.Searching.{idle, placed_least, fewer}
use Rattle.lola_order.proofs.search.place.Goals as goal

pub returns-in_default-clause-state : goal.returns-in_default-clause-state
returns-in_default-clause-state c =
    let s = c.args.search.now in
    idle c.args.graph.now s.met.items s.next.items s.waiting s.ready c.take.new.self s.order.items c.requires c.in_default.ensures.least c.take.ensures.only

pub returns-in_default-clause-none : goal.returns-in_default-clause-none
returns-in_default-clause-none c = λ k has. c.in_default.ensures.least k (c.take.ensures.only k has)

pub index_mut-requires : goal.index_mut-requires
index_mut-requires c =
    let b : c.in-Some.signal < length c.args.search.now.met.items = slice_get_within c.args.search.now.met.items c.in-Some.signal false (c.requires.ready.unmet c.in-Some.signal c.in-Some.ensures.there) in
    omega arith

pub take-woken-requires : goal.take-woken-requires
take-woken-requires c =
    let b : c.in-Some.signal < length c.args.search.now.met.items = slice_get_within c.args.search.now.met.items c.in-Some.signal false (c.requires.ready.unmet c.in-Some.signal c.in-Some.ensures.there) in
    let e = c.requires.long.of_met in
    let f = c.requires.long.of_waiting in
    omega arith

pub settle_all-requires : goal.settle_all-requires
settle_all-requires c =
    let s = c.args.search.now in
    let k = c.in-Some.signal in
    let p = placed_least c.args.graph.now s.met.items s.next.items s.waiting s.ready c.take.new.self s.order.items k c.requires c.in-Some.ensures.there c.in-Some.ensures.least c.in-Some.ensures.kept c.take.ensures.only c.in-Some.ensures.gone
    c.take-woken.new.self c.items.result.now c.take-woken.ensures.long (λ m waits. subst (λ (l : List ℕ). IsIn m l) (sym c.items.ensures) (c.take-woken.ensures.taken m waits)) c.take-woken.ensures.kept in
    subst (λ (l : List ℕ). IsState c.args.graph.now (set s.met.items k true) s.next.items c.take-woken.new.self c.take.new.self l c.items.result.now) (sym c.in-Ok.ensures.items) p

pub returns-in-Ok-settle_all-clause-fewer : goal.returns-in-Ok-settle_all-clause-fewer
returns-in-Ok-settle_all-clause-fewer c =
    let less : unmet_count (set c.args.search.now.met.items c.in-Some.signal true) < unmet_count c.args.search.now.met.items = fewer c.args.search.now.met.items c.in-Some.signal (c.requires.ready.unmet c.in-Some.signal c.in-Some.ensures.there) in
    subst (λ (l : List Bool). unmet_count l < unmet_count c.args.search.now.met.items) (sym c.settle_all.ensures.met) less

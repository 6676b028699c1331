use Rattle.std.proofs.Common.{◌≡◌, ◌∙◌, sym, ap, map, drop, ◌+◌, ◌∷◌, arith, if◌then◌else◌, [], get_or, false, List, Bool}
use Rattle.std.proofs.lemmas.List.{drop_all}
use Rattle.lola_bits.proofs.Places.{drop_item}
use Rattle.lola_tree.specs.Tree.{actual_tree, ActualTree}
use Rattle.lola_tree.specs.design.Calls.{bare_name}
use Rattle.lola_tree.specs.design.Clocks.{passed_clocks}
use Rattle.lola_unfold.specs.Tables.{Among, clocks_found, clocks_with}
use Rattle.lola_unfold.proofs.Tables.{clocks_append, passed_more, passed_none}
use Rattle.lola_unfold.proofs.clocks.add_passed.Goals as goal

-- one argument more
step : (old new all : Among) (rest later : List Bool) (is_clock : Bool) (a : ActualTree) (args : List ActualTree) → is_clock ≡ get_or rest 0 false →
    new ≡ clocks_with old (if is_clock then bare_name a.value ∷ [] else []) → later ≡ drop 1 rest → clocks_with old (passed_clocks rest (a ∷ args)) ≡ all → clocks_with new (passed_clocks later args) ≡ all
step old new all rest later is_clock a args first is behind before =
    ap (λ (c : Among). clocks_with c (passed_clocks later args)) is
    ∙ ap (λ (b : Bool). clocks_with (clocks_with old (if b then bare_name a.value ∷ [] else [])) (passed_clocks later args)) first
    ∙ ap (λ (l : List Bool). clocks_with (clocks_with old (if get_or rest 0 false then bare_name a.value ∷ [] else [])) (passed_clocks l args)) behind
    ∙ sym (clocks_append old (if get_or rest 0 false then bare_name a.value ∷ [] else []) (passed_clocks (drop 1 rest) args))
    ∙ sym (ap (clocks_with old) (passed_more rest a args)) ∙ before

pub loop-arg-preserved : goal.loop-arg-preserved
loop-arg-preserved c =
    let args = c.args.args.now in
    let cut = drop_item args c.loop-arg.arg-index c.arg-item.result (omega arith) c.arg-item.is in
    step (clocks_found c.loop-arg.clocks) (clocks_found c.add_where.new.clocks) (clocks_with (clocks_found c.args.clocks.now) (passed_clocks c.args.ports.now (map actual_tree args)))
    c.loop-arg.rest.now c.later_ports-rest.result.now c.first_is_clock.result (actual_tree c.arg-item.result) (map actual_tree (drop (c.loop-arg.arg-index + 1) args))
    c.first_is_clock.ensures c.in_ok-add_where.ensures c.later_ports-rest.ensures
    (sym (ap (λ l. clocks_with (clocks_found c.loop-arg.clocks) (passed_clocks c.loop-arg.rest.now (map actual_tree l))) cut) ∙ c.loop-arg.invariant)

pub returns : goal.returns
returns c =
    sym (ap (λ l. clocks_with (clocks_found c.loop-arg.clocks) (passed_clocks c.loop-arg.rest.now (map actual_tree l))) (drop_all c.loop-arg.arg-index c.args.args.now (omega arith))
    ∙ ap (clocks_with (clocks_found c.loop-arg.clocks)) (passed_none c.loop-arg.rest.now))
    ∙ c.loop-arg.invariant

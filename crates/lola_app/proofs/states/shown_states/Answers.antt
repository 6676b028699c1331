use Rattle.std.proofs.Common.{map, arith}
use Rattle.std.proofs.lemmas.Result.{IfOk-weaker}
use Rattle.std.proofs.lemmas.List.{length-map}
use Rattle.lola_bits.specs.Lists.{AreEach}
use Rattle.small_tree.specs.Table.{state_tree}
use Rattle.lola_app.specs.Shown.{IsShown}
use Rattle.lola_app.specs.Small.{AreSmallStates}
use Rattle.lola_app.specs.Vectors.{interface_in}
use Rattle.lola_app.proofs.ShownStates.{shown_small}
use Rattle.lola_app.proofs.states.shown_states.Goals as goal

pub returns-clause-small : goal.returns-clause-small
returns-clause-small c = IfOk-weaker c.each_shown.result
    (λ all. AreEach (IsShown (interface_in c.args.face.now)) (map state_tree c.args.rows.now) all.items)
    (λ all. AreSmallStates (interface_in c.args.face.now).registers (map state_tree c.args.rows.now))
    (λ all each. record {
      few = let e = length-map c.args.rows.now state_tree in omega arith;
      distinct = c.in_ok-are_distinct_states.ensures.0 c.if-not-branch.false;
      each = shown_small (interface_in c.args.face.now) (map state_tree c.args.rows.now) all.items each;
    })
    c.each_shown.ensures.ok

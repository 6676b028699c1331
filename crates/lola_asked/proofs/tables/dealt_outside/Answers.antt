use Rattle.std.proofs.Common.{◌+◌, [], drop, map, ap}
use Rattle.std.proofs.Math.ListN.{drop_of_length-le}
use Rattle.lola_flat.specs.Tree.{flat_tree, signal_tree}
use Rattle.lola_asked.specs.Tables.{dealt_outside}
use Rattle.lola_asked.proofs.Dealing.{outside_more, outside_done}
use Rattle.lola_asked.proofs.tables.dealt_outside.Goals as goal

pub loop-at-preserved : goal.loop-at-preserved
loop-at-preserved c =
    let F = flat_tree c.args.flat.now in
    let l = c.loop-at in
    outside_more F c.items-signals.result.now l.at c.index-signals-at.result l.rest.now c.cut.result.0.now c.cut.result.1.now l.made.items c.push.new.self.items (dealt_outside [] F F.signals c.args.vectors.now) c.in_ok-outside_part.field-0
    c.free_count.result c.loop-at-test.true c.index-signals-at.is c.free_count.ensures c.cut.ensures.front c.cut.ensures.back c.in_ok-outside_part.ensures c.in_ok-push.ensures.items l.invariant

pub returns : goal.returns
returns c =
    let F = flat_tree c.args.flat.now in
    let l = c.loop-at in
    outside_done F (map signal_tree (drop l.at c.items-signals.result.now)) l.rest.now l.made.items (dealt_outside [] F F.signals c.args.vectors.now) (ap (map signal_tree) (drop_of_length-le c.items-signals.result.now c.loop-at-test.false)) l.invariant

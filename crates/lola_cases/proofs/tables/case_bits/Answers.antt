use Rattle.std.proofs.Common.{ℕ, ◌+◌, ◌≤◌, length, map, take, drop, sym, ◌∙◌, ap, subst}
use Rattle.std.proofs.Math.ListN.{drop_of_length-le}
use Rattle.lola_flat.specs.Tree.{flat_tree, signal_tree}
use Rattle.lola_cases.proofs.TableSteps.{begun, turn, share_fits, share_below, table_more, tables_done}
use Rattle.lola_cases.proofs.tables.case_bits.Goals as goal

pub loop-at-init : goal.loop-at-init
loop-at-init c =
    begun (flat_tree c.args.flat.now) c.args.numbers.now (map signal_tree c.items-signals.result.now) c.new-given.result.items c.new-outside.result.items (ap (map signal_tree) c.items-signals.ensures) c.new-given.ensures.items
    c.new-outside.ensures.items c.requires.case

pub split_at-requires : goal.split_at-requires
split_at-requires c =
    let F = flat_tree c.args.flat.now in
    let s = c.index-signals-at.result in
    let signals = c.items-signals.result.now in
    let l = c.loop-at in
    subst (λ (n : ℕ). n ≤ length l.rest.now) (sym c.free_count.ensures)
    (share_fits F c.args.numbers.now (signal_tree s) (map signal_tree (drop (l.at + 1) signals)) l.rest.now l.given.items l.outside.items
    (turn F c.args.numbers.now signals l.at s l.rest.now l.given.items l.outside.items c.loop-at-test.true c.index-signals-at.is l.invariant))

pub given_row-requires : goal.given_row-requires
given_row-requires c =
    let F = flat_tree c.args.flat.now in
    let s = c.index-signals-at.result in
    let signals = c.items-signals.result.now in
    let l = c.loop-at in
    share_below F c.args.numbers.now (signal_tree s) (map signal_tree (drop (l.at + 1) signals)) l.rest.now c.split_at.result.0.now l.given.items l.outside.items
    (turn F c.args.numbers.now signals l.at s l.rest.now l.given.items l.outside.items c.loop-at-test.true c.index-signals-at.is l.invariant)
    (c.split_at.ensures.front ∙ ap (λ (n : ℕ). take n l.rest.now) c.free_count.ensures)

pub outside_row-requires : goal.outside_row-requires
outside_row-requires c =
    let F = flat_tree c.args.flat.now in
    let s = c.index-signals-at.result in
    let signals = c.items-signals.result.now in
    let l = c.loop-at in
    share_below F c.args.numbers.now (signal_tree s) (map signal_tree (drop (l.at + 1) signals)) l.rest.now c.split_at.result.0.now l.given.items l.outside.items
    (turn F c.args.numbers.now signals l.at s l.rest.now l.given.items l.outside.items c.loop-at-test.true c.index-signals-at.is l.invariant)
    (c.split_at.ensures.front ∙ ap (λ (n : ℕ). take n l.rest.now) c.free_count.ensures)

pub loop-at-preserved : goal.loop-at-preserved
loop-at-preserved c =
    let F = flat_tree c.args.flat.now in
    let s = c.index-signals-at.result in
    let signals = c.items-signals.result.now in
    let l = c.loop-at in
    table_more F c.args.numbers.now (signal_tree s) (map signal_tree (drop (l.at + 1) signals)) l.rest.now c.split_at.result.0.now c.split_at.result.1.now l.given.items c.push.new.self.items l.outside.items
    c.push-in-loop-at.new.self.items c.in_ok-given_row.field-0 c.in_ok-outside_row.field-0
    (turn F c.args.numbers.now signals l.at s l.rest.now l.given.items l.outside.items c.loop-at-test.true c.index-signals-at.is l.invariant)
    (c.split_at.ensures.front ∙ ap (λ (n : ℕ). take n l.rest.now) c.free_count.ensures) (c.split_at.ensures.back ∙ ap (λ (n : ℕ). drop n l.rest.now) c.free_count.ensures)
    c.in_ok-given_row.ensures c.in_ok-outside_row.ensures c.in_ok-push.ensures.items c.in_ok-push-2.ensures.items

pub returns : goal.returns
returns c =
    let l = c.loop-at in
    tables_done (flat_tree c.args.flat.now) c.args.numbers.now (map signal_tree (drop l.at c.items-signals.result.now)) l.rest.now (record { given = l.given; outside = l.outside })
    (ap (map signal_tree) (drop_of_length-le c.items-signals.result.now c.loop-at-test.false)) l.invariant

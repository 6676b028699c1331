use Rattle.std.proofs.Common.{rules, ℕ, ◌+◌, ◌*◌, ◌<◌, ◌≤◌, List, arith}
use Rattle.lola_flat.specs.Tree.{flat_tree}
use Rattle.lola_flat.specs.Value.{env}
use Rattle.lola_checks.specs.Tree.{check_tree}
use Rattle.lola_asked.proofs.Firsts.{block_passes, block_fails, none_first}
use Rattle.lola_asked.proofs.least.first_violated.Goals as goal

pub loop-block-preserved : goal.loop-block-preserved
loop-block-preserved c =
    let t = c.args.tables.now in
    block_passes (flat_tree c.args.flat.now) (env t.given.items t.outside.items) t.further.items (check_tree c.args.check.now) c.loop-block.block c.in_ok-word.word c.in_ok-word.ensures c.loop-block.invariant (search rules)

pub returns-then-case-cases : goal.returns-then-case-cases
returns-then-case-cases c =
    let t = c.args.tables.now in
    let b = block_fails (flat_tree c.args.flat.now) (env t.given.items t.outside.items) t.further.items (check_tree c.args.check.now) c.loop-block.block c.in_ok-word.word c.from.result c.in_ok-word.ensures c.loop-block.invariant c.if-word-ne0.true (search rules) in
    (search rules, (b.0, b.1))

pub returns-else-case-cases : goal.returns-else-case-cases
returns-else-case-cases c = λ e below.
    let t = c.args.tables.now in
    let b = block_fails (flat_tree c.args.flat.now) (env t.given.items t.outside.items) t.further.items (check_tree c.args.check.now) c.loop-block.block c.in_ok-word.word c.from.result c.in_ok-word.ensures c.loop-block.invariant c.if-word-ne0.true (search rules) in
    b.1 e (search rules)

pub returns : goal.returns
returns c =
    let t = c.args.tables.now in
    none_first (flat_tree c.args.flat.now) (env t.given.items t.outside.items) t.further.items (check_tree c.args.check.now) c.loop-block.block c.args.cases (let e = c.blocks-block-end.ensures.enough in let h = c.loop-block-test.false in omega (arith, e, h)) c.loop-block.invariant

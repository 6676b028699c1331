use Rattle.std.proofs.Common.{ℕ, ◌≤◌, ◌<◌, ◌-◌, ◌^◌, subst, arith}
use Rattle.lola_tree.specs.Tree.{source_tree}
use Rattle.lola_tree.specs.design.Signals.{height, size}
use Rattle.lola_unfold.proofs.Answering.{answers_are, within_capped}
use Rattle.lola_unfold.proofs.unfolding.elaborate.Goals as goal

pub returns : goal.returns
returns c =
    let S = source_tree c.args.source.now in
    let tall : height S ≤ 64 = within_capped 64 (height S) (let e : 64 < 2 ^ 32 - 1 = omega arith in e) (subst (λ (n : ℕ). n ≤ 64) c.in-Ok.ensures.height c.if-extent-gt64.false) in
    let few : size S ≤ 65536 = within_capped 65536 (size S) (let e : 65536 < 2 ^ 32 - 1 = omega arith in e) (subst (λ (n : ℕ). n ≤ 65536) c.in-Ok.ensures.size c.if-extent-gt65536.false) in
    answers_are S c.in-Ok-unordered.flat tall few (c.in-Ok-unordered.ensures.flat c.requires) (λ numbers regular loop. c.flat_uses.ensures.names S numbers regular loop) c.in-Ok-order_of.found c.answered.result
    c.in-Ok-order_of.ensures c.answered.ensures

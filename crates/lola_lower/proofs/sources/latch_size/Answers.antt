use Rattle.std.proofs.Common.{◌≡◌, ◌<◌, ◌*◌, ◌^◌, Bool, sym, subst, ap, ◌∙◌, rules}
use Rattle.std.specs.Prelude.{cond}
use Rattle.lola_flat.specs.Tree.{flat_tree, signal_tree}
use Rattle.lola_lower.proofs.Given.{latch_long}
use Rattle.lola_lower.proofs.sources.latch_size.Goals as goal

pub overflow_mul-result : goal.overflow_mul-result
overflow_mul-result c =
    let small : c.args.signal.now.count * c.args.signal.now.width < 2 ^ 32 =
    subst (λ n. n < 2 ^ 32) (latch_long (signal_tree c.args.signal.now) ∙ ap (λ (t : Bool). cond t (c.args.signal.now.count * c.args.signal.now.width) 0) (sym c.has_latch.ensures ∙ c.if-has_latch.true)) c.requires in
    search (rules, small)

pub returns-then-has_latch : goal.returns-then-has_latch
returns-then-has_latch c =
    sym (latch_long (signal_tree c.args.signal.now) ∙ ap (λ (t : Bool). cond t (c.args.signal.now.count * c.args.signal.now.width) 0) (sym c.has_latch.ensures ∙ c.if-has_latch.true))

pub returns-else-has_latch : goal.returns-else-has_latch
returns-else-has_latch c =
    sym (latch_long (signal_tree c.args.signal.now) ∙ ap (λ (t : Bool). cond t (c.args.signal.now.count * c.args.signal.now.width) 0) (sym c.has_latch.ensures ∙ c.if-has_latch.false))

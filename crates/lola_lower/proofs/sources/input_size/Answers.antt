use Rattle.std.proofs.Common.{◌≡◌, ◌<◌, ◌*◌, ◌^◌, Bool, sym, subst, ap, ◌∙◌, rules}
use Rattle.std.specs.Prelude.{cond}
use Rattle.lola_flat.specs.Tree.{flat_tree, signal_tree}
use Rattle.lola_lower.proofs.Given.{input_long}
use Rattle.lola_lower.proofs.sources.input_size.Goals as goal

pub overflow_mul-result : goal.overflow_mul-result
overflow_mul-result c =
    let small : c.args.signal.now.count * c.args.signal.now.width < 2 ^ 32 =
    subst (λ n. n < 2 ^ 32) (input_long (flat_tree c.args.flat.now) (signal_tree c.args.signal.now) ∙ ap (λ (t : Bool). cond t (c.args.signal.now.count * c.args.signal.now.width) 0) (sym c.has_input.ensures ∙ c.if-has_input.true)) c.requires in
    search (rules, small)

pub returns-then-has_input : goal.returns-then-has_input
returns-then-has_input c =
    sym (input_long (flat_tree c.args.flat.now) (signal_tree c.args.signal.now) ∙ ap (λ (t : Bool). cond t (c.args.signal.now.count * c.args.signal.now.width) 0) (sym c.has_input.ensures ∙ c.if-has_input.true))

pub returns-else-has_input : goal.returns-else-has_input
returns-else-has_input c =
    sym (input_long (flat_tree c.args.flat.now) (signal_tree c.args.signal.now) ∙ ap (λ (t : Bool). cond t (c.args.signal.now.count * c.args.signal.now.width) 0) (sym c.has_input.ensures ∙ c.if-has_input.false))

use Rattle.std.proofs.Common.{◌≤◌, ◌≡◌, ◌+◌, ◌*◌, ◌^◌, ℕ, sym, subst, ap, ◌∙◌, Bool}
use Rattle.std.specs.Prelude.{cond}
use Rattle.lola_flat.specs.Tree.{flat_tree, signal_tree}
use Rattle.lola_lower.proofs.Given.{input_long, latch_long}
use Rattle.lola_lower.proofs.sources.given_row.Goals as goal

pub elements_at-requires : goal.elements_at-requires
elements_at-requires c = record {
  few = subst (λ n. c.args.input + n ≤ 2 ^ 31) (input_long (flat_tree c.args.flat.now) (signal_tree c.args.signal.now) ∙ ap (λ (t : Bool). cond t (c.args.signal.now.count * c.args.signal.now.width) 0) (sym c.has_input.ensures ∙ c.if-has_input.true)) c.requires.inputs;
}

pub elements_at-requires-then-has_latch : goal.elements_at-requires-then-has_latch
elements_at-requires-then-has_latch c = record {
  few = subst (λ n. c.args.latch + n ≤ 2 ^ 31) (latch_long (signal_tree c.args.signal.now) ∙ ap (λ (t : Bool). cond t (c.args.signal.now.count * c.args.signal.now.width) 0) (sym c.has_latch.ensures ∙ c.if-has_latch.true)) c.requires.latches;
}

use Rattle.std.proofs.Common.{ap, ◌∙◌}
use Rattle.lola_app.specs.Obligations.{total}
use Rattle.lola_app.specs.Trial.{passes, tried_widths}
use Rattle.lola_app.specs.Valuations.{numbers_of}
use Rattle.lola_app.proofs.Orders.{tried_within, found, none_found}
use Rattle.lola_app.proofs.decide.first_failing.Goals as goal

pub holds_at-requires-clause-within : goal.holds_at-requires-clause-within
holds_at-requires-clause-within c =
    tried_within (tried_widths c.args.subject.now c.args.which) c.in_ok-widths.widths.items c.total-count.result c.loop-number.number c.as_slice-in-loop-number-2.result.now
    c.in_ok-widths.ensures (c.total-count.ensures ∙ ap total c.as_slice.ensures.value) c.requires.few c.loop-number-test.true
    (c.as_slice-in-loop-number-2.ensures.value ∙ c.in_ok-numbers.ensures ∙ ap (λ ws. numbers_of ws c.loop-number.number) c.as_slice-in-loop-number.ensures.value)

pub returns-then-not-branch : goal.returns-then-not-branch
returns-then-not-branch c =
    found (passes c.args.subject.now c.args.which) (tried_widths c.args.subject.now c.args.which) c.in_ok-widths.widths.items c.total-count.result c.loop-number.number c.in_ok-numbers.numbers.items c.in_ok-holds_at.field-0
    c.in_ok-widths.ensures (c.total-count.ensures ∙ ap total c.as_slice.ensures.value) c.requires.few c.loop-number-test.true c.loop-number.invariant
    (c.in_ok-numbers.ensures ∙ ap (λ ws. numbers_of ws c.loop-number.number) c.as_slice-in-loop-number.ensures.value)
    (c.in_ok-holds_at.ensures ∙ ap (passes c.args.subject.now c.args.which) c.as_slice-in-loop-number-2.ensures.value) c.if-not-branch.true

pub returns : goal.returns
returns c =
    none_found (passes c.args.subject.now c.args.which) (tried_widths c.args.subject.now c.args.which) c.in_ok-widths.widths.items c.total-count.result c.loop-number.number
    c.in_ok-widths.ensures (c.total-count.ensures ∙ ap total c.as_slice.ensures.value) c.requires.few c.loop-number-test.false c.loop-number.invariant

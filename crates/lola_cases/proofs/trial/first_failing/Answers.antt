use Rattle.std.proofs.Common.{◌∙◌, ℕ, List, subst}
use Rattle.std.specs.Bool.{Decides}
use Rattle.lola_cases.specs.Cases.{AreWithin}
use Rattle.lola_cases.proofs.Orders.{tried_within, found, none_found}
use Rattle.lola_cases.proofs.trial.first_failing.Goals as goal

pub test-requires-clause-within : goal.test-requires-clause-within
test-requires-clause-within g c =
    subst (λ (ws : List ℕ). AreWithin ws c.as_slice.result.now) c.requires.widths
    (tried_within c.args.widths.now c.total-count.result c.loop-number.number c.as_slice.result.now c.total-count.ensures c.requires.few c.loop-number-test.true (c.as_slice.ensures.value ∙ c.in_ok-numbers.ensures))

pub returns-then-not-branch : goal.returns-then-not-branch
returns-then-not-branch g c =
    found (g.T.Trial.holds c.args.trial.now) c.args.widths.now c.total-count.result c.loop-number.number c.in_ok-numbers.numbers.items c.in_ok-test.field-0 c.total-count.ensures c.requires.few c.loop-number-test.true
    c.loop-number.invariant c.in_ok-numbers.ensures (subst (λ (ns : List ℕ). Decides c.in_ok-test.field-0 (g.T.Trial.holds c.args.trial.now ns)) c.as_slice.ensures.value c.in_ok-test.ensures) c.if-not-branch.true

pub returns : goal.returns
returns g c = none_found (g.T.Trial.holds c.args.trial.now) c.args.widths.now c.total-count.result c.loop-number.number c.total-count.ensures c.requires.few c.loop-number-test.false c.loop-number.invariant

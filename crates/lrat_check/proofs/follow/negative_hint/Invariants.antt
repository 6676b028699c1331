use Rattle.std.proofs.Common.{◌≡◌, drop}
use Rattle.lrat_check.specs.Good.{negative_hint}
use Rattle.lrat_check.proofs.follow.negative_hint.Given as goal

abbrev pub invariant-loop-hint : goal.invariant-loop-hint
invariant-loop-hint l = negative_hint (drop l.hint-index l.hints) ≡ negative_hint l.hints

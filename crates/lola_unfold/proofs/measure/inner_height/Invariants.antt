use Rattle.std.proofs.Common.{◌≡◌, max, drop}
use Rattle.lola_tree.specs.design.Signals.{locals_height}
use Rattle.lola_unfold.specs.Measured.{outline_of, outline_height}
use Rattle.lola_unfold.proofs.measure.inner_height.Given as goal

abbrev pub invariant-loop-local : goal.invariant-loop-local
invariant-loop-local l =
    max l.height (locals_height (λ name. outline_height (outline_of l.known name)) (drop l.local-index l.locals))
    ≡ locals_height (λ name. outline_height (outline_of l.known name)) l.locals

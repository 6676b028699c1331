use Rattle.std.proofs.Common.{◌≡◌, ℕ, ◌<◌, true}
use Rattle.lola_app.specs.Trial.{passes, tried_widths}
use Rattle.lola_app.specs.Valuations.{numbers_of}
use Rattle.lola_app.proofs.decide.first_failing.Given as goal

abbrev pub invariant-loop-number : goal.invariant-loop-number
invariant-loop-number l = (c : ℕ) → c < l.number → passes l.subject l.which (numbers_of (tried_widths l.subject l.which) c) ≡ true

use Rattle.std.proofs.Common.{◌≡◌, ◌/◌, ◌^◌}
use Rattle.lola_app.proofs.values.digit_at.Given as goal

-- what is left of the number above the digits so far
abbrev pub invariant-loop-below : goal.invariant-loop-below
invariant-loop-below l = l.rest ≡ l.value / 16 ^ l._below

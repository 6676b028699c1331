use Rattle.std.proofs.Common.{◌≡◌, ◌++◌}
use Rattle.lola_app.specs.Values.{hex_digits}
use Rattle.lola_app.proofs.values.push_digits.Given as goal

-- the digits so far, and those behind
abbrev pub invariant-loop-left : goal.invariant-loop-left
invariant-loop-left l = l.text.items ++ hex_digits l.left l.value ≡ l.fn.text.items ++ hex_digits l.count l.value

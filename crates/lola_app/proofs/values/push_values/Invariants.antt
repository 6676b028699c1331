use Rattle.std.proofs.Common.{◌≡◌, ◌++◌, map, drop}
use Rattle.lola_app.specs.Values.{line_of, value_lines}
use Rattle.lola_app.proofs.values.push_values.Given as goal

-- the lines so far, and those behind
abbrev pub invariant-loop-named : goal.invariant-loop-named
invariant-loop-named l = l.text.items ++ value_lines (map line_of (drop l.named-index l.numbers)) ≡ l.fn.text.items ++ value_lines (map line_of l.numbers)

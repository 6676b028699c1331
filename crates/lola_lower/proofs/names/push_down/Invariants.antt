use Rattle.std.proofs.Common.{◌≡◌, ◌++◌, ◌-◌}
use Rattle.lola_lower.specs.Names.{names_down}
use Rattle.lola_lower.proofs.names.push_down.Given as goal

-- the names so far, and those that are left
abbrev pub invariant-loop-place : goal.invariant-loop-place
invariant-loop-place l = l.names.items ++ names_down l.text (l.width - l.place) ≡ l.fn.names.items ++ names_down l.text l.width

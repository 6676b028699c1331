use Rattle.std.proofs.Common.{◌≡◌, ◌++◌, drop}
use Rattle.lola_lower.specs.Steps.{literals_down}
use Rattle.lola_lower.proofs.net.push_literals.Given as goal

-- the literals so far, and those of the elements that are left
abbrev pub invariant-loop-bits : goal.invariant-loop-bits
invariant-loop-bits l = l.literals.items ++ literals_down (drop l.bits-index l.elements) ≡ l.fn.literals.items ++ literals_down l.elements

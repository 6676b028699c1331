use Rattle.std.proofs.Common.{◌≡◌, ◌++◌, drop, flat_map}
use Rattle.lola_lower.specs.Steps.{literals_down}
use Rattle.lola_lower.proofs.net.next_literals.Given as goal

-- the literals so far, and those of the registers that are left
abbrev pub invariant-loop-elements : goal.invariant-loop-elements
invariant-loop-elements l = l.literals.items ++ flat_map literals_down (drop l.elements-index l.next) ≡ flat_map literals_down l.next

use Rattle.std.proofs.Common.{◌≡◌, ◌++◌, drop}
use Rattle.lola_flat.specs.Tree.{signal_tree}
use Rattle.lola_lower.specs.Steps.{outputs_from}
use Rattle.lola_lower.proofs.net.push_elements.Given as goal

-- the outputs so far, and those of the elements that are left
abbrev pub invariant-loop-element : goal.invariant-loop-element
invariant-loop-element l = l.outputs.items ++ outputs_from (signal_tree l.signal) l.element (drop l.element l.elements) ≡ l.fn.outputs.items ++ outputs_from (signal_tree l.signal) 0 l.elements

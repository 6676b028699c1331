use Rattle.std.proofs.Common.{◌≡◌, ◌++◌, map}
use Rattle.lola_flat.specs.Numbers.{first_numbers}
use Rattle.lola_cases.specs.Free.{element_of}
use Rattle.lola_cases.proofs.free.push_elements.Given as goal

abbrev pub invariant-loop-element : goal.invariant-loop-element
invariant-loop-element l = l.free.items ≡ l.fn.free.items ++ map (element_of l.signal l.width) (first_numbers l.element)

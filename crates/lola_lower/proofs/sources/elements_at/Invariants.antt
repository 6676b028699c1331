use Rattle.std.proofs.Common.{◌≡◌, ◌++◌, ◌+◌, ◌-◌, ◌*◌}
use Rattle.lola_lower.specs.Sources.{elements_at}
use Rattle.lola_lower.proofs.sources.elements_at.Given as goal

-- the elements so far, and those that are left
abbrev pub invariant-loop-element : goal.invariant-loop-element
invariant-loop-element l = record {
  made : l.elements.items ++ elements_at l.next l.width (l.count - l.element) ≡ elements_at l.first l.width l.count;
  at : l.next + (l.count - l.element) * l.width ≡ l.first + l.count * l.width;
}

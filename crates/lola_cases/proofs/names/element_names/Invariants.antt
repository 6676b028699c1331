use Rattle.std.proofs.Common.{◌≡◌, ◌++◌, drop, map, string_bytes}
use Rattle.lola_flat.specs.Tree.{flat_tree}
use Rattle.lola_cases.specs.Free.{name_of}
use Rattle.lola_cases.proofs.names.element_names.Given as goal

-- the names so far, and those of the elements that are left
abbrev pub invariant-loop-element : goal.invariant-loop-element
invariant-loop-element l = map string_bytes l.names.items ++ map (name_of (flat_tree l.flat)) (drop l.element-index l.elements) ≡ map (name_of (flat_tree l.flat)) l.elements

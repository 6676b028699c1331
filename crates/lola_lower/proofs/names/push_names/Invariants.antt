use Rattle.std.proofs.Common.{◌≡◌, ◌++◌, ℕ, flat_map}
use Rattle.lola_flat.specs.Numbers.{first_numbers}
use Rattle.lola_flat.specs.Tree.{signal_tree}
use Rattle.lola_lower.specs.Names.{stem, names_down}
use Rattle.lola_lower.proofs.names.push_names.Given as goal

-- the names of the elements so far
abbrev pub invariant-loop-element : goal.invariant-loop-element
invariant-loop-element l = l.names.items ≡ l.fn.names.items ++ flat_map (λ (element : ℕ). names_down (stem (signal_tree l.signal) element) l.signal.width) (first_numbers l.element)

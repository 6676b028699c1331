use Rattle.std.proofs.Common.{◌≡◌, ◌++◌, ℕ, List, drop, map}
use Rattle.lola_net.specs.declared.node.Node.TheVariants.{Free, Latch}
use Rattle.lola_lower.proofs.sources.add_frees.Given as goal

-- the nodes so far, and those of the names that are left
abbrev pub invariant-loop-name : goal.invariant-loop-name
invariant-loop-name l = l.gates ++ map (λ (name : List ℕ). Free name) (drop l.name-index l.names) ≡ l.fn.gates ++ map (λ (name : List ℕ). Free name) l.names

-- What a call answers that puts a node at the end.
use Rattle.std.specs.Prelude.{◌≡◌, ℕ, suc, ◌*◌, List, [], ◌∷◌, ◌++◌, length, Result, Ok, Err}
use Rattle.lola_alg.specs.declared.algebra.AlgError.{AlgError}
use Rattle.lola_alg.specs.declared.algebra.AlgError.TheVariants.{Full, Memory}
use Rattle.lola_net.specs.declared.node.Node.{Node}

-- the node was put at the end, and its literal is the answer; nothing changes for want of memory, and nothing else comes
abbrev pub Added : Node → List Node → List Node → Result ℕ AlgError → Type 0
Added x before now (Ok l) = (now ≡ before ++ x ∷ []) × (l ≡ 2 * suc (length before))
Added x before now (Err Full) = ⊥
Added x before now (Err Memory) = now ≡ before

use Rattle.std.proofs.Common.{◌≡◌, ℕ, List, ◌++◌, drop, map, string_bytes, codes}
use Rattle.lola_elab.specs.Elaborated.{vector_names}
use Rattle.lola_app.proofs.trial.add_names.Given as goal

-- the names so far, and those behind
abbrev pub invariant-loop-vector : goal.invariant-loop-vector
invariant-loop-vector l =
    map string_bytes l.names.items ++ map (λ (name : List ℕ). codes "@" ++ name) (vector_names (drop l.vector-index l.more))
    ≡ map string_bytes l.fn.names.items ++ map (λ (name : List ℕ). codes "@" ++ name) (vector_names l.more)

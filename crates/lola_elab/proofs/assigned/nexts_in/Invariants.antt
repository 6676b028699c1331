use Rattle.std.proofs.Common.{List, map, drop, ◌++◌}
use Rattle.std.specs.String.{string_bytes}
use Rattle.lola_tree.specs.Tree.{stmt_tree}
use Rattle.std.specs.BTreeMap.{get_by_text}
use Rattle.lola_elab.specs.declared.flat.Flat.{Flat}
use Rattle.lola_elab.specs.declared.vector.Vector.{Vector}
use Rattle.lola_elab.specs.Assigned.{AreNexts}
use Rattle.lola_elab.proofs.assigned.nexts_in.Given as goal

-- the values so far, whatever comes behind
abbrev pub invariant-loop-register : goal.invariant-loop-register
invariant-loop-register l = (more : List Flat) → AreNexts (get_by_text l.names) (map stmt_tree l.body) (map (λ (v : Vector). string_bytes v.name) (drop l.register-index l.registers)) more →
    AreNexts (get_by_text l.names) (map stmt_tree l.body) (map (λ (v : Vector). string_bytes v.name) l.registers) (l.nexts.items ++ more)

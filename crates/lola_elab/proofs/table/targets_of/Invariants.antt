use Rattle.std.proofs.Common.{◌≡◌, ℕ, List, map, drop, None}
use Rattle.std.specs.BTreeMap.{get_by_text}
use Rattle.lola_elab.specs.Declares.{sized, wide_of, outputs}
use Rattle.lola_elab.specs.Tables.{updated}
use Rattle.lola_elab.proofs.table.targets_of.Given as goal

-- the widths so far, and those behind
abbrev pub invariant-loop-port : goal.invariant-loop-port
invariant-loop-port l = (q : List ℕ) → updated (outputs (wide_of (get_by_text l.names)) (drop l.port-index l.ports)) q (get_by_text l.targets q) ≡ updated (outputs (wide_of (get_by_text l.names)) l.ports) q None

abbrev pub invariant-loop-register : goal.invariant-loop-register
invariant-loop-register l = (q : List ℕ) → updated (map sized (drop l.register-index l.registers)) q (get_by_text l.targets q) ≡
    updated (map sized l.registers) q (updated (outputs (wide_of (get_by_text l.names)) l.ports) q None)

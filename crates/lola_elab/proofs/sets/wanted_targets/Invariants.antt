use Rattle.std.proofs.Common.{◌≡◌, ℕ, List, ◌||◌, drop}
use Rattle.std.specs.BTreeSet.{contains_text}
use Rattle.lola_bits.specs.Names.{is_among}
use Rattle.lola_elab.specs.Declares.{local_names}
use Rattle.lola_elab.specs.Assigned.{target_names}
use Rattle.lola_elab.proofs.sets.wanted_targets.Given as goal

-- the names so far, and those behind
abbrev pub invariant-loop-port : goal.invariant-loop-port
invariant-loop-port l = (q : List ℕ) → (contains_text l.wanted q || is_among (target_names (drop l.port-index l.ports) l.locals) q) ≡ is_among (target_names l.ports l.locals) q

abbrev pub invariant-loop-local : goal.invariant-loop-local
invariant-loop-local l = (q : List ℕ) → (contains_text l.wanted q || is_among (local_names (drop l.local-index l.locals)) q) ≡ is_among (target_names l.ports l.locals) q

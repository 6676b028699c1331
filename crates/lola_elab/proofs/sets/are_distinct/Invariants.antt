use Rattle.std.proofs.Common.{◌↔◌, ◌++◌, drop}
use Rattle.std.specs.BTreeSet.{contains_text}
use Rattle.lola_bits.specs.Lists.{AreDistinct}
use Rattle.lola_elab.specs.Declares.{port_names, const_names, local_names}
use Rattle.lola_elab.proofs.NewNames.{AreNew}
use Rattle.lola_elab.proofs.sets.are_distinct.Given as goal

-- the names behind are new ones
abbrev pub invariant-loop-port : goal.invariant-loop-port
invariant-loop-port l = AreNew (contains_text l.names) (port_names (drop l.port-index l.ports) ++ (const_names l.consts ++ local_names l.locals)) ↔ AreDistinct (port_names l.ports ++ (const_names l.consts ++ local_names l.locals))

abbrev pub invariant-loop-constant : goal.invariant-loop-constant
invariant-loop-constant l = AreNew (contains_text l.names) (const_names (drop l.constant-index l.consts) ++ local_names l.locals) ↔ AreDistinct (port_names l.ports ++ (const_names l.consts ++ local_names l.locals))

abbrev pub invariant-loop-local : goal.invariant-loop-local
invariant-loop-local l = AreNew (contains_text l.names) (local_names (drop l.local-index l.locals)) ↔ AreDistinct (port_names l.ports ++ (const_names l.consts ++ local_names l.locals))

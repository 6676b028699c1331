use Rattle.std.proofs.Common.{◌≡◌, ◌++◌, map, drop}
use Rattle.std.specs.BTreeMap.{get_by_text}
use Rattle.lola_elab.specs.Declares.{names_in, wide_of, sized, inputs_under}
use Rattle.lola_elab.proofs.ports.inputs_of.Given as goal

-- the inputs so far, and those behind
abbrev pub invariant-loop-port : goal.invariant-loop-port
invariant-loop-port l = map sized l.inputs.items ++ inputs_under (wide_of (get_by_text l.names)) (names_in l.clock) (drop l.port-index l.ports) ≡ inputs_under (wide_of (get_by_text l.names)) (names_in l.clock) l.ports

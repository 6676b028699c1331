use Rattle.std.proofs.Common.{◌↔◌, drop}
use Rattle.std.specs.BTreeMap.{get_by_text}
use Rattle.lola_elab.specs.Declares.{wide_of, IsInward}
use Rattle.lola_elab.proofs.ports.has_inward.Given as goal

-- no port so far is the one
abbrev pub invariant-loop-port : goal.invariant-loop-port
invariant-loop-port l = IsInward (wide_of (get_by_text l.names)) (drop l.port-index l.ports) l.name ↔ IsInward (wide_of (get_by_text l.names)) l.ports l.name

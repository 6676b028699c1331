use Rattle.std.proofs.Common.{◌↔◌, drop}
use Rattle.std.specs.List.{AllByRecursion}
use Rattle.std.specs.BTreeMap.{get_by_text}
use Rattle.lola_elab.specs.Declares.{wide_of}
use Rattle.lola_elab.specs.Small.{IsSmallPort}
use Rattle.lola_elab.proofs.ports.are_small_ports.Given as goal

-- the ports so far are small
abbrev pub invariant-loop-port : goal.invariant-loop-port
invariant-loop-port l = AllByRecursion (IsSmallPort (wide_of (get_by_text l.names))) (drop l.port-index l.ports) ↔ AllByRecursion (IsSmallPort (wide_of (get_by_text l.names))) l.ports

use Rattle.std.proofs.Common.{◌≡◌, ◌++◌, map, drop}
use Rattle.std.specs.BTreeMap.{get_by_text}
use Rattle.lola_elab.specs.Declares.{wide_of, sized, sized_local}
use Rattle.lola_elab.proofs.ports.registers_of.Given as goal

-- the names so far, and those behind
abbrev pub invariant-loop-local : goal.invariant-loop-local
invariant-loop-local l = map sized l.registers.items ++ map (sized_local (wide_of (get_by_text l.names))) (drop l.local-index l.locals) ≡ map (sized_local (wide_of (get_by_text l.names))) l.locals

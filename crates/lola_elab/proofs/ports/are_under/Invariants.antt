use Rattle.std.proofs.Common.{◌↔◌, drop}
use Rattle.std.specs.List.{AllByRecursion}
use Rattle.std.specs.BTreeMap.{get_by_text}
use Rattle.lola_elab.specs.Declares.{names_in, wide_of, IsUnder}
use Rattle.lola_elab.proofs.ports.are_under.Given as goal

-- the locals so far are registers under the clock
abbrev pub invariant-loop-local : goal.invariant-loop-local
invariant-loop-local l = AllByRecursion (IsUnder (wide_of (get_by_text l.names)) (names_in l.clock)) (drop l.local-index l.locals) ↔ AllByRecursion (IsUnder (wide_of (get_by_text l.names)) (names_in l.clock)) l.locals

use Rattle.std.proofs.Common.{◌≡◌, ◌++◌, replicate}
use Rattle.tab_mach.proofs.phase.push_times.Given as goal

abbrev pub invariant-loop-time : goal.invariant-loop-time
invariant-loop-time l = l.accesses.items ≡ l.fn.accesses.items ++ replicate l._time l.access

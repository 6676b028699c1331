use Rattle.std.proofs.Common.{◌≡◌, drop, map}
use Rattle.lola_tree.specs.Tree.{stmt_tree}
use Rattle.lola_unfold.specs.Tables.{calls_in, calls_with_all, no_calls}
use Rattle.lola_unfold.proofs.calls.calls_of.Given as goal

abbrev pub invariant-loop-stmt : goal.invariant-loop-stmt
invariant-loop-stmt l = calls_with_all (calls_in l.calls) (map stmt_tree (drop l.stmt-index l.«module».body)) ≡ calls_with_all no_calls (map stmt_tree l.«module».body)

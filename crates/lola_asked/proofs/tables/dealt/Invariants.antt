use Rattle.std.proofs.Common.{◌≡◌, ◌++◌, drop, map}
use Rattle.lola_flat.specs.Tree.{flat_tree, signal_tree}
use Rattle.lola_asked.specs.Tables.{dealt}
use Rattle.lola_asked.proofs.tables.dealt.Given as goal

abbrev pub invariant-loop-at : goal.invariant-loop-at
invariant-loop-at l = l.made.items ++ dealt (flat_tree l.flat) (map signal_tree (drop l.at l.signals)) l.rest ≡ dealt (flat_tree l.flat) (flat_tree l.flat).signals l.vectors

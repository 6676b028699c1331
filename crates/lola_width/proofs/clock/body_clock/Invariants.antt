use Rattle.std.proofs.Common.{◌≡◌, drop, map}
use Rattle.lola_tree.specs.Tree.{stmt_tree}
use Rattle.lola_width.specs.Interface.{body_clock}
use Rattle.lola_width.specs.Table.{found, seen_in}
use Rattle.lola_width.proofs.clock.body_clock.Given as goal

abbrev pub invariant-loop-stmt : goal.invariant-loop-stmt
invariant-loop-stmt l = body_clock (found l.table) (seen_in l.modules) (map stmt_tree (drop l.stmt-index l.body)) ≡ body_clock (found l.table) (seen_in l.modules) (map stmt_tree l.body)

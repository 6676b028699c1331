use Rattle.std.proofs.Common.{◌≡◌, drop, map}
use Rattle.lola_tree.specs.Tree.{stmt_tree}
use Rattle.lola_width.specs.AssignmentFaults.{body_targets, taken_with_all, twice}
use Rattle.lola_width.specs.Order.{first_after}
use Rattle.lola_width.specs.Table.{found, seen_in, taken_in}
use Rattle.lola_width.proofs.targets.take_body.Given as goal

abbrev pub invariant-loop-stmt : goal.invariant-loop-stmt
invariant-loop-stmt l = record {
  taken : taken_with_all (taken_in l.targets) (body_targets (found l.table) (seen_in l.modules) (map stmt_tree (drop l.stmt-index l.body)))
      ≡ taken_with_all (taken_in l.fn.targets) (body_targets (found l.table) (seen_in l.modules) (map stmt_tree l.body));
  first : first_after l.first (twice (taken_in l.targets) (body_targets (found l.table) (seen_in l.modules) (map stmt_tree (drop l.stmt-index l.body))))
      ≡ first_after l.fn.first (twice (taken_in l.fn.targets) (body_targets (found l.table) (seen_in l.modules) (map stmt_tree l.body)));
}

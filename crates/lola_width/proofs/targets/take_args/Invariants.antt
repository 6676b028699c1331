use Rattle.std.proofs.Common.{◌≡◌, drop, map}
use Rattle.lola_tree.specs.Tree.{actual_tree}
use Rattle.lola_width.specs.AssignmentFaults.{args_targets, taken_with_all, twice}
use Rattle.lola_width.specs.Order.{first_after}
use Rattle.lola_width.specs.Table.{taken_in}
use Rattle.lola_width.proofs.targets.take_args.Given as goal

abbrev pub invariant-loop-arg : goal.invariant-loop-arg
invariant-loop-arg l = record {
  taken : taken_with_all (taken_in l.targets) (args_targets (map actual_tree (drop l.arg-index l.args)) l.rest)
      ≡ taken_with_all (taken_in l.fn.targets) (args_targets (map actual_tree l.args) l.pins);
  first : first_after l.first (twice (taken_in l.targets) (args_targets (map actual_tree (drop l.arg-index l.args)) l.rest))
      ≡ first_after l.fn.first (twice (taken_in l.fn.targets) (args_targets (map actual_tree l.args) l.pins));
}

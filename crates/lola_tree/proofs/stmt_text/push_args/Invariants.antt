use Rattle.std.proofs.Common.{◌≡◌, ◌++◌, drop, map, codes}
use Rattle.lola_tree.specs.Tree.{actual_tree}
use Rattle.lola_tree.specs.Print.{args_text}
use Rattle.lola_tree.proofs.stmt_text.push_args.Given as goal

abbrev pub invariant-loop-arg : goal.invariant-loop-arg
invariant-loop-arg l = l.out.items ++ args_text l.before (map actual_tree (drop l.arg-index l.args)) ≡ l.fn.out.items ++ args_text (codes "( ") (map actual_tree l.args)

use Rattle.std.proofs.Common.{◌≡◌, ◌++◌, drop, map, codes}
use Rattle.lola_tree.specs.Tree.{stmt_tree}
use Rattle.lola_tree.specs.Print.{body_text}
use Rattle.lola_tree.proofs.stmt_text.push_body.Given as goal

abbrev pub invariant-loop-stmt : goal.invariant-loop-stmt
invariant-loop-stmt l = l.out.items ++ body_text l.before (map stmt_tree (drop l.stmt-index l.body)) ≡ l.fn.out.items ++ body_text (codes "BEGIN\n") (map stmt_tree l.body)

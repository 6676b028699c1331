use Rattle.std.proofs.Common.{◌≡◌, ◌++◌, drop}
use Rattle.lola_tree.specs.Tree.{parts_tree}
use Rattle.lola_tree.specs.Print.{parts_text}
use Rattle.lola_tree.proofs.expr_text.+print.Given as goal

abbrev pub invariant-push_parts-loop-part : goal.invariant-push_parts-loop-part
invariant-push_parts-loop-part l = l.out.items ++ parts_text l.before (parts_tree (drop l.part-index l.parts)) ≡ l.fn.out.items ++ parts_text l.fn.first (parts_tree l.parts)

use Rattle.std.proofs.Common.{◌≡◌, ◌++◌, drop, codes}
use Rattle.lola_tree.specs.Print.{consts_text}
use Rattle.lola_tree.proofs.module_text.push_consts.Given as goal

abbrev pub invariant-loop-constant : goal.invariant-loop-constant
invariant-loop-constant l = l.out.items ++ consts_text l.before (drop l.constant-index l.consts) ≡ l.fn.out.items ++ consts_text (codes "CONST ") l.consts

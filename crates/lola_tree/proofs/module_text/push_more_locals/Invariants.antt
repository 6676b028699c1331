use Rattle.std.proofs.Common.{◌≡◌, ◌++◌, drop}
use Rattle.lola_tree.specs.Print.{more_locals}
use Rattle.lola_tree.proofs.module_text.push_more_locals.Given as goal

abbrev pub invariant-loop-local : goal.invariant-loop-local
invariant-loop-local l = l.out.items ++ more_locals l.before (drop l.local-index l.locals) ≡ l.fn.out.items ++ more_locals l.fn.kind l.locals

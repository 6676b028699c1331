use Rattle.std.proofs.Common.{◌≡◌, ◌++◌, drop}
use Rattle.lola_tree.specs.Print.{path_text}
use Rattle.lola_tree.proofs.token_text.push_path.Given as goal

abbrev pub invariant-loop-name : goal.invariant-loop-name
invariant-loop-name l = l.out.items ++ path_text l.before (drop l.name-index l.path) ≡ l.fn.out.items ++ path_text l.fn.first l.path

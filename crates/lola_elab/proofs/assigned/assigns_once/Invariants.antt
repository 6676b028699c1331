use Rattle.std.proofs.Common.{◌↔◌, map, drop}
use Rattle.std.specs.BTreeSet.{contains_text}
use Rattle.lola_bits.specs.Names.{is_among}
use Rattle.lola_tree.specs.Tree.{stmt_tree}
use Rattle.lola_elab.specs.Assigned.{target_names, AssignsOnce}
use Rattle.lola_elab.proofs.assigned.assigns_once.Given as goal

-- what is left is assigned once by the statements behind
abbrev pub invariant-loop-stmt : goal.invariant-loop-stmt
invariant-loop-stmt l = AssignsOnce (contains_text l.left) (map stmt_tree (drop l.stmt-index l.body)) ↔ AssignsOnce (is_among (target_names l.ports l.locals)) (map stmt_tree l.body)

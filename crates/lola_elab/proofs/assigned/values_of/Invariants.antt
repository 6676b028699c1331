use Rattle.std.proofs.Common.{◌≡◌, ℕ, List, map, drop, Some, ◌⊎◌}
use Rattle.std.specs.Option.{IsSome}
use Rattle.std.specs.BTreeMap.{get_by_text}
use Rattle.lola_bits.specs.Lists.{IsIn}
use Rattle.lola_tree.specs.Tree.{Tree, StmtTree, stmt_tree}
use Rattle.lola_elab.specs.Assigned.{Assigns, IsValueOf, trees_of}
use Rattle.lola_elab.proofs.assigned.values_of.Given as goal

-- what is entered so far, and the statements that are left
abbrev pub invariant-loop-stmt : goal.invariant-loop-stmt
invariant-loop-stmt l = record {
  assigned : (name : List ℕ) (e : Tree) → trees_of (get_by_text l.values) name ≡ Some e → IsValueOf (map stmt_tree l.body) name e;
  each : (t : StmtTree) (name : List ℕ) (e : Tree) → IsIn t (map stmt_tree l.body) → Assigns t name e →
      IsIn t (map stmt_tree (drop l.stmt-index l.body)) ⊎ IsSome (trees_of (get_by_text l.values) name);
}

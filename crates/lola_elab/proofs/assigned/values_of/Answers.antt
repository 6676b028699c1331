use Rattle.std.proofs.Common.{◌≡◌, ℕ, ◌≤◌, List, length, map, drop, Option, Some, sym, subst, ◌⊎◌, inl, inr}
use Rattle.std.specs.Option.{IsSome}
use Rattle.std.specs.BTreeMap.{get_by_text}
use Rattle.std.proofs.lemmas.List.{drop_all}
use Rattle.lola_bits.specs.Lists.{IsIn}
use Rattle.lola_tree.specs.declared.module.Stmt.{Stmt}
use Rattle.lola_tree.specs.Tree.{Tree, tree, StmtTree, stmt_tree}
use Rattle.lola_elab.specs.Assigned.{Assigns, IsValueOf, AreValuesOf, trees_of}
use Rattle.lola_elab.proofs.Statements.{stmt_in, tree_entered, value_entered, each_entered, none_entered}
use Rattle.lola_elab.proofs.assigned.values_of.Goals as goal
use Rattle.lola_elab.proofs.assigned.values_of.Goals.{in-Some+in_ok-enter-in-Some, in-None}

pub loop-stmt-preserved : goal.loop-stmt-preserved
loop-stmt-preserved c = elim c.match-assigned.branch [
  | in-Some+in_ok-enter-in-Some w ↦
      let old = trees_of (get_by_text c.loop-stmt.values) in
      let new = trees_of (get_by_text w.enter.new.names) in
      let assigns : Assigns (stmt_tree c.stmt-item.result) w.text.result.now (tree w.in-Some.value.now) =
      subst (λ (n : List ℕ). Assigns (stmt_tree c.stmt-item.result) n (tree w.in-Some.value.now)) (sym w.text.ensures) w.in-Some.ensures in
      let entered = tree_entered (get_by_text c.loop-stmt.values) (get_by_text w.enter.new.names) w.text.result.now w.in-Some.value w.in_ok-enter-in-Some.ensures in
      rw w.values-is (record {
        assigned = value_entered (map stmt_tree c.args.body.now) old new (stmt_tree c.stmt-item.result) w.text.result.now (tree w.in-Some.value.now)
            (stmt_in c.args.body.now c.loop-stmt.stmt-index c.stmt-item.result c.loop-stmt-test.true c.stmt-item.is) assigns entered c.loop-stmt.invariant.assigned;
        each = λ t name e among of.
            each_entered c.args.body.now c.loop-stmt.stmt-index c.stmt-item.result old new w.text.result.now (tree w.in-Some.value.now) c.loop-stmt-test.true c.stmt-item.is assigns entered
            t name e of (c.loop-stmt.invariant.each t name e among of);
      })
  | in-None w ↦ rw w.values-is (record {
    assigned = c.loop-stmt.invariant.assigned;
    each = λ t name e among of.
        none_entered c.args.body.now c.loop-stmt.stmt-index c.stmt-item.result c.loop-stmt-test.true c.stmt-item.is w.in-None.ensures t name e of (c.loop-stmt.invariant.each t name e among of);
  })
]

at_end : (body : List Stmt) (i : ℕ) (values : List ℕ → Option Tree) → length body ≤ i → ((name : List ℕ) (e : Tree) → values name ≡ Some e → IsValueOf (map stmt_tree body) name e) →
    ((t : StmtTree) (name : List ℕ) (e : Tree) → IsIn t (map stmt_tree body) → Assigns t name e → IsIn t (map stmt_tree (drop i body)) ⊎ IsSome (values name)) → AreValuesOf (map stmt_tree body) values
at_end body i values end assigned each = record {
  assigned = assigned;
  each = λ name e is. elim (each is.statement name e is.there is.assigns) [
    | inl behind ↦ absurd (subst (λ (l : List Stmt). IsIn is.statement (map stmt_tree l)) (drop_all i body end) behind)
    | inr there ↦ there
  ];
}

pub returns : goal.returns
returns c = at_end c.args.body.now c.loop-stmt.stmt-index _ c.loop-stmt-test.false c.loop-stmt.invariant.assigned c.loop-stmt.invariant.each

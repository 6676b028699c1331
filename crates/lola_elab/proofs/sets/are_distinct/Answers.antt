use Rattle.std.proofs.Common.{◌++◌, List, refl, sym, ◌∙◌}
use Rattle.std.proofs.lemmas.Bool.{not-true}
use Rattle.lola_tree.specs.declared.module.Port.{Port}
use Rattle.lola_tree.specs.declared.module.Const.{Const}
use Rattle.lola_tree.specs.declared.module.Local.{Local}
use Rattle.lola_elab.specs.Declares.{port_names, const_names, local_names}
use Rattle.lola_elab.proofs.NewNames.{new_at}
use Rattle.lola_elab.proofs.sets.are_distinct.Goals as goal

pub loop-port-preserved : goal.loop-port-preserved
loop-port-preserved c =
    new_at (λ (p : Port). p.name) (λ (ps : List Port). port_names ps ++ (const_names c.args.consts.now ++ local_names c.args.locals.now)) (λ _ _. refl) _ _ c.port-item.result c.text.result.now _ _
    c.loop-port-test.true c.port-item.is c.text.ensures (not-true _ (sym c.in_ok-add.ensures.fresh ∙ c.if-not-branch.false)) c.in_ok-add.ensures.added c.loop-port.invariant

pub loop-constant-preserved : goal.loop-constant-preserved
loop-constant-preserved c =
    new_at (λ (k : Const). k.name) (λ (ks : List Const). const_names ks ++ local_names c.args.locals.now) (λ _ _. refl) _ _ c.constant-item.result c.text-in-loop-constant.result.now _ _
    c.loop-constant-test.true c.constant-item.is c.text-in-loop-constant.ensures (not-true _ (sym c.in_ok-add-2.ensures.fresh ∙ c.if-not-branch-2.false)) c.in_ok-add-2.ensures.added c.loop-constant.invariant

pub loop-local-preserved : goal.loop-local-preserved
loop-local-preserved c =
    new_at (λ (l : Local). l.name) local_names (λ _ _. refl) _ _ c.local-item.result c.text-in-loop-local.result.now _ _
    c.loop-local-test.true c.local-item.is c.text-in-loop-local.ensures (not-true _ (sym c.in_ok-add-3.ensures.fresh ∙ c.if-not-branch-3.false)) c.in_ok-add-3.ensures.added c.loop-local.invariant

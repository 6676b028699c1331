use Rattle.std.proofs.Common.{◌≡◌, None, Some, Option, Err, sym, ◌∙◌, ap}
use Rattle.std.specs.Option.{is_some, option_map}
use Rattle.std.specs.Borrow.{Bor}
use Rattle.std.specs.BTreeMap.{get_by_text}
use Rattle.std.proofs.lemmas.Bool.{false≢true}
use Rattle.lola_tree.specs.declared.expr.Expr.{Expr}
use Rattle.lola_tree.specs.Tree.{tree}
use Rattle.lola_elab.specs.declared.fault.ElabError.{ElabError}
use Rattle.lola_elab.specs.declared.fault.ElabError.TheVariants.{NotBuilt}
use Rattle.lola_elab.specs.Assigned.{trees_of}
use Rattle.lola_elab.proofs.Statements.{value_is_next, value_of_sized, no_value}
use Rattle.lola_elab.proofs.assigned.next_of.Goals as goal

-- the tree of what is found
tree_is : (o p : Option (Bor Expr)) → p ≡ o → option_map (λ (e : Bor Expr). tree e.now) o ≡ option_map (λ (e : Bor Expr). tree e.now) p
tree_is o p is = ap (option_map (λ (e : Bor Expr). tree e.now)) (sym is)

pub returns-in-Ok-clause-ok : goal.returns-in-Ok-clause-ok
returns-in-Ok-clause-ok c = λ ts are.
    value_is_next (get_by_text c.args.names.now) ts c.args.name.now (tree c.in-Some.value.now) c.in-Ok.typed.flat c.in-Ok.typed.width c.in-Ok.ensures.ok
    (are.assigned c.args.name.now (tree c.in-Some.value.now) (tree_is (get_by_text c.args.values.now c.args.name.now) (Some c.in-Some.value) (c.in-Some.ensures ∙ c.get.ensures.value)))

pub returns-in-Err-clause-none : goal.returns-in-Err-clause-none
returns-in-Err-clause-none c = λ was ts are targets scope widths names sized among.
    let fault : c.in-Err.fault ≡ NotBuilt = cc in
    no_value (get_by_text c.args.names.now) targets ts c.args.name.now (tree c.in-Some.value.now)
    (are.assigned c.args.name.now (tree c.in-Some.value.now) (tree_is (get_by_text c.args.values.now c.args.name.now) (Some c.in-Some.value) (c.in-Some.ensures ∙ c.get.ensures.value)))
    (c.in-Err.ensures.none (ap (λ (e : ElabError). Err e) fault)) scope widths names sized

pub returns-in-None-clause-none : goal.returns-in-None-clause-none
returns-in-None-clause-none c = λ was ts are targets scope widths names sized among.
    let none : trees_of (get_by_text c.args.values.now) c.args.name.now ≡ None = tree_is (get_by_text c.args.values.now c.args.name.now) None (c.in-None.ensures ∙ c.get.ensures.value) in
    let value = value_of_sized (get_by_text c.args.names.now) targets scope ts c.args.name.now sized among in
    false≢true (ap is_some (sym none) ∙ are.each c.args.name.now value.0 value.1)

use Rattle.std.proofs.Common.{◌≡◌, ◌⊎◌, ℕ, List, [], drop, map, sym, ap, ◌∙◌, inl, inr, arith}
use Rattle.lola_tree.specs.declared.module.Port.{Port}
use Rattle.lola_tree.specs.Tree.{actual_tree}
use Rattle.lola_flat.specs.Tree.{ExprTree}
use Rattle.lola_unfold.specs.Pieces.{made_tree, grow, args_piece}
use Rattle.lola_unfold.specs.Parts.{view_in}
use Rattle.lola_unfold.proofs.Growing.{ended, arg_none, grow_none}
use Rattle.lola_unfold.proofs.fill.fill_args.Goals as goal

pub returns : goal.returns
returns c =
    let w = view_in c.args.part.now c.args.site.now in
    let v = view_in c.args.outer.now c.args.outer_site.now in
    let ports = c.items-ports.result.now in
    let args = c.args.args.now in
    let n = c.loop-at.at in
    let made = made_tree c.loop-at.made in
    let none : (drop n ports ≡ []) ⊎ (map actual_tree (drop n args) ≡ []) =
    elim (ended n ports args (let e = c.loop-at-test.false in let f = c.min-at-end.ensures in omega arith)) [ inl e ↦ inl e | inr e ↦ inr (ap (map actual_tree) e) ] in
    sym (ap (λ (l : List (ℕ × ExprTree)). grow made (record { heads = []; equations = l; nexts = [] })) (arg_none w v (drop n ports) (map actual_tree (drop n args)) none) ∙ grow_none made)
    ∙ c.loop-at.invariant
    ∙ ap (λ (ps : List Port). grow (made_tree c.args.made.now) (args_piece w v ps (map actual_tree args))) c.items-ports.ensures

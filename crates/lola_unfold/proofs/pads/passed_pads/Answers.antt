use Rattle.std.proofs.Common.{◌≡◌, ◌⊎◌, [], drop, map, sym, ap, ◌∙◌, inl, inr, arith}
use Rattle.lola_tree.specs.Tree.{actual_tree}
use Rattle.lola_unfold.specs.Tables.{pads_found, pads_with_all, pad_number}
use Rattle.lola_unfold.proofs.Growing.{ended}
use Rattle.lola_unfold.proofs.Entering.{passed_none}
use Rattle.lola_unfold.proofs.pads.passed_pads.Goals as goal

pub returns-clause-found : goal.returns-clause-found
returns-clause-found c =
    let ports = c.args.ports.now in
    let args = c.args.args.now in
    let n = c.loop-at.at in
    let none : (drop n ports ≡ []) ⊎ (map actual_tree (drop n args) ≡ []) =
    elim (ended n ports args (let e = c.loop-at-test.false in let f = c.min-at-end.ensures in omega arith)) [ inl e ↦ inl e | inr e ↦ inr (ap (map actual_tree) e) ] in
    sym (ap (pads_with_all (pads_found c.loop-at.pads)) (passed_none (pad_number c.args.outer.now) (drop n ports) (map actual_tree (drop n args)) none)) ∙ c.loop-at.invariant.found

use Rattle.std.proofs.Common.{List, take, sym, ap, ◌∙◌, arith}
use Rattle.std.proofs.lemmas.List.{take_all}
use Rattle.lola_bits.proofs.Places.{take_item}
use Rattle.lola_tree.specs.declared.module.Port.{Port}
use Rattle.lola_flat.specs.declared.design.SigKind.{SigKind}
use Rattle.lola_unfold.specs.Pieces.{made_tree, grow, head_of, head_piece, root_piece, root_kind_of}
use Rattle.lola_unfold.specs.Parts.{view_in}
use Rattle.lola_unfold.proofs.Growing.{grow_none, two_steps, root_more}
use Rattle.lola_unfold.proofs.add.add_root_ports.Goals as goal

pub loop-port-init : goal.loop-port-init
loop-port-init c = sym (grow_none (made_tree c.args.made.now))

pub loop-port-preserved : goal.loop-port-preserved
loop-port-preserved c =
    let w = view_in c.args.part.now c.args.site.now in
    let old = made_tree c.args.made.now in
    let ports = c.args.ports.now in
    let p = c.port-item.result in
    let done = take c.loop-port.port-index ports in
    two_steps old (made_tree c.loop-port.made) (made_tree c.add_signal.new.made) (root_piece w done) (head_piece (head_of w p.name (root_kind_of p.way) p.shape)) c.loop-port.invariant
    (c.in_ok-add_signal.ensures ∙ ap (λ (k : SigKind). grow (made_tree c.loop-port.made) (head_piece (head_of w p.name k p.shape))) c.root_kind-kind.ensures)
    ∙ ap (grow old) (root_more w done p) ∙ sym (ap (λ (l : List Port). grow old (root_piece w l)) (take_item ports c.loop-port.port-index p (omega arith) c.port-item.is))

pub returns : goal.returns
returns c =
    c.loop-port.invariant
    ∙ ap (λ (l : List Port). grow (made_tree c.args.made.now) (root_piece (view_in c.args.part.now c.args.site.now) l)) (take_all c.loop-port.port-index c.args.ports.now c.loop-port-test.false)

use Rattle.std.proofs.Common.{List, take, sym, ap, ◌∙◌, ◌∷◌, [], arith}
use Rattle.std.proofs.lemmas.List.{take_all}
use Rattle.lola_bits.proofs.Places.{take_item}
use Rattle.lola_tree.specs.declared.module.Port.{Port}
use Rattle.lola_unfold.specs.Pieces.{made_tree, grow, ports_piece}
use Rattle.lola_unfold.specs.Parts.{view_in}
use Rattle.lola_unfold.proofs.Growing.{grow_none, two_steps, ports_more}
use Rattle.lola_unfold.proofs.add.add_ports.Goals as goal

pub loop-port-init : goal.loop-port-init
loop-port-init c = sym (grow_none (made_tree c.args.made.now))

pub loop-port-preserved : goal.loop-port-preserved
loop-port-preserved c =
    let w = view_in c.args.part.now c.args.site.now in
    let old = made_tree c.args.made.now in
    let ports = c.args.ports.now in
    let done = take c.loop-port.port-index ports in
    two_steps old (made_tree c.loop-port.made) (made_tree c.add_port.new.made) (ports_piece w done) (ports_piece w (c.port-item.result ∷ [])) c.loop-port.invariant c.in_ok-add_port.ensures
    ∙ ap (grow old) (ports_more w done c.port-item.result)
    ∙ sym (ap (λ (l : List Port). grow old (ports_piece w l)) (take_item ports c.loop-port.port-index c.port-item.result (omega arith) c.port-item.is))

pub returns : goal.returns
returns c =
    c.loop-port.invariant
    ∙ ap (λ (l : List Port). grow (made_tree c.args.made.now) (ports_piece (view_in c.args.part.now c.args.site.now) l)) (take_all c.loop-port.port-index c.args.ports.now c.loop-port-test.false)

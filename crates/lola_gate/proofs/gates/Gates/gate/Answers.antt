use Rattle.std.proofs.Common.{◌-◌, Some, None, length, cond, sym, ap, ◌∙◌, arith}
use Rattle.std.specs.Prelude.{slice_get}
use Rattle.std.specs.Option.{is_some}
use Rattle.std.proofs.lemmas.Option.{slice_get-get_or, slice_get_past}
use Rattle.std.proofs.lemmas.Bool.{lt-ltb, le-ltb, ltb-false}
use Rattle.lola_gate.specs.Held.{gate_by}
use Rattle.lola_gate.proofs.Holds.{held_gate}
use Rattle.lola_gate.proofs.gates.Gates.gate.Goals as goal

pub returns-in-Some : goal.returns-in-Some
returns-in-Some c =
    let n = c.args.node - 1 in
    let p = c.in-Some.pair.now in
    let l = c.in-Some.ensures.lookup in
    sym (held_gate c.self.inside.others.items c.self.inside.held.items c.args.self.now c.args.node c.self.view_is c.if-node-eq0.false ∙
    ap (λ xs. gate_by (slice_get xs n)) (sym c.deref.ensures.value) ∙ ap gate_by (slice_get-get_or c.deref.result.now n p l.3.0 ∙ ap Some (sym l.1)) ∙
    ap (λ t. cond t (Some (p.0, p.1)) None) (lt-ltb 1 p.0 c.if-pair-gt1.true))

pub returns-in_default : goal.returns-in_default
returns-in_default c =
    let n = c.args.node - 1 in
    let p = c.in-Some.pair.now in
    let l = c.in-Some.ensures.lookup in
    sym (held_gate c.self.inside.others.items c.self.inside.held.items c.args.self.now c.args.node c.self.view_is c.if-node-eq0.false ∙
    ap (λ xs. gate_by (slice_get xs n)) (sym c.deref.ensures.value) ∙ ap gate_by (slice_get-get_or c.deref.result.now n p l.3.0 ∙ ap Some (sym l.1)) ∙
    ap (λ t. cond t (Some (p.0, p.1)) None) (le-ltb 1 p.0 (let g = c.if-pair-gt1.false in omega arith)))

pub returns-in_default-2 : goal.returns-in_default-2
returns-in_default-2 c =
    let n = c.args.node - 1 in
    sym (held_gate c.self.inside.others.items c.self.inside.held.items c.args.self.now c.args.node c.self.view_is c.if-node-eq0.false ∙
    ap (λ xs. gate_by (slice_get xs n)) (sym c.deref.ensures.value) ∙
    ap gate_by (slice_get_past c.deref.result.now n (ltb-false n (length c.deref.result.now) (sym c.get.ensures.lookup.0 ∙ ap is_some c.in_default.is))))

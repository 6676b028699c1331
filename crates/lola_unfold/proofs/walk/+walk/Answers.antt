use Rattle.std.proofs.Common.{◌≡◌, ℕ, ◌+◌, List, [], ◌∷◌, ◌++◌, map, take, length, slice_get, Some, None, sym, ap, ap₂, ◌∙◌, subst, arith}
use Rattle.std.specs.Option.{is_some}
use Rattle.std.proofs.lemmas.List.{take_all}
use Rattle.std.proofs.lemmas.Option.{slice_get-get_or, slice_get_past}
use Rattle.std.proofs.lemmas.Bool.{ltb-false}
use Rattle.lola_bits.specs.Lists.{IsIn}
use Rattle.lola_bits.proofs.Places.{take_item, item_in}
use Rattle.lola_tree.specs.declared.module.Port.{Port}
use Rattle.lola_tree.specs.declared.module.Local.{Local}
use Rattle.lola_tree.specs.Tree.{ActualTree, actual_tree, StmtTree, stmt_tree, ModuleTree}
use Rattle.lola_tree.specs.design.Calls.{args_of}
use Rattle.lola_unfold.specs.Slots.{entrance}
use Rattle.lola_unfold.specs.Tables.{args_or_none, calls_in}
use Rattle.lola_unfold.specs.Pieces.{made_tree, View, view_at, grow, ports_piece, args_piece, body_piece}
use Rattle.lola_unfold.specs.Parts.{path_in, view_in, IsCalled, local_piece, locals_piece}
use Rattle.lola_unfold.proofs.Growing.{grow_none, two_steps}
use Rattle.lola_unfold.proofs.Walking.{entered, four_steps, one_local, not_entered, is_found, is_stored, enters}
use Rattle.lola_unfold.proofs.walk.+walk.Goals as goal

pub walk_locals-loop-local-init : goal.walk_locals-loop-local-init
walk_locals-loop-local-init t c = λ N E a s. sym (grow_none (made_tree c.args.made.now))

pub walk_locals-loop-local-preserved : goal.walk_locals-loop-local-preserved
walk_locals-loop-local-preserved t c = λ N E a s.
    let old = made_tree c.args.made.now in
    let locals = c.args.part.now.declared.now.locals in
    let l = c.local-item.result in
    let i = c.loop-local.local-index in
    let done = take i locals in
    let there : IsIn l a.module_.locals = subst (λ (m : ModuleTree). IsIn l m.locals) s.is_part.is (subst (λ (ls : List Local). IsIn l ls) c.items-local-items.ensures (item_in c.items-local-items.result.now i l (omega arith) c.local-item.is)) in
    two_steps old (made_tree c.loop-local.made) (made_tree c.walk_local.new.made) (locals_piece N E a done) (local_piece N E a l) (c.loop-local.invariant N E a s) (c.in_ok-walk_local.ensures N E a s there)
    ∙ ap (grow old) (one_local N E a done l)
    ∙ sym (ap (λ (ls : List Local). grow old (locals_piece N E a ls)) (subst (λ (ls : List Local). take (i + 1) ls ≡ take i ls ++ l ∷ []) c.items-local-items.ensures (take_item c.items-local-items.result.now i l (omega arith) c.local-item.is)))

pub walk_locals-returns : goal.walk_locals-returns
walk_locals-returns t c = λ N E a s.
    c.loop-local.invariant N E a s
    ∙ ap (λ (ls : List Local). grow (made_tree c.args.made.now) (locals_piece N E a ls))
    (subst (λ (ls : List Local). take c.loop-local.local-index ls ≡ ls) c.items-local-items.ensures (take_all c.loop-local.local-index c.items-local-items.result.now c.loop-local-test.false) ∙ ap (λ (m : ModuleTree). m.locals) s.is_part.is)

pub walk_inside-returns : goal.walk_inside-returns
walk_inside-returns t c = λ N E F a b s s' called.
    let old = made_tree c.args.made.now in
    let w = view_in c.args.part.now c.args.site.now in
    let v = view_in c.args.outer.now c.args.outer_site.now in
    let m = b.module_ in
    let ports : c.items.result.now ≡ m.ports = c.items.ensures ∙ ap (λ (n : ModuleTree). n.ports) s'.is_part.is in
    let inner_ports = ap (λ (n : ModuleTree). n.ports) s'.is_part.is in
    let body : map stmt_tree c.items-2.result.now ≡ m.body = ap (map stmt_tree) c.items-2.ensures ∙ ap (λ (n : ModuleTree). n.body) s'.is_part.is in
    let args : map actual_tree c.args-args.result.now ≡ args_of a.module_.body c.args.name.now = c.args-args.ensures ∙ s.is_part.calls c.args.name.now in
    let first = c.in_ok-add_ports.ensures ∙ ap₂ (λ (x : View) (ps : List Port). grow old (ports_piece x ps)) s'.view ports in
    let second = c.in_ok-fill_args.ensures
    ∙ ap₂ (λ (x : View) (y : View). grow (made_tree c.add_ports.new.made) (args_piece x y c.args.part.now.declared.now.ports (map actual_tree c.args-args.result.now))) s'.view s.view
    ∙ ap₂ (λ (ps : List Port) (given : List ActualTree). grow (made_tree c.add_ports.new.made) (args_piece (view_at N b) (view_at N a) ps given)) inner_ports args in
    let third = c.in_ok-fill_body.ensures ∙ ap₂ (λ (x : View) (ts : List StmtTree). grow (made_tree c.fill_args.new.made) (body_piece x ts)) s'.view body in
    four_steps old (made_tree c.add_ports.new.made) (made_tree c.fill_args.new.made) (made_tree c.fill_body.new.made) (made_tree c.walk_locals.new.made) (ports_piece (view_at N b) m.ports)
    (args_piece (view_at N b) (view_at N a) m.ports (args_of a.module_.body c.args.name.now)) (body_piece (view_at N b) m.body) (locals_piece N F b m.locals)
    first second third (c.in_ok-walk_locals.ensures N F b s')
    ∙ ap (grow old) (entered N F a b c.args.name.now called)

pub walk_instance-returns-in-None : goal.walk_instance-returns-in-None
walk_instance-returns-in-None t c = λ N E a of s there kind.
    let old = made_tree c.args.made.now in
    let l = c.args.local.now in
    let absent : entrance c.args.site.now.base l.name ≡ None = sym (c.entrance.ensures.found ∙ ap (entrance c.args.site.now.base) c.text-name.ensures) ∙ c.in-None.is in
    sym (ap (grow old) (not_entered N c.args.parts.now c.args.site.now c.args.part.now E a s l of there kind absent) ∙ grow_none old)

pub walk_instance-returns-in-None-get : goal.walk_instance-returns-in-None-get
walk_instance-returns-in-None-get t c = λ N E a of s there kind.
    let l = c.args.local.now in
    let found : entrance c.args.site.now.base l.name ≡ Some (c.in-Some.slot, c.in-Some.at) = sym (c.entrance.ensures.found ∙ ap (entrance c.args.site.now.base) c.text-name.ensures) ∙ c.in-Some.is in
    let absent : slice_get c.args.parts.now c.in-Some.at ≡ None = slice_get_past c.args.parts.now c.in-Some.at (ltb-false c.in-Some.at (length c.args.parts.now) (sym c.get.ensures.lookup.0 ∙ ap is_some c.in-None-get.is)) in
    absurd (is_stored N c.args.parts.now c.args.site.now c.args.part.now E a s l of there kind c.in-Some.slot c.in-Some.at
    (is_found N c.args.parts.now c.args.site.now c.args.part.now E a s l of there kind c.in-Some.slot c.in-Some.at found) absent)

pub walk_instance-returns-in_ok-walk_inside-in-Some-get : goal.walk_instance-returns-in_ok-walk_inside-in-Some-get
walk_instance-returns-in_ok-walk_inside-in-Some-get t c = λ N E a of s there kind.
    let old = made_tree c.args.made.now in
    let parts = c.args.parts.now in
    let site = c.args.site.now in
    let part = c.args.part.now in
    let l = c.args.local.now in
    let text = c.text-name.ensures in
    let made = c.in_ok-inner_site-in-Some-get.ensures in
    let inner = c.in-Some-get.inner.now in
    let found : entrance site.base l.name ≡ Some (c.in-Some.slot, c.in-Some.at) = sym (c.entrance.ensures.found ∙ ap (entrance site.base) text) ∙ c.in-Some.is in
    let stored : slice_get parts c.in-Some.at ≡ Some inner = slice_get-get_or parts c.in-Some.at inner c.in-Some-get.ensures.lookup.3.0 ∙ ap Some (sym c.in-Some-get.ensures.lookup.1) in
    let args : map actual_tree c.args-args.result.now ≡ args_of a.module_.body l.name = c.args-args.ensures ∙ ap (λ (n : List ℕ). args_or_none (calls_in part.calls n)) text ∙ s.is_part.calls l.name in
    let e = enters N parts site part E a s l of there kind c.in-Some.slot c.in-Some.at
    (is_found N parts site part E a s l of there kind c.in-Some.slot c.in-Some.at found) inner stored c.in_ok-inner_site-in-Some-get.inner_site made.base
    (made.path ∙ ap (λ (n : List ℕ). path_in site.path.items ++ n ∷ []) text) (map actual_tree c.args-args.result.now) args made.pads made.none in
    c.in_ok-walk_inside-in-Some-get.ensures N E e.earlier a e.place s e.stands (subst (λ (n : List ℕ). IsCalled a n e.place) (sym text) e.called) ∙ ap (grow old) (sym e.piece_is)

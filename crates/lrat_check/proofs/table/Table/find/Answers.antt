use Rattle.std.proofs.Common.{◌≡◌, ◌∙◌, None, Option, ℤ, List, nat_eq, sym, ap, subst}
use Rattle.std.specs.Map.{lookup}
use Rattle.std.specs.Option.{option_map}
use Rattle.lrat_check.specs.Held.{Held}
use Rattle.lrat_check.specs.Arena.{clause_in}
use Rattle.lrat_check.specs.declared.keys.Entry.{Entry}
use Rattle.slab.specs.Slab.{get}
use Rattle.lrat_check.specs.Keys.{key_of}
use Rattle.lrat_check.proofs.Contents.{clause_by, found}
use Rattle.lrat_check.proofs.table.Table.find.Goals as goal

pub returns-in-None : goal.returns-in-None
returns-in-None c = let i = c.self.inside in
    subst (λ (h : Held). ◌≡◌ {A = Option (List ℤ)} None (lookup (nat_eq c.args.id) h.force)) c.self.view_is
    (ap (clause_by i.arena.items i.slots c.args.id) (c.in-None.ensures ∙ ap (λ (es : List Entry). key_of es c.args.id) c.deref.ensures.value)
    ∙ sym (found i.arena.items i.slots 0 i.last c.args.id i.entries.items c.self.invariant.rises))

pub returns-in-Some : goal.returns-in-Some
returns-in-Some c = let i = c.self.inside in
    subst (λ (h : Held). option_map (λ x. x.now) c.clause_in.result ≡ lookup (nat_eq c.args.id) h.force) c.self.view_is
    (c.clause_in.ensures ∙ ap (λ (a : List ℤ). clause_in a c.args.id (get i.slots c.in-Some.key)) c.deref-in-Some.ensures.value
    ∙ ap (clause_by i.arena.items i.slots c.args.id) (c.in-Some.ensures ∙ ap (λ (es : List Entry). key_of es c.args.id) c.deref.ensures.value)
    ∙ sym (found i.arena.items i.slots 0 i.last c.args.id i.entries.items c.self.invariant.rises))

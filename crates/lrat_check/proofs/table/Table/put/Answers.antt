use Rattle.std.proofs.Common.{◌≡◌, ◌<◌, ◌++◌, ◌∷◌, [], ◌∙◌, ap₂, List, ℤ, sym, subst}
use Rattle.lrat_check.specs.declared.keys.Entry.{Entry}
use Rattle.lrat_check.specs.Held.{Held}
use Rattle.lrat_check.specs.Arena.{contents}
use Rattle.lrat_check.proofs.Contents.{appended, sound_appended}
use Rattle.lrat_check.proofs.table.Table.put.Goals as goal

pub invariant_of-self : goal.invariant_of-self
invariant_of-self c = let i = c.self.inside in let e = c.append.ensures in
    let h : i.last < c.args.id = subst (λ (x : Held). x.last < c.args.id) (sym c.self.view_is) c.requires.rises in
    rw (e.arena, e.entries) (sound_appended i.arena.items c.args.clause.now i.slots c.append.new.slots i.entries.items c.args.id i.slots.vacant_key i.last
    (record { vacant = e.vacant; updates = e.slots }) c.self.invariant h)

pub returns-clause-force : goal.returns-clause-force
returns-clause-force c = let i = c.self.inside in let e = c.append.ensures in
    let h : i.last < c.args.id = subst (λ (x : Held). x.last < c.args.id) (sym c.self.view_is) c.requires.rises in
    subst (λ (x : Held). contents c.append.new.arena.items c.append.new.slots c.append.new.entries.items ≡ x.force ++ (c.args.id, c.args.clause.now) ∷ []) c.self.view_is
    (ap₂ (λ (a : List ℤ) (es : List Entry). contents a c.append.new.slots es) e.arena e.entries
    ∙ appended i.arena.items c.args.clause.now i.slots c.append.new.slots c.args.id i.slots.vacant_key 0 i.last i.entries.items (record { vacant = e.vacant; updates = e.slots })
    c.self.invariant.within c.self.invariant.rises h)

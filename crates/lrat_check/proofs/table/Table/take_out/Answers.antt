use Rattle.std.proofs.Common.{◌≡◌, ◌∙◌, List, ap, sym, subst}
use Rattle.lrat_check.specs.declared.keys.Entry.{Entry}
use Rattle.lrat_check.specs.Held.{Held}
use Rattle.lrat_check.specs.Keys.{key_of}
use Rattle.lrat_check.specs.Clauses.{without}
use Rattle.lrat_check.specs.Arena.{contents}
use Rattle.lrat_check.proofs.Contents.{clause_by, found, none_removed, removed}
use Rattle.lrat_check.proofs.table.Table.take_out.Goals as goal

pub returns-in-None-clause-force : goal.returns-in-None-clause-force
returns-in-None-clause-force c = let i = c.self.inside in
    subst (λ (h : Held). h.force ≡ without h.force c.args.id) c.self.view_is (sym (none_removed (contents i.arena.items i.slots i.entries.items) c.args.id
    (found i.arena.items i.slots 0 i.last c.args.id i.entries.items c.self.invariant.rises
    ∙ ap (clause_by i.arena.items i.slots c.args.id) (ap (λ (es : List Entry). key_of es c.args.id) (sym c.deref.ensures.value) ∙ sym c.in-None.ensures))))

pub returns-in-Some-clause-force : goal.returns-in-Some-clause-force
returns-in-Some-clause-force c = let i = c.self.inside in
    subst (λ (h : Held). contents i.arena.items c.take_out-length.new.slots i.entries.items ≡ without h.force c.args.id) c.self.view_is
    (removed i.arena.items i.slots c.take_out-length.new.slots c.args.id c.in-Some.key 0 i.last i.entries.items
    (record { changed = c.take_out-length.ensures.changed; others = c.take_out-length.ensures.others }) c.self.invariant.rises
    (ap (λ (es : List Entry). key_of es c.args.id) (sym c.deref.ensures.value) ∙ sym c.in-Some.ensures))

use Rattle.std.proofs.Common.{◌∙◌, ◌+◌, ◌++◌, ◌∷◌, [], get_or, ap, sym, refl, subst, ℕ}
use Rattle.lrat_check.specs.declared.keys.Entry.{Entry}
use Rattle.lrat_check.specs.Clauses.{InForce}
use Rattle.lrat_check.specs.Held.{Held}
use Rattle.lrat_check.proofs.Contents.{Moving, moving_past, moving_on}
use Rattle.lrat_check.proofs.table.moved.Goals as goal
use Rattle.lrat_check.proofs.table.moved.Goals.{in-None, in-Some+in-Ok-grow}

pub loop-entry-preserved : goal.loop-entry-preserved
loop-entry-preserved c =
    let d : Entry = record { id = 0; key = 0 } in
    let i = c.loop-entry.entry-index in
    let e = get_or c.args.entries.now i d in
    elim c.match-clause_in.branch [
      | in-None w ↦ subst (λ (t : Held). Moving c.args.arena.now c.args.slots.now c.args.entries.now c.args.last (i + 1) t.force t.last) (sym w.table-is)
          (moving_past c.args.arena.now c.args.slots.now c.args.entries.now c.args.last i c.loop-entry.table.force c.loop-entry.table.last e d c.loop-entry-test.true refl
          (sym w.in-None.ensures) c.loop-entry.invariant)
      | in-Some+in-Ok-grow w ↦ subst (λ (t : Held). Moving c.args.arena.now c.args.slots.now c.args.entries.now c.args.last (i + 1) t.force t.last) (sym w.table-is)
          (subst (λ (n : ℕ). Moving c.args.arena.now c.args.slots.now c.args.entries.now c.args.last (i + 1) w.put.new.self.force n) (sym w.put.ensures.last)
          (moving_on c.args.arena.now c.args.slots.now c.args.entries.now c.args.last i c.loop-entry.table.force w.put.new.self.force c.loop-entry.table.last e d w.in-Some.clause.now
          c.loop-entry-test.true refl (sym w.in-Some.ensures)
          (w.put.ensures.force ∙ ap (λ (f : InForce). f ++ (e.id, w.in-Some.clause.now) ∷ []) w.grow-in-Some.ensures.force) c.loop-entry.invariant))
    ]

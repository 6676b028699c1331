use Rattle.std.proofs.Common.{◌≡◌, ◌∙◌, ◌+◌, ◌++◌, ◌∷◌, [], ◌||◌, refl, ap, sym}
use Rattle.lrat_check.specs.Clauses.{InForce, is_empty}
use Rattle.lrat_check.proofs.Started.{started_first, started_next, empty_is}
use Rattle.lrat_check.proofs.checker.put_all.Goals as goal
use Rattle.lrat_check.proofs.checker.put_all.Goals.{then-closed, else-closed}

pub loop-clause-init : goal.loop-clause-init
loop-clause-init c = started_first c.args.vars c.args.clauses.now c.args.table.now.force c.args.table.now.last c.requires.known c.requires.none c.requires.first

pub loop-clause-preserved : goal.loop-clause-preserved
loop-clause-preserved c =
    let literals = c.items-literals.result.now in
    let e : c.put.new.self.force ≡ c.loop-clause.table.force ++ (c.loop-clause.id + 1, literals) ∷ [] =
    c.put.ensures.force ∙ ap (λ (f : InForce). f ++ (c.loop-clause.id + 1, literals) ∷ []) c.reserve.ensures.force in
    let f : c.if-closed.closed ≡ (c.loop-clause.closed || is_empty literals) = elim c.if-closed.branch [
      | then-closed w ↦ w.closed-is ∙ (rw w.if-closed.true refl)
      | else-closed w ↦ w.closed-is ∙ w.is_empty-closed.ensures ∙ sym (empty_is literals) ∙ (rw w.if-closed.false refl)
    ] in
    rw c.put.ensures.last (started_next c.args.vars c.args.clauses.now c.loop-clause.clause-index c.loop-clause.id c.loop-clause.closed c.if-closed.closed c.loop-clause.table.force
    c.put.new.self.force c.loop-clause.table.last c.clause-item.result literals c.loop-clause-test.true c.clause-item.is c.items-literals.ensures e f c.loop-clause.invariant)

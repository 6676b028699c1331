use Rattle.std.proofs.Common.{arith, ◌≡◌, ◌≤◌, ◌-◌, min, IsOk, true, false, refl, sym, subst}
use Rattle.slab.specs.Slab.{slab_len}
use Rattle.lrat_check.specs.Held.{Held}
use Rattle.lrat_check.specs.Arena.{room_of}
use Rattle.lrat_check.proofs.table.Table.grow.Goals as goal
use Rattle.lrat_check.proofs.table.Table.grow.Goals.{in-Ok, in-Err}

pub returns-clause-succeeds : goal.returns-clause-succeeds
returns-clause-succeeds c = λ clauses literals. let i = c.self.inside in
    let a : c.args.clauses ≤ min (room_of i.entries) (i.slots.capacity - slab_len i.slots) = subst (λ (h : Held). c.args.clauses ≤ h.spare_clauses) (sym c.self.view_is) clauses in
    let b : c.args.literals ≤ room_of i.arena = subst (λ (h : Held). c.args.literals ≤ h.spare_literals) (sym c.self.view_is) literals in
    let ok : IsOk c.make_room.result = c.make_room.ensures.succeeds b (omega (arith, a)) (omega (arith, a)) in
    elim c.match-make_room.branch [ in-Ok w ↦ rw w.result-is refl | in-Err w ↦ let q : false ≡ true = rw w.in-Err.is at ok in absurd (cc) ]

use Rattle.std.proofs.Common.{arith, ◌≡◌, ◌∙◌, length, take, drop, ◌++◌, ◌∷◌, [], ap, sym, subst, List, ℕ, true}
use Rattle.std.specs.Vec.{vec_len}
use Rattle.std.proofs.Math.Seq.{take-append_seam}
use Rattle.lola_bits.proofs.All.{all_more}
use Rattle.lrat_check.specs.Clauses.{InForce, AreKnown}
use Rattle.lrat_check.specs.Marks.{IsLatest}
use Rattle.lrat_check.specs.State.{State}
use Rattle.lrat_check.specs.Truth.{Models}
use Rattle.lrat_check.specs.Whole.{ForceIsKnown}
use Rattle.lrat_check.proofs.Sound.{clause_follows}
use Rattle.lrat_check.proofs.Followed.{checks_none}
use Rattle.lrat_check.proofs.checker.Checker.add.Goals as goal

pub invariant_of-self-2 : goal.invariant_of-self-2
invariant_of-self-2 c = let w = c.self.invariant in
    let e : c.put.new.self.force ≡ c.self.inside.table.force ++ (c.args.id, c.args.clause.now) ∷ [] =
    c.put.ensures.force ∙ ap (λ (f : InForce). f ++ (c.args.id, c.args.clause.now) ∷ []) c.reserve.ensures.force in
    let n : vec_len c.self.inside.stamps ≡ length c.check.new.stamps = omega (arith, c.deref_mut.ensures.len, c.check.ensures.stays) in
    let q : take (vec_len c.self.inside.stamps) (c.check.new.stamps ++ drop (length c.check.new.stamps) c.self.inside.stamps.items) ≡ c.check.new.stamps =
    rw n (take-append_seam c.check.new.stamps _) in
    record {
      room = let l = ap length c.deref_mut.ensures.value in let k = ap length q in omega (arith, l, k, w.room, c.check.ensures.stays);
      latest = subst (λ (x : List ℕ). IsLatest x c.check.new.stamp) (sym q) c.check.ensures.latest;
      known = subst (λ (f : InForce). ForceIsKnown c.self.inside.vars f) (sym e)
          (all_more (λ x. AreKnown c.self.inside.vars x.1) c.self.inside.table.force (c.args.id, c.args.clause.now) w.known c.in-Ok.ensures.known);
    }

pub returns-clause-sound : goal.returns-clause-sound
returns-clause-sound c = λ v m. let i = c.self.inside in
    clause_follows (record { vars = i.vars; force = i.table.force; last = i.table.last; closed = true }) c.args.id c.args.clause.now c.args.hints.now (checks_none _ _ c.in-Ok.ensures.answer) v (subst (λ (s : State). Models v s.checked.force) (sym c.self.view_is) m)

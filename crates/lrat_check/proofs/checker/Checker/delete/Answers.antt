use Rattle.std.proofs.Common.{sym, subst}
use Rattle.lrat_check.specs.Clauses.{InForce, AreKnown}
use Rattle.lrat_check.specs.Whole.{ForceIsKnown}
use Rattle.lrat_check.proofs.Sound.{all_without_all}
use Rattle.lrat_check.proofs.checker.Checker.delete.Goals as goal

pub invariant_of-self : goal.invariant_of-self
invariant_of-self c = let w = c.self.invariant in record {
  room = w.room;
  latest = w.latest;
  known = subst (λ (f : InForce). ForceIsKnown c.self.inside.vars f) (sym c.take_out_all.ensures.force) (all_without_all (λ x. AreKnown c.self.inside.vars x.1) c.args.ids.now _ w.known);
}

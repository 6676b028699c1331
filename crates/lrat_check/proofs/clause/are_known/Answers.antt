use Rattle.std.proofs.Common.{◌≡◌, ◌∙◌, true, false, sym, subst, List, ℤ}
use Rattle.lola_bits.proofs.Options.{nothing}
use Rattle.lola_bits.proofs.Places.{all_step, drop_item}
use Rattle.lrat_check.specs.declared.clause.Clause.{Clause}
use Rattle.lrat_check.specs.Clauses.{AreKnown, AreAllKnown}
use Rattle.lrat_check.proofs.Followed.{all_known, none_unknown}
use Rattle.lrat_check.proofs.clause.are_known.Goals as goal

pub returns-in-Some : goal.returns-in-Some
returns-in-Some c = (
  λ e. let q : false ≡ true = e in absurd (cc),
  λ all.
      let here = subst (λ (cs : List Clause). AreAllKnown c.args.vars cs) (drop_item c.args.clauses.now c.loop-clause.clause-index c.clause-item.result c.loop-clause-test.true c.clause-item.is)
      (c.loop-clause.invariant.1 all) in
      let known = subst (λ (ls : List ℤ). AreKnown c.args.vars ls) (sym c.items.ensures) here.0 in
      nothing _ (sym (none_unknown c.args.vars c.items.result.now known) ∙ sym c.in-Some.ensures),
)

pub loop-clause-preserved : goal.loop-clause-preserved
loop-clause-preserved c = all_step (λ x. AreKnown c.args.vars x.literals) c.args.clauses.now c.loop-clause.clause-index c.clause-item.result c.loop-clause-test.true c.clause-item.is
    (subst (λ (ls : List ℤ). AreKnown c.args.vars ls) c.items.ensures (all_known c.args.vars c.items.result.now (sym c.in-None.ensures))) c.loop-clause.invariant

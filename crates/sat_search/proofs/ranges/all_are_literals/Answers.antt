use Rattle.std.proofs.Common.{◌≡◌, ◌∙◌, true, false, sym, subst, ap, List, ℤ}
use Rattle.std.specs.List.{AllByRecursion, list_all}
use Rattle.lola_bits.proofs.Places.{all_step, drop_item}
use Rattle.lola_bits.proofs.Tests.{not_both}
use Rattle.lrat_check.specs.declared.clause.Clause.{Clause}
use Rattle.sat_search.specs.Ranges.{IsLiteral, is_literal}
use Rattle.sat_search.proofs.Tests.{all_say, all_pass, literal_says, literal_passes}
use Rattle.sat_search.proofs.ranges.all_are_literals.Goals as goal

pub returns-then-not-are_literals : goal.returns-then-not-are_literals
returns-then-not-are_literals c = (
  λ e. let q : false ≡ true = e in absurd (cc),
  λ all.
      let here = subst (λ (cs : List Clause). AllByRecursion (λ (d : Clause). AllByRecursion IsLiteral d.literals) cs)
      (drop_item c.args.clauses.now c.loop-clause.clause-index c.clause-item.result c.loop-clause-test.true c.clause-item.is) (c.loop-clause.invariant.1 all) in
      not_both (all_pass is_literal IsLiteral literal_passes c.clause-item.result.literals here.0)
      (ap (λ (x : List ℤ). list_all is_literal x) (sym c.items.ensures) ∙ sym c.are_literals.ensures ∙ c.if-not-are_literals.true),
)

pub loop-clause-preserved : goal.loop-clause-preserved
loop-clause-preserved c = all_step (λ (x : Clause). AllByRecursion IsLiteral x.literals) c.args.clauses.now c.loop-clause.clause-index c.clause-item.result c.loop-clause-test.true c.clause-item.is
    (all_say is_literal IsLiteral literal_says c.clause-item.result.literals
    (ap (λ (x : List ℤ). list_all is_literal x) (sym c.items.ensures) ∙ sym c.are_literals.ensures ∙ c.if-not-are_literals.false)) c.loop-clause.invariant

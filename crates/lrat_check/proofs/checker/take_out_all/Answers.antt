use Rattle.std.proofs.Common.{arith, ◌∙◌}
use Rattle.lrat_check.proofs.Followed.{one_out}
use Rattle.lrat_check.proofs.checker.take_out_all.Goals as goal

pub loop-id-preserved : goal.loop-id-preserved
loop-id-preserved c = (
  one_out c.loop-id.table.force c.take_out.new.self.force _ c.loop-id.id-index c.args.ids.now c.loop-id-test.true c.take_out.ensures.force c.loop-id.invariant.0,
  c.take_out.ensures.last ∙ c.loop-id.invariant.1,
  omega (arith, c.loop-id.invariant.2, c.take_out.ensures.clauses_stay),
  omega (arith, c.loop-id.invariant.3, c.take_out.ensures.literals_stay),
)

use Rattle.std.proofs.Common.{◌≡◌, ◌∙◌, Some, subst}
use Rattle.lola_bits.specs.declared.op.Op.TheVariants as op
use Rattle.lola_alg.specs.Steps.{alone, equal_step, op_step}
use Rattle.lola_checks.specs.Steps.{only_bit}
use Rattle.lola_checks.proofs.CompareMeans.{only_alone, alike_answers}
use Rattle.lola_checks.proofs.compare.equal.Goals as goal

pub returns-in-Ok-low_op-clause-means : goal.returns-in-Ok-low_op-clause-means
returns-in-Ok-low_op-clause-means g c =
    let a = g.A.Algebra in
    let d = a.state c.args.alg.now in
    let mid = a.state c.low_op.new.alg in
    let steps : alone a.calls (equal_step a.calls c.args.left.now c.args.right.now d) ≡ Some (mid, c.in-Ok-low_op.bits) =
    subst (λ xs. op_step a.calls op.Eq xs d ≡ Some (mid, c.in-Ok-low_op.bits)) (c.as_slice.ensures.value ∙ c.in-Ok.ensures.ok) c.in-Ok-low_op.ensures.steps in
    let taken : only_bit a.calls c.in-Ok-low_op.bits mid ≡ Some (a.state c.only.new.alg, c.only.result) =
    subst (λ xs. only_bit a.calls xs mid ≡ Some (a.state c.only.new.alg, c.only.result)) c.items.ensures c.only.ensures in
    alike_answers a.calls a.meaning g.met.A.Algebra.law c.args.left.now c.args.right.now d (a.state c.only.new.alg, c.only.result) c.requires.same c.requires.left c.requires.right
    (only_alone a.calls (equal_step a.calls c.args.left.now c.args.right.now d) mid c.in-Ok-low_op.bits (a.state c.only.new.alg, c.only.result) steps taken)

use Rattle.std.proofs.Common.{sym, subst, List}
use Rattle.lola_alg.specs.Means.{MeansOp}
use Rattle.lola_alg.proofs.OpMeans.{op_means}
use Rattle.lola_alg.proofs.lower.low_op.Goals as goal

pub returns-in-Ok-clause-means : goal.returns-in-Ok-clause-means
returns-in-Ok-clause-means g c =
    let a = g.A.Algebra in
    let before = a.state c.args.alg.now in
    let now = a.state c.lowered.new.alg in
    subst (λ (bits : List g.row.A-Bit.Denot). MeansOp a.meaning c.args.op c.args.args.now before (now, bits)) (sym c.of.ensures)
    (op_means a.calls a.meaning g.met.A.Algebra.law c.args.op c.args.args.now before c.requires.suits c.requires.known (now, c.in-Ok.bits.items) c.in-Ok.ensures.steps)

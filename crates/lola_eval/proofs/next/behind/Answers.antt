use Rattle.lola_flat.specs.Tree.{flat_tree, signal_tree}
use Rattle.lola_flat.specs.Value.{env}
use Rattle.std.proofs.Common.{[]}
use Rattle.lola_eval.proofs.NextMeans.{kept_next, behind_next}
use Rattle.lola_eval.proofs.next.behind.Goals as goal

pub returns-in-Register-clause-kept : goal.returns-in-Register-clause-kept
returns-in-Register-clause-kept g c =
    let a = g.A.Algebra in
    kept_next a.meaning (flat_tree c.args.flat.now) (env c.args.signals.now []) c.args.number (signal_tree c.args.signal.now) (a.state c.args.alg.now) (a.state c.next_at.new.alg) c.next_at.result
    (c.next_at.ensures.means (signal_tree c.args.signal.now) c.requires.is)

pub returns-in-Register-clause-means : goal.returns-in-Register-clause-means
returns-in-Register-clause-means g c =
    let a = g.A.Algebra in
    behind_next a.meaning (flat_tree c.args.flat.now) (env c.args.signals.now []) c.args.number (signal_tree c.args.signal.now) (a.state c.args.alg.now) (a.state c.next_at.new.alg) c.in-Register.is c.next_at.result
    (c.next_at.ensures.means (signal_tree c.args.signal.now) c.requires.is)

use Rattle.std.proofs.Common.{length}
use Rattle.lola_flat.specs.Value.{env, mapped}
use Rattle.lola_eval.proofs.Kept.{env_known}
use Rattle.lola_checks.specs.Tree.{atom_tree}
use Rattle.lola_checks.specs.Suits.{AtomSuits}
use Rattle.lola_checks.proofs.Loops.{suits_at}
use Rattle.lola_checks.proofs.claims.lower_atoms.Goals as goal

pub lower_atom-requires-clause-suits : goal.lower_atom-requires-clause-suits
lower_atom-requires-clause-suits g c =
    suits_at (AtomSuits (mapped length (env c.args.signals.now c.args.outside.now))) atom_tree c.args.atoms.now c.loop-at.at c.index-atoms-at.result c.loop-at-test.true c.index-atoms-at.is c.requires.suits

pub lower_atom-requires-clause-known : goal.lower_atom-requires-clause-known
lower_atom-requires-clause-known g c =
    let a = g.A.Algebra in
    env_known a.meaning (a.state c.args.alg.now) (a.state c.loop-at.alg) (env c.args.signals.now c.args.outside.now) c.loop-at.invariant.stays c.requires.known

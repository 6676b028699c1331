use Rattle.std.proofs.Common.{◌≡◌, true, map, drop}
use Rattle.lola_alg.specs.Algebra.{Stays}
use Rattle.lola_flat.specs.Value.{env}
use Rattle.lola_checks.specs.Tree.{atom_tree}
use Rattle.lola_checks.specs.Steps.{atoms_from}
use Rattle.lola_checks.proofs.claims.lower_atoms.Given as goal

abbrev pub invariant-loop-at : goal.invariant-loop-at
invariant-loop-at g l = record {
  steps : atoms_from g.A.Algebra.calls l.join (env l.signals l.outside) (map atom_tree l.atoms) l.fn.first (g.A.Algebra.state l.fn.alg) ≡
      atoms_from g.A.Algebra.calls l.join (env l.signals l.outside) (map atom_tree (drop l.at l.atoms)) l.so (g.A.Algebra.state l.alg);
  stays : Stays g.A.Algebra.meaning (g.A.Algebra.state l.fn.alg) (g.A.Algebra.state l.alg);
  so : g.A.Algebra.meaning.knows (g.A.Algebra.state l.alg) l.so ≡ true;
}

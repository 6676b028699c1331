use Rattle.std.proofs.Common.{cond, sym, subst, arith}
use Rattle.std.proofs.lemmas.Bool.{lt-ltb, le-ltb}
use Rattle.lola_alg.specs.Algebra.{Fits}
use Rattle.lola_gate.specs.Gates.{gates_calls, gates_meaning, both_of}
use Rattle.lola_gate.specs.Law.{gates_law}
use Rattle.lola_gate.proofs.Kept.{fits_kept}
use Rattle.lola_gate.proofs.gates.GatesAlgebra.and.Goals as goal

pub returns-then-b-a-clause-kept : goal.returns-then-b-a-clause-kept
returns-then-b-a-clause-kept c =
    fits_kept gates_calls gates_meaning gates_law c.args.self.now c.both.new.self c.args.a c.args.b c.both.result c.requires.a c.requires.b
    (subst (λ t. Fits (cond t (both_of c.args.b c.args.a c.args.self.now) (both_of c.args.a c.args.b c.args.self.now)) c.args.self.now c.both.new.self c.both.result)
    (sym (lt-ltb c.args.b c.args.a c.if-b-a.true)) c.both.ensures)

pub returns-else-b-a-clause-kept : goal.returns-else-b-a-clause-kept
returns-else-b-a-clause-kept c =
    fits_kept gates_calls gates_meaning gates_law c.args.self.now c.both-else-b-a.new.self c.args.a c.args.b c.both-else-b-a.result c.requires.a c.requires.b
    (subst (λ t. Fits (cond t (both_of c.args.b c.args.a c.args.self.now) (both_of c.args.a c.args.b c.args.self.now)) c.args.self.now c.both-else-b-a.new.self c.both-else-b-a.result)
    (sym (le-ltb c.args.b c.args.a (let h = c.if-b-a.false in omega arith))) c.both-else-b-a.ensures)

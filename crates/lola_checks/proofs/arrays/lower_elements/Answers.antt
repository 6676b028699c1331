use Rattle.std.proofs.Common.{sym, subst}
use Rattle.std.specs.Prelude.{IfSome}
use Rattle.lola_flat.specs.Value.{env}
use Rattle.lola_eval.specs.Means.{SuitsArray}
use Rattle.lola_checks.specs.Tree.{elements_tree, write_tree}
use Rattle.lola_checks.proofs.ArrayMeans.{array_suits, old_is, table_went, elements_went}
use Rattle.lola_checks.proofs.arrays.lower_elements.Goals as goal

pub behind_write-requires-clause-suits : goal.behind_write-requires-clause-suits
behind_write-requires-clause-suits g c =
    let e = env c.args.signals.now c.args.outside.now in
    let t = elements_tree c.args.array.now in
    let s = c.requires.suits in
    subst (λ xs. IfSome (write_tree c.args.array.now.write) (λ w. SuitsArray e w.place w.value xs)) (sym (old_is e s.0 s.1.0 t c.index-signals-array.result c.items-old.result.now s.1.1 c.index-signals-array.is c.items-old.ensures))
    (array_suits e s.0 s.1.0 t s.1.1)

pub returns-clause-means : goal.returns-clause-means
returns-clause-means g c = λ wide count s.
    let a = g.A.Algebra in
    let e = env c.args.signals.now c.args.outside.now in
    let t = elements_tree c.args.array.now in
    let d = a.state c.args.alg.now in
    let now = a.state c.behind_write.new.alg in
    elements_went a.calls a.meaning g.met.A.Algebra.law e t wide count d now c.behind_write.result s c.requires.known
    (table_went a.calls e t d now c.items-old.result.now c.behind_write.result (old_is e wide count t c.index-signals-array.result c.items-old.result.now s c.index-signals-array.is c.items-old.ensures) c.behind_write.ensures.steps)

use Rattle.std.proofs.Common.{◌≡◌, map, sym, subst, List}
use Rattle.std.specs.Prelude.{Some}
use Rattle.lola_alg.specs.Steps.{read_step}
use Rattle.lola_alg.specs.Means.{MeansNumber, number_in, number_at}
use Rattle.lola_alg.proofs.ArrayMeans.{read_means}
use Rattle.lola_alg.proofs.arrays.low_read.Goals as goal

pub returns-in-Ok-clause-means : goal.returns-in-Ok-clause-means
returns-in-Ok-clause-means g c = λ width array.
    let a = g.A.Algebra in
    let before = a.state c.args.alg.now in
    let now = a.state c.read.new.alg in
    let steps = subst (λ place. read_step a.calls c.args.elements.now place before ≡ Some (now, c.in-Ok.bits.items)) c.items.ensures c.in-Ok.ensures.steps in
    subst (λ (bits : List g.row.A-Bit.Denot). MeansNumber a.meaning before now bits width (λ v. number_in (map (number_at a.meaning before v) c.args.elements.now) (number_at a.meaning before v c.args.place.now)))
    (sym c.of.ensures) (read_means a.calls a.meaning g.met.A.Algebra.law c.args.elements.now c.args.place.now width before (now, c.in-Ok.bits.items) array c.requires.known c.requires.place steps)

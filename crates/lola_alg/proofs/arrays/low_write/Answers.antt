use Rattle.std.proofs.Common.{length, map, refl, sym, ap₂, ◌∙◌, subst, List}
use Rattle.lola_alg.specs.Steps.{write_from}
use Rattle.lola_alg.specs.Means.{MeansNumbers, with_number, number_at}
use Rattle.lola_alg.proofs.ArrayMeans.{write_means}
use Rattle.lola_alg.proofs.arrays.low_write.Goals as goal

pub returns-in-Ok-clause-means : goal.returns-in-Ok-clause-means
returns-in-Ok-clause-means g c =
    let a = g.A.Algebra in
    let before = a.state c.args.alg.now in
    let now = a.state c.written.new.alg in
    let elements = c.args.elements.now in
    let sides = ap₂ (λ place value. write_from a.calls place value 0 elements before) c.items.ensures c.items-2.ensures in
    subst (λ (made : List (List g.row.A-Bit.Denot)). MeansNumbers a.meaning before now made (length c.args.value.now)
    (λ v. with_number (map (number_at a.meaning before v) elements) (number_at a.meaning before v c.args.place.now) (number_at a.meaning before v c.args.value.now))) (sym c.of.ensures)
    (write_means a.calls a.meaning g.met.A.Algebra.law elements c.args.place.now c.args.value.now (length c.args.value.now) before (now, c.in-Ok.made.items) c.requires.array refl c.requires.known
    c.requires.place c.requires.value (sym sides ∙ c.in-Ok.ensures.steps))

use Rattle.std.proofs.Common.{subst, string_bytes}
use Rattle.std.proofs.Common.{drop}
use Rattle.lola_bits.specs.Lists.{IsAt}
use Rattle.lola_elab.specs.declared.vector.Vector.{Vector}
use Rattle.lola_app.specs.Vectors.{bit_names}
use Rattle.lola_app.proofs.Faces.{one_more_bit, at_head, width_at}
use Rattle.lola_app.proofs.Places.{at_place}
use Rattle.lola_app.proofs.face.place_of_bit.Goals as goal

pub returns-then-left-eq0-clause-named : goal.returns-then-left-eq0-clause-named
returns-then-left-eq0-clause-named c = λ name at.
    at_place (λ (v : Vector). string_bytes v.name) c.args.vectors.now c.loop-place.place c.index-vectors-place.result name c.loop-place-test.true c.index-vectors-place.is
    (at_head _ _ name _ (one_more_bit c.args.vectors.now c.loop-place.place c.index-vectors-place.result c.loop-place-test.true c.index-vectors-place.is c.if-vector-eq1.true)
    (subst (λ n. IsAt (bit_names (drop c.loop-place.place c.args.vectors.now)) n name) c.if-left-eq0.true (c.loop-place.invariant name at)))

pub returns-then-left-eq0-clause-bit : goal.returns-then-left-eq0-clause-bit
returns-then-left-eq0-clause-bit c = λ name at.
    width_at c.args.vectors.now c.loop-place.place c.index-vectors-place.result c.loop-place-test.true c.index-vectors-place.is c.if-vector-eq1.true

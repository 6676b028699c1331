use Rattle.std.proofs.Common.{◌∙◌, sym, string_bytes}
use Rattle.lola_bits.proofs.Names.{is_same_name, is_other_name}
use Rattle.lola_app.proofs.Places.{at_place, not_here}
use Rattle.lola_app.proofs.names.place_of.Goals as goal

pub returns-then-eq : goal.returns-then-eq
returns-then-eq c =
    at_place string_bytes c.args.names.now c.loop-place.place c.index-names-place.result c.args.name.now c.loop-place-test.true c.index-names-place.is
    (sym c.as_str.ensures.value ∙ is_same_name _ _ (sym c.if-eq.ensures))

pub loop-place-preserved : goal.loop-place-preserved
loop-place-preserved c = λ there.
    not_here string_bytes c.args.names.now c.loop-place.place c.index-names-place.result c.args.name.now c.loop-place-test.true c.index-names-place.is
    (λ e. is_other_name _ _ (sym c.if-eq.ensures) (c.as_str.ensures.value ∙ e)) (c.loop-place.invariant there)

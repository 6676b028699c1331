use Rattle.std.proofs.Common.{refl}
use Rattle.std.proofs.lemmas.Result.{IfOk-weaker}
use Rattle.lola_parse.specs.declared.symbol.Symbol.TheVariants as s
use Rattle.lola_parse.proofs.Fronts.{stands}
use Rattle.lola_parse.specs.Design.{vector}
use Rattle.lola_parse.proofs.Shaped.{shaped_counted}
use Rattle.lola_parse.proofs.shapes.shape.Goals as goal

pub returns-in-Bit-clause-ok : goal.returns-in-Bit-clause-ok
returns-in-Bit-clause-ok c = vector (stands c.args.here c.next-next.result s.Bit c.next-next.ensures c.in-Bit.is refl) refl c.fixed_vector.ensures

pub returns-in-Byte-clause-ok : goal.returns-in-Byte-clause-ok
returns-in-Byte-clause-ok c = vector (stands c.args.here c.next-next.result s.Byte c.next-next.ensures c.in-Byte.is refl) refl c.fixed_vector-in-Byte.ensures

pub returns-in-Word-clause-ok : goal.returns-in-Word-clause-ok
returns-in-Word-clause-ok c = vector (stands c.args.here c.next-next.result s.Word c.next-next.ensures c.in-Word.is refl) refl c.fixed_vector-in-Word.ensures

pub returns-in-OpenBracket-clause-ok : goal.returns-in-OpenBracket-clause-ok
returns-in-OpenBracket-clause-ok c =
    IfOk-weaker c.counted_shape.result _ _
    (λ read h. h c.args.here _ (stands c.args.here c.next-next.result s.OpenBracket c.next-next.ensures c.in-OpenBracket.is refl)) c.counted_shape.ensures.ok

pub returns-in-OpenBracket-clause-whole : goal.returns-in-OpenBracket-clause-whole
returns-in-OpenBracket-clause-whole c = λ t rest read k. c.counted_shape.ensures.whole t rest (shaped_counted read (stands c.args.here c.next-next.result s.OpenBracket c.next-next.ensures c.in-OpenBracket.is refl)) tt

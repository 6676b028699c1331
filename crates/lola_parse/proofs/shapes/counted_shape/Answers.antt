use Rattle.std.proofs.Common.{refl}
use Rattle.std.proofs.lemmas.Result.{IfOk-weaker}
use Rattle.lola_parse.specs.declared.symbol.Symbol.TheVariants as s
use Rattle.lola_parse.proofs.Fronts.{stands}
use Rattle.lola_parse.specs.Design.{bits, bytes, words, vectors}
use Rattle.std.proofs.Common.{◌∙◌}
use Rattle.lola_parse.proofs.Shaped.{shape_close, shape_ends, end_bits, end_bytes, end_words, end_vectors, end_none}
use Rattle.lola_parse.proofs.shapes.counted_shape.Goals as goal

pub returns-in-Bit-clause-ok : goal.returns-in-Bit-clause-ok
returns-in-Bit-clause-ok c =
    λ all at bracket.
    bits _ _ _ bracket c.in_ok-count.ensures.ok c.in_ok-behind.ensures.ok.1
    (stands c.in_ok-behind.behind c.next-next.result s.Bit c.next-next.ensures c.in-Bit.is refl) refl

pub returns-in-Byte-clause-ok : goal.returns-in-Byte-clause-ok
returns-in-Byte-clause-ok c =
    λ all at bracket.
    bytes _ _ _ bracket c.in_ok-count.ensures.ok c.in_ok-behind.ensures.ok.1
    (stands c.in_ok-behind.behind c.next-next.result s.Byte c.next-next.ensures c.in-Byte.is refl) c.fixed_array.ensures

pub returns-in-Word-clause-ok : goal.returns-in-Word-clause-ok
returns-in-Word-clause-ok c =
    λ all at bracket.
    words _ _ _ bracket c.in_ok-count.ensures.ok c.in_ok-behind.ensures.ok.1
    (stands c.in_ok-behind.behind c.next-next.result s.Word c.next-next.ensures c.in-Word.is refl) c.fixed_array-in-Word.ensures

pub returns-in-OpenBracket-clause-ok : goal.returns-in-OpenBracket-clause-ok
returns-in-OpenBracket-clause-ok c =
    IfOk-weaker c.bit_array.result _ _
    (λ read h all at bracket.
    vectors _ _ _ _ _ _ bracket c.in_ok-count.ensures.ok c.in_ok-behind.ensures.ok.1
    (stands c.in_ok-behind.behind c.next-next.result s.OpenBracket c.next-next.ensures c.in-OpenBracket.is refl) h.width_read h.close_passed.1 h.bit_passed.1 h.tree_is)
    c.bit_array.ensures.ok

pub returns-in_err-behind-clause-whole : goal.returns-in_err-behind-clause-whole
returns-in_err-behind-clause-whole c = λ t rest h k. absurd (c.in_err-behind.ensures.whole h.behind (shape_close h c.in_ok-count.ensures.whole))

pub returns-in-Bit-clause-whole : goal.returns-in-Bit-clause-whole
returns-in-Bit-clause-whole c = λ t rest h k. end_bits (shape_ends h c.in_ok-count.ensures.whole c.in_ok-behind.ensures.whole) (stands c.in_ok-behind.behind c.next-next.result s.Bit c.next-next.ensures c.in-Bit.is refl)

pub returns-in-Byte-clause-whole : goal.returns-in-Byte-clause-whole
returns-in-Byte-clause-whole c =
    λ t rest h k. let same = end_bytes (shape_ends h c.in_ok-count.ensures.whole c.in_ok-behind.ensures.whole) (stands c.in_ok-behind.behind c.next-next.result s.Byte c.next-next.ensures c.in-Byte.is refl) in (c.fixed_array.ensures ∙ same.0, same.1)

pub returns-in-Word-clause-whole : goal.returns-in-Word-clause-whole
returns-in-Word-clause-whole c =
    λ t rest h k. let same = end_words (shape_ends h c.in_ok-count.ensures.whole c.in_ok-behind.ensures.whole) (stands c.in_ok-behind.behind c.next-next.result s.Word c.next-next.ensures c.in-Word.is refl) in (c.fixed_array-in-Word.ensures ∙ same.0, same.1)

pub returns-in-OpenBracket-clause-whole : goal.returns-in-OpenBracket-clause-whole
returns-in-OpenBracket-clause-whole c = λ t rest h k. c.bit_array.ensures.whole t rest (end_vectors (shape_ends h c.in_ok-count.ensures.whole c.in_ok-behind.ensures.whole) (stands c.in_ok-behind.behind c.next-next.result s.OpenBracket c.next-next.ensures c.in-OpenBracket.is refl)) tt

pub returns-in_default-clause-whole : goal.returns-in_default-clause-whole
returns-in_default-clause-whole c =
    λ t rest h k.
    absurd (end_none c.next-next.result c.next-next.ensures c.in_default.not-Bit c.in_default.not-Byte c.in_default.not-Word c.in_default.not-OpenBracket (shape_ends h c.in_ok-count.ensures.whole c.in_ok-behind.ensures.whole))

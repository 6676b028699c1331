use Rattle.lola_parse.proofs.Shaped.{vectors_close, vectors_bit}
use Rattle.lola_parse.proofs.shapes.bit_array.Goals as goal

pub returns-in_err-behind_close_bracket-clause-whole : goal.returns-in_err-behind_close_bracket-clause-whole
returns-in_err-behind_close_bracket-clause-whole c =
    λ t rest h k. absurd (c.in_err-behind_close_bracket.ensures.whole h.behind (vectors_close h c.in_ok-width.ensures.whole))

pub returns-in_err-behind-clause-whole : goal.returns-in_err-behind-clause-whole
returns-in_err-behind-clause-whole c =
    λ t rest h k. absurd (c.in_err-behind.ensures.whole rest (vectors_bit h c.in_ok-width.ensures.whole c.in_ok-behind_close_bracket.ensures.whole))

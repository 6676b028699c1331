use Rattle.std.proofs.Common.{Some, refl, sym, ◌∙◌}
use Rattle.lola_parse.specs.declared.symbol.Symbol.TheVariants as s
use Rattle.tab_parse.specs.Grammar.{no_expr, one_expr}
use Rattle.tab_parse.proofs.Exits.{want}
use Rattle.tab_parse.proofs.Fronts.{stands_next}
use Rattle.tab_parse.proofs.Parts.{byte_there}
use Rattle.tab_parse.proofs.phases.take_byte.Goals as goal

pub returns-in_err-expr-in-Byte-clause-whole : goal.returns-in_err-expr-in-Byte-clause-whole
returns-in_err-expr-in-Byte-clause-whole c =
    λ e rest h ends.
    let p = byte_there h ends.no_byte (c.next-next.result.at, stands_next c.args.here c.next-next.result s.Byte c.next-next.ensures c.in-Byte.is (λ p. cc)) in
    want _ _ _ c.from_residual.result _ c.from_residual.ensures.1 (c.in_err-expr-in-Byte.ensures.whole p.value rest p.read ends.stops)

pub returns-in_ok-expr-in-Byte-clause-ok : goal.returns-in_ok-expr-in-Byte-clause-ok
returns-in_ok-expr-in-Byte-clause-ok c =
    one_expr _ _ (c.next-next.result.at, stands_next c.args.here c.next-next.result s.Byte c.next-next.ensures c.in-Byte.is (λ p. cc)) c.in_ok-expr-in-Byte.ensures.ok refl

pub returns-in_ok-expr-in-Byte-clause-whole : goal.returns-in_ok-expr-in-Byte-clause-whole
returns-in_ok-expr-in-Byte-clause-whole c =
    λ e rest h ends.
    let p = byte_there h ends.no_byte (c.next-next.result.at, stands_next c.args.here c.next-next.result s.Byte c.next-next.ensures c.in-Byte.is (λ p. cc)) in
    let s0 = c.in_ok-expr-in-Byte.ensures.whole p.value rest p.read ends.stops in
    ((λ i. Some (s0.0 i)) ∙ sym p.is, s0.1)

pub returns-in_default-clause-ok : goal.returns-in_default-clause-ok
returns-in_default-clause-ok c = no_expr refl refl

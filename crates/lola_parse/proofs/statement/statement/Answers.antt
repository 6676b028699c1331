use Rattle.std.proofs.Common.{refl}
use Rattle.std.proofs.lemmas.Result.{IfOk-weaker}
use Rattle.lola_parse.specs.declared.symbol.Symbol.TheVariants as s
use Rattle.lola_parse.specs.Behind.{NamedStatement}
use Rattle.lola_parse.proofs.Fronts.{stands}
use Rattle.lola_parse.specs.Design.{driven}
use Rattle.lola_parse.proofs.Statements.{statement_pad, statement_name}
use Rattle.lola_parse.proofs.Whole.{handed_on, not_front}
use Rattle.lola_parse.proofs.Steps.{was_read, by_read}
use Rattle.lola_parse.proofs.Suffix.{past, past_name}
use Rattle.lola_parse.proofs.Endings.{long_in}
use Rattle.lola_parse.proofs.statement.statement.Goals as goal

pub returns-in-Ts-clause-ok : goal.returns-in-Ts-clause-ok
returns-in-Ts-clause-ok c =
    IfOk-weaker c.pad.result _ _
    (λ read h.
    driven {io = h.io} {inner = h.inner} _ _ _ _ _ _ _ _ _ (stands c.args.here c.next-next.result s.Ts c.next-next.ensures c.in-Ts.is refl) h.open_passed.1 h.io_read h.comma_passed.1 h.inner_read
    h.comma2_passed.1 h.value_read h.comma3_passed.1 h.release_read h.close_passed.1 h.tree_is)
    c.pad.ensures.ok

pub returns-in-Ts-clause-whole : goal.returns-in-Ts-clause-whole
returns-in-Ts-clause-whole c = λ t rest read ends. c.pad.ensures.whole t rest (statement_pad read (stands c.args.here c.next-next.result s.Ts c.next-next.ensures c.in-Ts.is refl)) tt

pub returns-in_err-target-in_default-clause-whole : goal.returns-in_err-target-in_default-clause-whole
returns-in_err-target-in_default-clause-whole c = λ t rest read ends. handed_on _ _ rest _ _ c.from_residual.ensures.1 (by_read (statement_name read (not_front c.args.here c.next-next.result c.next-next.ensures c.in_default.not-Ts)) c.in_err-target-in_default.ensures.whole)

pub returns-in_ok-target-in_default-clause-whole : goal.returns-in_ok-target-in_default-clause-whole
returns-in_ok-target-in_default-clause-whole c = λ t rest read ends. c.named_statement.ensures.whole t rest (was_read (λ n mid. NamedStatement n.name n.at mid t rest) (statement_name read (not_front c.args.here c.next-next.result c.next-next.ensures c.in_default.not-Ts)) c.in_ok-target-in_default.ensures.whole) ends

pub returns-in-Ts-clause-long : goal.returns-in-Ts-clause-long
returns-in-Ts-clause-long c =
    long_in c.pad.result (past (stands c.args.here c.next-next.result s.Ts c.next-next.ensures c.in-Ts.is refl)) c.pad.ensures.long

pub returns-in_ok-target-in_default-clause-long : goal.returns-in_ok-target-in_default-clause-long
returns-in_ok-target-in_default-clause-long c =
    long_in c.named_statement.result (past_name c.in_ok-target-in_default.ensures.ok) c.named_statement.ensures.long

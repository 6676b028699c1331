use Rattle.std.proofs.Common.{refl}
use Rattle.std.proofs.lemmas.Result.{IfOk-weaker}
use Rattle.lola_parse.specs.declared.symbol.Symbol.TheVariants as s
use Rattle.lola_parse.proofs.Fronts.{stands}
use Rattle.lola_parse.specs.Design.{assigned, placed, called}
use Rattle.lola_parse.proofs.Statements.{named_value, named_place, named_arguments, named_none}
use Rattle.lola_parse.proofs.Whole.{not_front}
use Rattle.lola_parse.proofs.Suffix.{past}
use Rattle.lola_parse.proofs.Endings.{long_in}
use Rattle.lola_parse.proofs.statement.named_statement.Goals as goal

pub returns-in-Assign-clause-ok : goal.returns-in-Assign-clause-ok
returns-in-Assign-clause-ok c =
    IfOk-weaker c.assigned.result _ _ (λ read h all name. assigned _ _ name (stands c.args.here c.next-next.result s.Assign c.next-next.ensures c.in-Assign.is refl) h.value_read h.tree_is)
    c.assigned.ensures.ok

pub returns-in-OpenBracket-clause-ok : goal.returns-in-OpenBracket-clause-ok
returns-in-OpenBracket-clause-ok c =
    IfOk-weaker c.placed.result _ _
    (λ read h all name.
    placed _ _ _ _ _ name (stands c.args.here c.next-next.result s.OpenBracket c.next-next.ensures c.in-OpenBracket.is refl) h.place_read h.close_passed.1 h.sign_passed h.value_read h.tree_is)
    c.placed.ensures.ok

pub returns-in-OpenParen-clause-ok : goal.returns-in-OpenParen-clause-ok
returns-in-OpenParen-clause-ok c =
    IfOk-weaker c.called.result _ _
    (λ read h all name.
    called _ _ _ _ name (stands c.args.here c.next-next.result s.OpenParen c.next-next.ensures c.in-OpenParen.is refl) h.args_read.first_read h.args_read.more_read h.close_passed.1 h.tree_is)
    c.called.ensures.ok

pub returns-in-Assign-clause-whole : goal.returns-in-Assign-clause-whole
returns-in-Assign-clause-whole c = λ t rest read ends. c.assigned.ensures.whole t rest (named_value read (stands c.args.here c.next-next.result s.Assign c.next-next.ensures c.in-Assign.is refl)) ends

pub returns-in-OpenBracket-clause-whole : goal.returns-in-OpenBracket-clause-whole
returns-in-OpenBracket-clause-whole c = λ t rest read ends. c.placed.ensures.whole t rest (named_place read (stands c.args.here c.next-next.result s.OpenBracket c.next-next.ensures c.in-OpenBracket.is refl)) ends

pub returns-in-OpenParen-clause-whole : goal.returns-in-OpenParen-clause-whole
returns-in-OpenParen-clause-whole c = λ t rest read ends. c.called.ensures.whole t rest (named_arguments read (stands c.args.here c.next-next.result s.OpenParen c.next-next.ensures c.in-OpenParen.is refl)) tt

pub returns-in_default-clause-whole : goal.returns-in_default-clause-whole
returns-in_default-clause-whole c = λ t rest read ends. absurd (named_none read (not_front c.args.here c.next-next.result c.next-next.ensures c.in_default.not-Assign) (not_front c.args.here c.next-next.result c.next-next.ensures c.in_default.not-OpenBracket) (not_front c.args.here c.next-next.result c.next-next.ensures c.in_default.not-OpenParen))

pub returns-in-Assign-clause-long : goal.returns-in-Assign-clause-long
returns-in-Assign-clause-long c =
    long_in c.assigned.result (past (stands c.args.here c.next-next.result s.Assign c.next-next.ensures c.in-Assign.is refl)) c.assigned.ensures.long

pub returns-in-OpenBracket-clause-long : goal.returns-in-OpenBracket-clause-long
returns-in-OpenBracket-clause-long c =
    long_in c.placed.result (past (stands c.args.here c.next-next.result s.OpenBracket c.next-next.ensures c.in-OpenBracket.is refl)) c.placed.ensures.long

pub returns-in-OpenParen-clause-long : goal.returns-in-OpenParen-clause-long
returns-in-OpenParen-clause-long c =
    long_in c.called.result (past (stands c.args.here c.next-next.result s.OpenParen c.next-next.ensures c.in-OpenParen.is refl)) c.called.ensures.long

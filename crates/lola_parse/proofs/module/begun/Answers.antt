use Rattle.std.proofs.Common.{map, refl, ap, ◌∙◌, arith}
use Rattle.std.proofs.lemmas.Result.{IfOk-weaker}
use Rattle.lola_parse.specs.declared.symbol.Symbol.TheVariants as s
use Rattle.lola_parse.proofs.Fronts.{stands}
use Rattle.lola_parse.specs.Design.{no_body, begun}
use Rattle.lola_tree.specs.Tree.{stmt_tree}
use Rattle.lola_parse.proofs.Whole.{not_front}
use Rattle.lola_parse.proofs.Modules.{begun_none}
use Rattle.lola_parse.proofs.Suffix.{past}
use Rattle.lola_parse.proofs.Endings.{long_in}
use Rattle.lola_parse.proofs.module.begun.Goals as goal

pub returns-in-Begin-clause-ok : goal.returns-in-Begin-clause-ok
returns-in-Begin-clause-ok c =
    IfOk-weaker c.body.result _ _ (λ read h. begun _ (stands c.args.here c.next-next.result s.Begin c.next-next.ensures c.in-Begin.is refl) h) c.body.ensures.ok

pub returns-in_default-clause-shorter : goal.returns-in_default-clause-shorter
returns-in_default-clause-shorter c = omega arith

pub returns-in_default-clause-ok : goal.returns-in_default-clause-ok
returns-in_default-clause-ok c = no_body (ap (map stmt_tree) c.new.ensures.items) refl

pub returns-in_default-clause-whole : goal.returns-in_default-clause-whole
returns-in_default-clause-whole c = λ body rest read ends. let same = begun_none read (not_front c.args.here c.next-next.result c.next-next.ensures c.in_default.not-Begin) in (ap (map stmt_tree) c.new.ensures.items ∙ same.0, same.1)

pub returns-in-Begin-clause-long : goal.returns-in-Begin-clause-long
returns-in-Begin-clause-long c =
    long_in c.body.result (past (stands c.args.here c.next-next.result s.Begin c.next-next.ensures c.in-Begin.is refl)) c.body.ensures.long

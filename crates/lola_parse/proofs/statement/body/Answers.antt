use Rattle.std.proofs.Common.{map, refl, sym, ap, subst, arith}
use Rattle.lola_parse.specs.declared.symbol.Symbol.TheVariants as s
use Rattle.lola_parse.proofs.Fronts.{stands, Stands-shorter}
use Rattle.lola_tree.specs.Tree.{stmt_tree}
use Rattle.lola_parse.specs.Design.{Optional, statements, no_statement, next_statement}
use Rattle.lola_parse.proofs.Whole.{handed_on, not_front}
use Rattle.lola_parse.proofs.Steps.{was_read, by_read}
use Rattle.lola_parse.specs.Design.{MoreStatements}
use Rattle.lola_parse.specs.MayEnd.{Sole, StatementEnds}
use Rattle.lola_parse.proofs.Statements.{body_step, more_statements_step, more_statements_over}
use Rattle.lola_parse.proofs.Suffix.{past, ◌then◌}
use Rattle.lola_parse.proofs.Endings.{body_ends, long_on}
use Rattle.lola_parse.proofs.statement.body.Goals as goal

pub body-init : goal.body-init
body-init c =
    record {
      shorter = c.in_ok-body.ensures.shorter;
      whole = λ body rest read ends.
          was_read (λ longer mid. MoreStatements longer mid body rest) (body_step read ends)
          (subst (λ b. Sole (Optional b c.args.here) StatementEnds (map stmt_tree c.in_ok-body.body.items) c.in_ok-body.behind)
          (ap (map stmt_tree) c.new.ensures.items) c.in_ok-body.ensures.whole);
      reads = λ body rest more.
          statements _
          (subst (λ b. Optional b c.args.here (map stmt_tree c.in_ok-body.body.items) c.in_ok-body.behind) (ap (map stmt_tree) c.new.ensures.items) c.in_ok-body.ensures.ok)
          more;
    }

pub body-preserved : goal.body-preserved
body-preserved c =
    let semicolon = (stands c.body.behind c.next-next.result s.Semicolon c.next-next.ensures c.in-Semicolon.is refl) in
    let before = c.body.invariant.shorter in
    let passed = Stands-shorter semicolon in
    let now = c.in_ok-longer-in-Semicolon.ensures.shorter in
    record {
      shorter = omega arith;
      whole = λ body rest read ends.
          was_read (λ longer mid. MoreStatements longer mid body rest) (more_statements_step (c.body.invariant.whole body rest read ends) ends semicolon)
          c.in_ok-longer-in-Semicolon.ensures.whole;
      reads = λ body rest more. c.body.invariant.reads body rest (next_statement _ _ semicolon c.in_ok-longer-in-Semicolon.ensures.ok more);
    }

pub returns-in_default-clause-shorter : goal.returns-in_default-clause-shorter
returns-in_default-clause-shorter c = c.body.invariant.shorter

pub returns-in_default-clause-ok : goal.returns-in_default-clause-ok
returns-in_default-clause-ok c = c.body.invariant.reads _ _ (no_statement refl refl)

pub returns-in_err-body-clause-whole : goal.returns-in_err-body-clause-whole
returns-in_err-body-clause-whole c = λ body rest read ends.
    let w = body_step read ends in
    handed_on _ _ rest _ _ c.from_residual.ensures.1
    (c.in_err-body.ensures.whole w.0 w.1 (subst (λ b. Optional b c.args.here w.0 w.1) (sym (ap (map stmt_tree) c.new.ensures.items)) w.2) w.3)

pub returns-in_err-longer-in-Semicolon-clause-whole : goal.returns-in_err-longer-in-Semicolon-clause-whole
returns-in_err-longer-in-Semicolon-clause-whole c = λ body rest read ends. let w = more_statements_step (c.body.invariant.whole body rest read ends) ends (stands c.body.behind c.next-next.result s.Semicolon c.next-next.ensures c.in-Semicolon.is refl) in handed_on _ _ rest _ _ c.from_residual-in_err-longer-in-Semicolon.ensures.1 (by_read w c.in_err-longer-in-Semicolon.ensures.whole)

pub returns-in_default-clause-whole : goal.returns-in_default-clause-whole
returns-in_default-clause-whole c = λ body rest read ends. more_statements_over (c.body.invariant.whole body rest read ends) (not_front c.body.behind c.next-next.result c.next-next.ensures c.in_default.not-Semicolon)

pub returns-in_err-longer-in-Semicolon-clause-long : goal.returns-in_err-longer-in-Semicolon-clause-long
returns-in_err-longer-in-Semicolon-clause-long c =
    long_on _ _
    (body_ends (c.body.invariant.reads _ _ (no_statement refl refl)) then
    past (stands c.body.behind c.next-next.result s.Semicolon c.next-next.ensures c.in-Semicolon.is refl))
    c.from_residual-in_err-longer-in-Semicolon.ensures.1 c.in_err-longer-in-Semicolon.ensures.long

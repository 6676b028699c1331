use Rattle.std.proofs.Common.{[], ◌∷◌, ◌++◌, ◌≡◌, map, refl, ◌∙◌, arith}
use Rattle.lola_bits.proofs.Places.{map_more}
use Rattle.lola_tree.specs.Tree.{stmt_tree}
use Rattle.lola_parse.specs.Design.{empty, one_statement}
use Rattle.lola_parse.proofs.Statements.{optional_statement, optional_none, front_in}
use Rattle.lola_parse.proofs.Whole.{handed_on, next_front, not_front}
use Rattle.lola_parse.proofs.Steps.{was_read, by_read}
use Rattle.lola_parse.proofs.statement.with_statement.Goals as goal

pub returns-in_ok-push-in-Name-clause-ok : goal.returns-in_ok-push-in-Name-clause-ok
returns-in_ok-push-in-Name-clause-ok c =
    one_statement (stmt_tree c.in_ok-stmt-in-Name.stmt) c.in_ok-stmt-in-Name.ensures.ok
    (map_more stmt_tree c.args.body.items _ c.in_ok-stmt-in-Name.stmt c.in_ok-push-in-Name.ensures.items)

pub returns-in_default-clause-shorter : goal.returns-in_default-clause-shorter
returns-in_default-clause-shorter c = omega arith

pub returns-in_default-clause-ok : goal.returns-in_default-clause-ok
returns-in_default-clause-ok c = empty refl refl

pub returns-in_ok-push-in-Name-clause-whole : goal.returns-in_ok-push-in-Name-clause-whole
returns-in_ok-push-in-Name-clause-whole c = λ body rest read ends. let w = optional_statement read ends (front_in (next_front c.args.here c.next.result c.next.ensures) c.in-Name.is) in let same = was_read (λ t mid. (mid ≡ rest) × (map stmt_tree c.args.body.items ++ t ∷ [] ≡ body)) w c.in_ok-stmt-in-Name.ensures.whole in (map_more stmt_tree c.args.body.items _ c.in_ok-stmt-in-Name.stmt c.in_ok-push-in-Name.ensures.items ∙ same.1, same.0)

pub returns-in_default-clause-whole : goal.returns-in_default-clause-whole
returns-in_default-clause-whole c = λ body rest read ends. optional_none read (not_front c.args.here c.next.result c.next.ensures c.in_default.not-Name) (not_front c.args.here c.next.result c.next.ensures c.in_default.not-Ts)

pub returns-in_err-stmt-in-Name-clause-whole : goal.returns-in_err-stmt-in-Name-clause-whole
returns-in_err-stmt-in-Name-clause-whole c =
    λ body rest read ends.
    handed_on _ _ rest _ _ c.from_residual.ensures.1
    (by_read (optional_statement read ends (front_in (next_front c.args.here c.next.result c.next.ensures) c.in-Name.is)) c.in_err-stmt-in-Name.ensures.whole)

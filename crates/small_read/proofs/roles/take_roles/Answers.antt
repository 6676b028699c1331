use Rattle.std.proofs.Common.{refl, arith}
use Rattle.small_read.specs.Grammar.{no_role, one_role}
use Rattle.small_read.proofs.Chains.{roles_next, roles_end, roles_on}
use Rattle.small_read.proofs.Exits.{want}
use Rattle.small_read.proofs.roles.take_roles.Goals as goal

pub roles-preserved : goal.roles-preserved
roles-preserved c =
    let before = c.roles.invariant.shorter in
    let now = c.in_ok-more.ensures.shorter in
    record {
      shorter = omega arith;
      reads = λ roles rest more. c.roles.invariant.reads roles rest (one_role _ c.in_ok-more.ensures.ok more);
      whole = λ roles rest more lacks.
          let n = roles_next (c.roles.invariant.whole roles rest more lacks) lacks (c.is_at_role.ensures.yes c.roles-test.true) in
          roles_on n (c.in_ok-more.ensures.whole n.longer n.behind n.role_read);
    }

pub returns-in_err-more-clause-whole : goal.returns-in_err-more-clause-whole
returns-in_err-more-clause-whole c =
    λ roles rest more lacks.
    let n = roles_next (c.roles.invariant.whole roles rest more lacks) lacks (c.is_at_role.ensures.yes c.roles-test.true) in
    want _ _ _ c.from_residual.result _ c.from_residual.ensures.1 (c.in_err-more.ensures.whole n.longer n.behind n.role_read)

pub returns-clause-shorter : goal.returns-clause-shorter
returns-clause-shorter c = c.roles.invariant.shorter

pub returns-clause-ok : goal.returns-clause-ok
returns-clause-ok c = c.roles.invariant.reads _ _ (no_role refl refl)

pub returns-clause-whole : goal.returns-clause-whole
returns-clause-whole c = λ roles rest more lacks. roles_end (c.roles.invariant.whole roles rest more lacks) (c.is_at_role.ensures.no c.roles-test.false)

use Rattle.std.proofs.Common.{[], ◌∷◌, ◌++◌, refl, sym, ◌∙◌, subst, arith}
use Rattle.lola_parse.specs.Design.{MoreConstants, no_constant, one_constant}
use Rattle.lola_parse.proofs.Whole.{handed_on, next_front, not_front}
use Rattle.lola_parse.proofs.Steps.{was_read, by_read}
use Rattle.lola_parse.proofs.Modules.{more_constants_step, more_constants_over}
use Rattle.lola_parse.proofs.module.constants.Goals as goal

pub consts-preserved : goal.consts-preserved
consts-preserved c =
    let before = c.consts.invariant.shorter in
    let now = c.in_ok-next-in-Name.ensures.shorter in
    record {
      shorter = omega arith;
      whole = λ consts rest d ends.
          subst (λ cs. MoreConstants cs c.in_ok-next-in-Name.rest consts rest) (sym c.in_ok-push-in-Name.ensures.items)
          (was_read (λ k mid. MoreConstants (c.consts.consts.items ++ k ∷ []) mid consts rest)
          (more_constants_step (c.consts.invariant.whole consts rest d ends) ends (next_front c.consts.behind c.next.result c.next.ensures ∙ c.in-Name.is)) c.in_ok-next-in-Name.ensures.whole);
      reads = λ consts rest more.
          c.consts.invariant.reads consts rest
          (one_constant _ c.in_ok-next-in-Name.ensures.ok
          (subst (λ cs. MoreConstants cs c.in_ok-next-in-Name.rest consts rest) c.in_ok-push-in-Name.ensures.items more));
    }

pub returns-in_default-clause-shorter : goal.returns-in_default-clause-shorter
returns-in_default-clause-shorter c = c.consts.invariant.shorter

pub returns-in_default-clause-ok : goal.returns-in_default-clause-ok
returns-in_default-clause-ok c = c.consts.invariant.reads _ _ (no_constant refl refl)

pub returns-in_err-next-in-Name-clause-whole : goal.returns-in_err-next-in-Name-clause-whole
returns-in_err-next-in-Name-clause-whole c = λ consts rest d ends. handed_on _ _ rest _ _ c.from_residual.ensures.1 (by_read (more_constants_step (c.consts.invariant.whole consts rest d ends) ends (next_front c.consts.behind c.next.result c.next.ensures ∙ c.in-Name.is)) c.in_err-next-in-Name.ensures.whole)

pub returns-in_default-clause-whole : goal.returns-in_default-clause-whole
returns-in_default-clause-whole c = λ consts rest d ends. more_constants_over (c.consts.invariant.whole consts rest d ends) (not_front c.consts.behind c.next.result c.next.ensures c.in_default.not-Name)

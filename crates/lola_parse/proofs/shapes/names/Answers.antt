use Rattle.std.proofs.Common.{[], ◌∷◌, ◌++◌, refl, sym, ap, subst, ◌∙◌, arith}
use Rattle.lola_parse.specs.declared.symbol.Symbol.TheVariants as s
use Rattle.lola_parse.proofs.Fronts.{stands, Stands-shorter}
use Rattle.lola_parse.specs.Design.{MoreNames, no_name, one_name, name_list}
use Rattle.lola_parse.proofs.Whole.{handed_on, not_front}
use Rattle.lola_parse.proofs.Steps.{was_read, by_read}
use Rattle.lola_parse.proofs.Statements.{names_step, more_names_step, more_names_over}
use Rattle.lola_parse.proofs.shapes.names.Goals as goal

pub names-init : goal.names-init
names-init c =
    record {
      shorter = c.in_ok-first.ensures.shorter;
      whole = λ names rest read ends.
          subst (λ ns. MoreNames ns c.in_ok-first.behind names rest)
          (sym (c.in_ok-push.ensures.items ∙ ap (λ v. v ++ c.in_ok-first.first ∷ []) c.new-names.ensures.items))
          (was_read (λ n mid. MoreNames (n ∷ []) mid names rest) (names_step read) c.in_ok-first.ensures.whole);
      reads = λ names rest more.
          name_list {n = c.in_ok-first.first} _ c.in_ok-first.ensures.ok
          (subst (λ ns. MoreNames ns c.in_ok-first.behind names rest)
          (c.in_ok-push.ensures.items ∙ ap (λ v. v ++ c.in_ok-first.first ∷ []) c.new-names.ensures.items) more);
    }

pub names-preserved : goal.names-preserved
names-preserved c =
    let comma = stands c.names.behind c.next-next.result s.Comma c.next-next.ensures c.in-Comma.is refl in
    let before = c.names.invariant.shorter in
    let passed = Stands-shorter comma in
    let now = c.in_ok-named-in-Comma.ensures.shorter in
    record {
      shorter = omega arith;
      whole = λ names rest read ends.
          subst (λ ns. MoreNames ns c.in_ok-named-in-Comma.rest names rest) (sym c.in_ok-push-in-Comma.ensures.items)
          (was_read (λ n mid. MoreNames (c.names.names.items ++ n ∷ []) mid names rest)
          (more_names_step (c.names.invariant.whole names rest read ends) ends comma) c.in_ok-named-in-Comma.ensures.whole);
      reads = λ names rest more.
          c.names.invariant.reads names rest
          (one_name {n = c.in_ok-named-in-Comma.named} _ _ comma c.in_ok-named-in-Comma.ensures.ok
          (subst (λ ns. MoreNames ns c.in_ok-named-in-Comma.rest names rest) c.in_ok-push-in-Comma.ensures.items more));
    }

pub returns-in_default-clause-shorter : goal.returns-in_default-clause-shorter
returns-in_default-clause-shorter c = c.names.invariant.shorter

pub returns-in_default-clause-ok : goal.returns-in_default-clause-ok
returns-in_default-clause-ok c = c.names.invariant.reads _ _ (no_name refl refl)

pub returns-in_err-first-clause-whole : goal.returns-in_err-first-clause-whole
returns-in_err-first-clause-whole c = λ names rest read ends. handed_on _ _ rest _ _ c.from_residual.ensures.1 (by_read (names_step read) c.in_err-first.ensures.whole)

pub returns-in_err-named-in-Comma-clause-whole : goal.returns-in_err-named-in-Comma-clause-whole
returns-in_err-named-in-Comma-clause-whole c = λ names rest read ends. let w = more_names_step (c.names.invariant.whole names rest read ends) ends (stands c.names.behind c.next-next.result s.Comma c.next-next.ensures c.in-Comma.is refl) in handed_on _ _ rest _ _ c.from_residual-in_err-named-in-Comma.ensures.1 (by_read w c.in_err-named-in-Comma.ensures.whole)

pub returns-in_default-clause-whole : goal.returns-in_default-clause-whole
returns-in_default-clause-whole c = λ names rest read ends. more_names_over (c.names.invariant.whole names rest read ends) (not_front c.names.behind c.next-next.result c.next-next.ensures c.in_default.not-Comma)

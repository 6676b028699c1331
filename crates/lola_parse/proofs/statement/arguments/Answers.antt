use Rattle.std.proofs.Common.{[], ◌∷◌, ◌++◌, map, refl, sym, ap, subst, ◌∙◌, arith}
use Rattle.lola_parse.specs.declared.symbol.Symbol.TheVariants as s
use Rattle.lola_parse.proofs.Fronts.{stands, Stands-shorter}
use Rattle.lola_bits.proofs.Places.{map_more}
use Rattle.lola_tree.specs.Tree.{actual_tree}
use Rattle.lola_parse.specs.Design.{MoreArguments, no_argument, one_argument}
use Rattle.lola_parse.proofs.Whole.{handed_on, not_front}
use Rattle.lola_parse.proofs.Steps.{was_read, by_read}
use Rattle.lola_parse.proofs.Statements.{arguments_step, more_arguments_step, more_arguments_over}
use Rattle.lola_parse.proofs.Suffix.{past, ◌then◌}
use Rattle.lola_parse.proofs.Endings.{arguments_behind_ends, long_on}
use Rattle.lola_parse.proofs.statement.arguments.Goals as goal

pub more-init : goal.more-init
more-init c =
    let items = ap (map actual_tree) (c.in_ok-push.ensures.items ∙ ap (λ v. v ++ c.in_ok-first.first ∷ []) c.new-args.ensures.items) in
    record {
      shorter = c.in_ok-first.ensures.shorter;
      whole = λ args rest read ends.
          subst (λ xs. MoreArguments xs c.in_ok-first.behind args rest) (sym items)
          (was_read (λ a mid. MoreArguments (a ∷ []) mid args rest) (arguments_step read ends) c.in_ok-first.ensures.whole);
      reads = λ args rest more.
          record {
            first = actual_tree c.in_ok-first.first;
            behind = c.in_ok-first.behind;
            first_read = c.in_ok-first.ensures.ok;
            more_read = subst (λ xs. MoreArguments xs c.in_ok-first.behind args rest) items more;
          };
    }

pub more-preserved : goal.more-preserved
more-preserved c =
    let comma = (stands c.more.behind c.next-next.result s.Comma c.next-next.ensures c.in-Comma.is refl) in
    let before = c.more.invariant.shorter in
    let passed = Stands-shorter comma in
    let now = c.in_ok-arg-in-Comma.ensures.shorter in
    record {
      shorter = omega arith;
      whole = λ args rest read ends.
          subst (λ xs. MoreArguments xs c.in_ok-arg-in-Comma.rest args rest)
          (sym (map_more actual_tree c.more.args.items _ c.in_ok-arg-in-Comma.arg c.in_ok-push-in-Comma.ensures.items))
          (was_read (λ a mid. MoreArguments (map actual_tree c.more.args.items ++ a ∷ []) mid args rest)
          (more_arguments_step (c.more.invariant.whole args rest read ends) ends comma) c.in_ok-arg-in-Comma.ensures.whole);
      reads = λ args rest more.
          c.more.invariant.reads args rest
          (one_argument _ _ comma c.in_ok-arg-in-Comma.ensures.ok
          (subst (λ xs. MoreArguments xs c.in_ok-arg-in-Comma.rest args rest)
          (map_more actual_tree c.more.args.items _ c.in_ok-arg-in-Comma.arg c.in_ok-push-in-Comma.ensures.items) more));
    }

pub returns-in_default-clause-shorter : goal.returns-in_default-clause-shorter
returns-in_default-clause-shorter c = c.more.invariant.shorter

pub returns-in_default-clause-ok : goal.returns-in_default-clause-ok
returns-in_default-clause-ok c = c.more.invariant.reads _ _ (no_argument refl refl)

pub returns-in_err-first-clause-whole : goal.returns-in_err-first-clause-whole
returns-in_err-first-clause-whole c = λ args rest read ends. handed_on _ _ rest _ _ c.from_residual.ensures.1 (by_read (arguments_step read ends) c.in_err-first.ensures.whole)

pub returns-in_err-arg-in-Comma-clause-whole : goal.returns-in_err-arg-in-Comma-clause-whole
returns-in_err-arg-in-Comma-clause-whole c = λ args rest read ends. let w = more_arguments_step (c.more.invariant.whole args rest read ends) ends (stands c.more.behind c.next-next.result s.Comma c.next-next.ensures c.in-Comma.is refl) in handed_on _ _ rest _ _ c.from_residual-in_err-arg-in-Comma.ensures.1 (by_read w c.in_err-arg-in-Comma.ensures.whole)

pub returns-in_default-clause-whole : goal.returns-in_default-clause-whole
returns-in_default-clause-whole c = λ args rest read ends. more_arguments_over (c.more.invariant.whole args rest read ends) (not_front c.more.behind c.next-next.result c.next-next.ensures c.in_default.not-Comma)

pub returns-in_err-arg-in-Comma-clause-long : goal.returns-in_err-arg-in-Comma-clause-long
returns-in_err-arg-in-Comma-clause-long c =
    long_on _ _
    (arguments_behind_ends (c.more.invariant.reads _ _ (no_argument refl refl)) then
    past (stands c.more.behind c.next-next.result s.Comma c.next-next.ensures c.in-Comma.is refl))
    c.from_residual-in_err-arg-in-Comma.ensures.1 c.in_err-arg-in-Comma.ensures.long

use Rattle.std.proofs.Common.{◌≡◌, ◌++◌, ℕ, List, [], length, map, refl, sym, ap, ap₂, subst, ◌∙◌}
use Rattle.std.specs.Prelude.{Result, Ok, Err, IfOk}
use Rattle.lola_alg.specs.Algebra.{Answers}
use Rattle.lola_flat.specs.Tree.{flat_tree}
use Rattle.lola_flat.specs.Value.{Env, env, mapped}
use Rattle.lola_eval.specs.Means.{EnvKnown, numbers}
use Rattle.lola_lanes.specs.Lanes.{lane_meaning}
use Rattle.lola_checks.specs.Tree.{check_tree}
use Rattle.lola_checks.specs.Holds.{violated}
use Rattle.lola_checks.specs.Suits.{CheckSuits}
use Rattle.lola_asked.proofs.Blocks.{is_violated_word}
use Rattle.lola_asked.proofs.block.violated_word.Goals as goal

pub check_word-requires-clause-suits : goal.check_word-requires-clause-suits
check_word-requires-clause-suits c =
    let is : env c.as_slice.result.now c.as_slice-2.result.now ≡ env c.in_ok-words.words.signals.items c.in_ok-words.words.outside.items = ap₂ env c.as_slice.ensures.value c.as_slice-2.ensures.value in
    subst (λ (W : Env ℕ). CheckSuits W (check_tree c.args.check.now)) (sym (ap (mapped length) is ∙ c.in_ok-words.ensures.widths)) c.requires.check

pub check_word-requires-clause-known : goal.check_word-requires-clause-known
check_word-requires-clause-known c =
    let is : env c.as_slice.result.now c.as_slice-2.result.now ≡ env c.in_ok-words.words.signals.items c.in_ok-words.words.outside.items = ap₂ env c.as_slice.ensures.value c.as_slice-2.ensures.value in
    subst (EnvKnown lane_meaning tt) (sym is) c.in_ok-words.ensures.known

if_ok : {X F : Type 0} {P Q : X → Type 0} (r : Result X F) → ((x : X) → P x → Q x) → IfOk r P → IfOk r Q
if_ok (Ok x) f p = f x p
if_ok (Err e) f p = tt

pub returns : goal.returns
returns c =
    let F = flat_tree c.args.flat.now in
    let t = c.args.tables.now in
    let is : env c.as_slice.result.now c.as_slice-2.result.now ≡ env c.in_ok-words.words.signals.items c.in_ok-words.words.outside.items = ap₂ env c.as_slice.ensures.value c.as_slice-2.ensures.value in
    if_ok c.check_word.result
    (λ w a. is_violated_word F (env t.given.items t.outside.items) t.further.items (check_tree c.args.check.now) c.args.block w c.in_ok-words.words c.cases_are_assigned.ensures c.in_ok-words.ensures
    (subst (λ (e : Env (List ℕ)). Answers lane_meaning tt (tt, w) (λ v. violated (mapped length e) (numbers lane_meaning tt v e) (check_tree c.args.check.now))) is a)) c.check_word.ensures

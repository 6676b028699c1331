use Rattle.std.proofs.Common.{◌≡◌, ◌^◌, length, sym, ap, subst, ◌∙◌}
use Rattle.std.specs.Prelude.{IfOk}
use Rattle.lola_alg.specs.Steps.{Went, pairs_step, choose_step}
use Rattle.lola_alg.specs.Means.{AreKnown}
use Rattle.lola_alg.specs.Gates.{move_of}
use Rattle.lola_alg.proofs.Moves.{move_least, move_long, move_known}
use Rattle.lola_alg.proofs.shifts.moved_where.Goals as goal

pub pairs-requires-clause-x : goal.pairs-requires-clause-x
pairs-requires-clause-x g c =
    let a = g.A.Algebra in
    let other : c.as_slice.result.now ≡ move_of c.args.way c.power.result c.args.x.now = c.as_slice.ensures.value ∙ c.in-Ok.ensures in
    subst (AreKnown a.meaning (a.state c.args.alg.now)) (sym other) (move_known a.meaning (a.state c.args.alg.now) c.args.way c.power.result c.args.x.now c.requires.way c.requires.x)

pub pairs-requires-clause-same : goal.pairs-requires-clause-same
pairs-requires-clause-same g c =
    let other : c.as_slice.result.now ≡ move_of c.args.way c.power.result c.args.x.now = c.as_slice.ensures.value ∙ c.in-Ok.ensures in
    sym (ap length other ∙ move_long c.args.way c.power.result c.args.x.now)

pub returns-in-Ok-clause-steps : goal.returns-in-Ok-clause-steps
returns-in-Ok-clause-steps g c =
    let a = g.A.Algebra in
    let other : c.as_slice.result.now ≡ move_of c.args.way (2 ^ c.args.place) c.args.x.now =
    c.as_slice.ensures.value ∙ (c.in-Ok.ensures ∙ (ap (λ n. move_of c.args.way n c.args.x.now) c.power.ensures ∙ move_least c.args.way (2 ^ c.args.place) c.args.x.now)) in
    subst (λ ys. Went (λ v. v.items) (pairs_step (choose_step a.calls c.args.test) ys c.args.x.now (a.state c.args.alg.now)) (a.state c.pairs.new.alg) c.pairs.result) other c.pairs.ensures.steps

pub returns-in-Ok-clause-long : goal.returns-in-Ok-clause-long
returns-in-Ok-clause-long g c =
    let other : c.as_slice.result.now ≡ move_of c.args.way c.power.result c.args.x.now = c.as_slice.ensures.value ∙ c.in-Ok.ensures in
    subst (λ n. IfOk c.pairs.result (λ v. length v.items ≡ n)) (ap length other ∙ move_long c.args.way c.power.result c.args.x.now) c.pairs.ensures.long

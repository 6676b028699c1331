use Rattle.std.proofs.Common.{◌≡◌, [], length, ap, ◌∙◌, arith}
use Rattle.std.proofs.lemmas.List.{length-map}
use Rattle.lola_flat.specs.Tree.{flat_tree, signal_tree}
use Rattle.lola_flat.specs.Value.{env, elements}
use Rattle.lola_eval.specs.Steps.{kind_step, state_step}
use Rattle.lola_eval.proofs.Kept.{env_known}
use Rattle.lola_eval.proofs.NextMeans.{same_fault}
use Rattle.lola_eval.proofs.StateSoFar.{one_more, all_so_far, state_more, state_full}
use Rattle.lola_eval.proofs.next.lower_state.Goals as goal

pub behind-requires-clause-known : goal.behind-requires-clause-known
behind-requires-clause-known g c =
    let a = g.A.Algebra in
    env_known a.meaning (a.state c.args.alg.now) (a.state c.loop-at.alg) (env c.args.signals.now []) c.loop-at.invariant.kept.stays c.requires.known

pub returns-in-Err-clause-steps : goal.returns-in-Err-clause-steps
returns-in-Err-clause-steps g c =
    let a = g.A.Algebra in
    let e = env c.args.signals.now [] in
    let F = flat_tree c.args.flat.now in
    let s = signal_tree c.index-items-at.result in
    same_fault c.loop-at.made (λ v. v) (λ v. v.items) (kind_step a.calls e s.kind s (elements e c.loop-at.at) (a.state c.loop-at.alg)) (state_step a.calls e F.signals 0 (a.state c.args.alg.now)) (a.state c.behind.new.alg) c.in-Err.error c.in-Err.ensures.steps
    (λ none. state_full a.calls e F c.loop-at.at s (a.state c.loop-at.alg) c.loop-at.made.items (state_step a.calls e F.signals 0 (a.state c.args.alg.now)) c.signal_at.ensures.signal none c.loop-at.invariant.steps)

pub loop-at-preserved : goal.loop-at-preserved
loop-at-preserved g c =
    let a = g.A.Algebra in
    let e = env c.args.signals.now [] in
    let F = flat_tree c.args.flat.now in
    let s = signal_tree c.index-items-at.result in
    record {
      steps = state_more a.calls e F c.loop-at.at s (a.state c.loop-at.alg) (a.state c.behind.new.alg) c.in-Ok.next c.loop-at.made.items (state_step a.calls e F.signals 0 (a.state c.args.alg.now)) c.signal_at.ensures.signal
          c.in-Ok.ensures.steps c.loop-at.invariant.steps c.push.new.self.items c.in_default.ensures.items;
      kept = one_more a.meaning F e (a.state c.args.alg.now) c.requires.known c.loop-at.at (a.state c.loop-at.alg) (a.state c.behind.new.alg) c.loop-at.made.items c.in-Ok.next s c.signal_at.ensures.signal c.loop-at.invariant.kept
          c.in-Ok.ensures.kept.0 c.in-Ok.ensures.kept.1 c.in-Ok.ensures.means c.push.new.self.items c.in_default.ensures.items;
    }

pub returns-clause-means : goal.returns-clause-means
returns-clause-means g c =
    let a = g.A.Algebra in
    let e = env c.args.signals.now [] in
    let F = flat_tree c.args.flat.now in
    let end = ap length c.items-at-end.ensures in
    let long : length F.signals ≡ length c.args.flat.now.signals = length-map c.args.flat.now.signals signal_tree in
    all_so_far a.meaning F c.args.signals.now (a.state c.args.alg.now) c.loop-at.at (a.state c.loop-at.alg) c.loop-at.made.items (long ∙ omega arith) c.loop-at.invariant.kept

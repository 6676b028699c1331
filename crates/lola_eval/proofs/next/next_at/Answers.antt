use Rattle.std.proofs.Common.{◌≡◌, ◌<◌, ℕ, List, [], length, get_or, subst, sym, ◌∙◌}
use Rattle.std.specs.List.{AllByRecursion}
use Rattle.std.proofs.lemmas.Option.{slice_get_within}
use Rattle.lola_bits.proofs.Places.{any_default}
use Rattle.lola_bits.proofs.Options.{some_same}
use Rattle.lola_alg.specs.Means.{AreKnown}
use Rattle.lola_alg.specs.Steps.{Went}
use Rattle.lola_flat.specs.declared.design.SigKind.TheVariants.{Register}
use Rattle.lola_flat.specs.Tree.{SignalTree, flat_tree, signal_tree}
use Rattle.lola_flat.specs.Value.{env}
use Rattle.lola_eval.specs.Steps.{next_step}
use Rattle.lola_eval.specs.Means.{SuitsNext, MeansNext}
use Rattle.lola_eval.proofs.Kept.{elements_known}
use Rattle.lola_eval.proofs.NextMeans.{if_went, its_kind, register_suits, next_means}
use Rattle.lola_eval.proofs.next.next_at.Goals as goal

-- the elements of the register, and nothing from outside
old_is : {X : Type 0} (xs : List (List X)) (n : ℕ) (x now : List X) → n < length xs → x ≡ get_or xs n x → now ≡ x → now ≡ get_or xs n []
old_is xs n x now within is same = same ∙ any_default xs n x [] within is

pub next_elements-requires-clause-suits : goal.next_elements-requires-clause-suits
next_elements-requires-clause-suits g c =
    let F = flat_tree c.args.flat.now in
    let s = signal_tree c.index-items-number.result in
    let kind = its_kind F c.args.number s Register c.signal_at.ensures.signal c.requires.register in
    let within : c.args.number < length c.args.signals.now = subst (λ n. c.args.number < n) (sym c.requires.signals.long) (slice_get_within F.signals c.args.number s c.signal_at.ensures.signal) in
    let old = old_is c.args.signals.now c.args.number c.index-signals-number.result c.items-2.result.now within c.index-signals-number.is c.items-2.ensures in
    subst (λ (outs : List (List g.row.A-Bit.Denot)). SuitsNext (env c.args.signals.now outs) s.place s.equation c.items-2.result.now) (sym (c.as_slice.ensures.value ∙ c.new-none.ensures.items))
    (subst (λ (now : List (List g.row.A-Bit.Denot)). SuitsNext (env c.args.signals.now []) s.place s.equation now) (sym old)
    (register_suits F c.requires.formed g.A.Algebra.meaning (env c.args.signals.now []) c.requires.signals c.args.number s c.signal_at.ensures.signal kind))

pub next_elements-requires-clause-old : goal.next_elements-requires-clause-old
next_elements-requires-clause-old g c =
    let a = g.A.Algebra in
    let F = flat_tree c.args.flat.now in
    let s = signal_tree c.index-items-number.result in
    let within : c.args.number < length c.args.signals.now = subst (λ n. c.args.number < n) (sym c.requires.signals.long) (slice_get_within F.signals c.args.number s c.signal_at.ensures.signal) in
    subst (AllByRecursion (AreKnown a.meaning (a.state c.args.alg.now))) (sym (old_is c.args.signals.now c.args.number c.index-signals-number.result c.items-2.result.now within c.index-signals-number.is c.items-2.ensures))
    (elements_known a.meaning (a.state c.args.alg.now) (env c.args.signals.now []) c.args.number c.requires.known)

pub returns-clause-steps : goal.returns-clause-steps
returns-clause-steps g c = λ t is.
    let a = g.A.Algebra in
    let F = flat_tree c.args.flat.now in
    let s = signal_tree c.index-items-number.result in
    let same : s ≡ t = some_same s t (sym c.signal_at.ensures.signal ∙ is) in
    let within : c.args.number < length c.args.signals.now = subst (λ n. c.args.number < n) (sym c.requires.signals.long) (slice_get_within F.signals c.args.number s c.signal_at.ensures.signal) in
    let old = old_is c.args.signals.now c.args.number c.index-signals-number.result c.items-2.result.now within c.index-signals-number.is c.items-2.ensures in
    let W : List (List g.row.A-Bit.Denot) → List (List g.row.A-Bit.Denot) → SignalTree → Type 0 =
    λ outs now u. Went (λ v. v) (next_step a.calls (env c.args.signals.now outs) u.place u.equation now (a.state c.args.alg.now)) (a.state c.next_elements.new.alg) c.next_elements.result in
    subst (W [] (get_or c.args.signals.now c.args.number [])) same
    (subst (λ now. W [] now s) old (subst (λ outs. W outs c.items-2.result.now s) (c.as_slice.ensures.value ∙ c.new-none.ensures.items) c.next_elements.ensures.steps))

pub returns-clause-means : goal.returns-clause-means
returns-clause-means g c = λ t is.
    let a = g.A.Algebra in
    let F = flat_tree c.args.flat.now in
    let kind = its_kind F c.args.number t Register is c.requires.register in
    if_went (λ v. v) (next_step a.calls (env c.args.signals.now []) t.place t.equation (get_or c.args.signals.now c.args.number []) (a.state c.args.alg.now)) (a.state c.next_elements.new.alg) c.next_elements.result
    (λ made. MeansNext a.meaning F (env c.args.signals.now []) c.args.number t (a.state c.args.alg.now) (a.state c.next_elements.new.alg) made) (returns-clause-steps g c t is)
    (λ made so. next_means F c.requires.formed a.meaning (env c.args.signals.now []) c.requires.signals c.args.number t is kind a.calls g.met.A.Algebra.law (a.state c.args.alg.now) c.requires.known (a.state c.next_elements.new.alg, made) so)

use Rattle.std.proofs.Common.{◌≡◌, ◌++◌, ℕ, List, [], refl, sym, ap, subst, ◌∙◌}
use Rattle.lola_flat.specs.Tree.{flat_tree}
use Rattle.lola_flat.specs.Value.{env}
use Rattle.lola_eval.specs.Means.{AreGivenBits, AreSignalBits, EnvKnown, MeansCycle, MeansState}
use Rattle.lola_lanes.specs.Lanes.{lane_meaning}
use Rattle.lola_asked.specs.declared.bits.CaseBit.{CaseBit}
use Rattle.lola_asked.specs.Words.{AreRowWords, AreTableWords}
use Rattle.lola_asked.proofs.Blocks.{words_given, words_known, all_words}
use Rattle.lola_asked.proofs.block.block_words.Goals as goal

pub signal_words-requires-clause-given : goal.signal_words-requires-clause-given
signal_words-requires-clause-given c =
    let F = flat_tree c.args.flat.now in
    let t = c.args.tables.now in
    let E = env t.given.items t.outside.items in
    let given_are : AreTableWords c.args.block t.given.items c.in_ok-given.given.items = subst (λ (x : List (List (List CaseBit))). AreTableWords c.args.block x c.in_ok-given.given.items) c.as_slice.ensures.value c.in_ok-given.ensures in
    let outside_are : AreRowWords c.args.block t.outside.items c.in_ok-outside.outside.items = subst (λ (x : List (List CaseBit)). AreRowWords c.args.block x c.in_ok-outside.outside.items) c.as_slice-2.ensures.value c.in_ok-outside.ensures in
    subst (λ (o : List (List ℕ)). AreGivenBits F (env c.in_ok-given.given.items o)) (sym c.as_slice-4.ensures.value)
    (words_given F E t.further.items c.requires.tables c.args.block c.in_ok-given.given.items c.in_ok-outside.outside.items given_are outside_are)

pub signal_words-requires-clause-known : goal.signal_words-requires-clause-known
signal_words-requires-clause-known c =
    let F = flat_tree c.args.flat.now in
    let t = c.args.tables.now in
    let E = env t.given.items t.outside.items in
    let given_are : AreTableWords c.args.block t.given.items c.in_ok-given.given.items = subst (λ (x : List (List (List CaseBit))). AreTableWords c.args.block x c.in_ok-given.given.items) c.as_slice.ensures.value c.in_ok-given.ensures in
    let outside_are : AreRowWords c.args.block t.outside.items c.in_ok-outside.outside.items = subst (λ (x : List (List CaseBit)). AreRowWords c.args.block x c.in_ok-outside.outside.items) c.as_slice-2.ensures.value c.in_ok-outside.ensures in
    subst (λ (o : List (List ℕ)). EnvKnown lane_meaning tt (env c.in_ok-given.given.items o)) (sym c.as_slice-4.ensures.value)
    (words_known F E t.further.items c.requires.tables c.args.block c.in_ok-given.given.items c.in_ok-outside.outside.items given_are outside_are)

pub state_words-requires-clause-signals : goal.state_words-requires-clause-signals
state_words-requires-clause-signals c =
    subst (λ (s : List (List (List ℕ))). AreSignalBits (flat_tree c.args.flat.now) s) (sym c.as_slice-5.ensures.value) c.in_ok-signals.ensures.wide

pub state_words-requires-clause-known : goal.state_words-requires-clause-known
state_words-requires-clause-known c =
    subst (λ (s : List (List (List ℕ))). EnvKnown lane_meaning tt (env s [])) (sym c.as_slice-5.ensures.value) (record { signals = c.in_ok-signals.ensures.known; outside = tt })

pub returns : goal.returns
returns c =
    let F = flat_tree c.args.flat.now in
    let t = c.args.tables.now in
    let E = env t.given.items t.outside.items in
    let given_are : AreTableWords c.args.block t.given.items c.in_ok-given.given.items = subst (λ (x : List (List (List CaseBit))). AreTableWords c.args.block x c.in_ok-given.given.items) c.as_slice.ensures.value c.in_ok-given.ensures in
    let outside_are : AreRowWords c.args.block t.outside.items c.in_ok-outside.outside.items = subst (λ (x : List (List CaseBit)). AreRowWords c.args.block x c.in_ok-outside.outside.items) c.as_slice-2.ensures.value c.in_ok-outside.ensures in
    let further_are : AreTableWords c.args.block t.further.items c.in_ok-further.further.items = subst (λ (x : List (List (List CaseBit))). AreTableWords c.args.block x c.in_ok-further.further.items) c.as_slice-3.ensures.value c.in_ok-further.ensures in
    let means : MeansCycle lane_meaning F (env c.in_ok-given.given.items c.in_ok-outside.outside.items) tt tt c.in_ok-signals.signals.items =
    subst (λ (o : List (List ℕ)). MeansCycle lane_meaning F (env c.in_ok-given.given.items o) tt tt c.in_ok-signals.signals.items) c.as_slice-4.ensures.value c.in_ok-signals.ensures in
    let state : MeansState lane_meaning F c.in_ok-signals.signals.items tt tt c.in_ok-behind.behind.items =
    subst (λ (s : List (List (List ℕ))). MeansState lane_meaning F s tt tt c.in_ok-behind.behind.items) c.as_slice-5.ensures.value c.in_ok-behind.ensures in
    all_words F E t.further.items c.requires.tables c.args.block c.in_ok-given.given.items c.in_ok-outside.outside.items given_are outside_are c.requires.formed c.in_ok-signals.signals.items c.in_ok-behind.behind.items means state
    c.in_ok-further.further.items further_are c.cases_are_assigned.ensures (record { signals = c.push_rows-2.new.table; outside = c.in_ok-outside.outside })
    (c.in_ok-push_rows-2.ensures ∙ ap (λ (l : List (List (List ℕ))). l ++ c.in_ok-further.further.items) c.in_ok-push_rows.ensures) refl

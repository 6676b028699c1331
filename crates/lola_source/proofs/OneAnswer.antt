-- A text has one answer.
use Rattle.std.proofs.Common.{◌≡◌, ℕ, ◌≤◌, List, refl, sym, ap, ◌∙◌, subst, inl, inr, ◌⊎◌, Some, None, arith}
use Rattle.lola_tree.specs.Tree.{SourceTree}
use Rattle.lola_tree.specs.design.Signals.{height, size}
use Rattle.lola_tree.specs.design.Chains.{HasLoop}
use Rattle.lola_scan.specs.declared.token.Token.{Token}
use Rattle.lola_scan.specs.declared.token.ScanError.{ScanError}
use Rattle.lola_scan.specs.declared.token.ScanError.TheVariants as scan
use Rattle.lola_scan.specs.Tokens.{Spells, Fails, HasOneReading}
use Rattle.lola_parse.specs.declared.symbol.Language.TheVariants.{Design}
use Rattle.lola_parse.specs.Symbols.{Item, items_of}
use Rattle.lola_parse.specs.Design.{SpellsSource}
use Rattle.lola_width.specs.declared.fault.SourceFault.{SourceFault as SizeFault}
use Rattle.lola_width.specs.Order.{first_after}
use Rattle.lola_width.specs.Sized.{IsWellSized, first_fault}
use Rattle.lola_source.specs.declared.fault.SourceFault.TheVariants.{BadByte, NumberTooLarge, OpenComment, Syntax, IllSized, Loop}
use Rattle.lola_source.specs.declared.fault.SourceRefusal.{SourceRefusal}
use Rattle.lola_source.specs.declared.fault.SourceRefusal.TheVariants.{Fault, Long, TooDeep, TooMany}
use Rattle.lola_source.specs.Accepts.{IsSourceOf, Accepts}
use Rattle.lola_source.specs.Refused.{HasNoTree, HasSizeFault, HasDepth, HasMany, HasChain, IsRefused, refusal_stage}
use Rattle.lola_source.specs.Stages.{Stage, scanning, grammar, sizes, depth, count, chains, Passes, IsReached}
use Rattle.lola_source.specs.Answer.{IsUnsettled, AreAtOneStage, HasOneAnswer}
use Rattle.lola_source.proofs.Stages.{reached_first, reached_next, one_stage}

-- the laws that it stands on
abbrev pub OneReadingLaw : Type 0
OneReadingLaw = (text : List ℕ) → HasOneReading text

abbrev pub OneTreeLaw : Type 0
OneTreeLaw = (all : List Item) (t u : SourceTree) → SpellsSource all t → SpellsSource all u → t ≡ u

-- a fault of a text, as it is told
abbrev pub named_as : ScanError → SourceRefusal
named_as (scan.BadByte at) = Fault (BadByte at)
named_as (scan.NumberTooLarge at) = Fault (NumberTooLarge at)
named_as (scan.OpenComment at) = Fault (OpenComment at)
named_as scan.Memory = TooMany

-- what comes at each stage, and why
abbrev pub RefusedAt : List ℕ → Stage → SourceRefusal → Type 0
RefusedAt s scanning a = (error : ScanError) × (Fails 0 s error × (a ≡ named_as error))
RefusedAt s grammar a = HasNoTree s
RefusedAt s sizes a = (error : SizeFault) × (HasSizeFault s error × (a ≡ Fault (IllSized error)))
RefusedAt s depth a = (n : ℕ) × (HasDepth s n × (a ≡ TooDeep n))
RefusedAt s count a = HasMany s × (a ≡ TooMany)
RefusedAt s chains a = (names : List (List ℕ)) × (HasChain s names × (a ≡ Fault (Loop names)))

pub refused_at : (s : List ℕ) (a : SourceRefusal) → IsRefused s a → RefusedAt s (refusal_stage a) a
refused_at s (Fault (BadByte at)) is = (scan.BadByte at, (is, refl))
refused_at s (Fault (NumberTooLarge at)) is = (scan.NumberTooLarge at, (is, refl))
refused_at s (Fault (OpenComment at)) is = (scan.OpenComment at, (is, refl))
refused_at s (Fault (Syntax at)) is = is
refused_at s (Fault (IllSized error)) is = (error, (is, refl))
refused_at s (Fault (Loop names)) is = (names, (is, refl))
refused_at s (Long at) is = is.no_tree
refused_at s (TooDeep n) is = (n, (is, refl))
refused_at s TooMany is = (is, refl)

module _ (reads : OneReadingLaw) (tree : OneTreeLaw) (s : List ℕ) where
  -- the sources that a text spells are one
  same_tree : (S R : SourceTree) → IsSourceOf s S → IsSourceOf s R → S ≡ R
  same_tree S R first second =
      tree (items_of Design s first.tokens) S R first.spelled
      (subst (λ (vs : List Token). SpellsSource (items_of Design s vs) R) (HasOneReading.one_list (reads s) second.tokens first.tokens second.spells first.spells) second.spelled)

  -- a source with a fault isn't well sized
  never_sized : (S R : SourceTree) (error : SizeFault) → S ≡ R → first_fault S ≡ Some error → IsWellSized R → ⊥
  never_sized S R error same first sized =
      let none : first_fault S ≡ None = ap first_fault same ∙ ap (first_after None) sized.none in
      cc

  -- a closed chain is a loop
  one_chain : (S : SourceTree) (names : List (List ℕ)) (has : HasChain s names) → S ≡ has.S → HasLoop S
  one_chain S names has same = subst HasLoop (sym same) (record { first = has.chain.first; others = has.chain.others; closed = has.chain.closed })

  -- an accepted text passes all
  pub all_passed : (S : SourceTree) (k : Stage) → Accepts s S → Passes s k
  all_passed S scanning a = (a.source.tokens, a.source.spells)
  all_passed S grammar a = (S, a.source)
  all_passed S sizes a = (S, (a.source, a.sized))
  all_passed S depth a = (S, (a.source, a.shallow))
  all_passed S count a = (S, (a.source, a.few))
  all_passed S chains a = (S, (a.source, a.open_chains))

  -- what comes at a stage comes only where that is not passed
  pub not_passed : (k : Stage) (a : SourceRefusal) → RefusedAt s k a → Passes s k → ⊥
  not_passed scanning a (error, (fails, is)) (tokens, spells) = HasOneReading.never_both (reads s) tokens error spells fails
  not_passed grammar a none (S, made) =
      none.none S (subst (λ (vs : List Token). SpellsSource (items_of Design s vs) S) (HasOneReading.one_list (reads s) made.tokens none.tokens made.spells none.spells) made.spelled)
  not_passed sizes a (error, (has, is)) (S, (made, sized)) = never_sized has.S S error (same_tree has.S S has.source made) has.first sized
  not_passed depth a (n, (has, is)) (S, (made, shallow)) =
      let same : height has.S ≡ height S = ap height (same_tree has.S S has.source made) in
      omega (arith, same, shallow, has.deep)
  not_passed count a (has, is) (S, (made, few)) =
      let same : size has.S ≡ size S = ap size (same_tree has.S S has.source made) in
      omega (arith, same, few, has.many)
  not_passed chains a (names, (has, is)) (S, (made, none)) = none (one_chain S names has (same_tree S has.S made has.source))

  -- and only where all stages before it are
  to_scanning : IsReached s scanning
  to_scanning = reached_first s

  to_grammar : (tokens : List Token) → Spells 0 s tokens → IsReached s grammar
  to_grammar tokens spells = reached_next s scanning grammar refl to_scanning (tokens, spells)

  to_sizes : (S : SourceTree) → IsSourceOf s S → IsReached s sizes
  to_sizes S made = reached_next s grammar sizes refl (to_grammar made.tokens made.spells) (S, made)

  to_depth : (S : SourceTree) → IsSourceOf s S → IsWellSized S → IsReached s depth
  to_depth S made sized = reached_next s sizes depth refl (to_sizes S made) (S, (made, sized))

  to_count : (S : SourceTree) → IsSourceOf s S → IsWellSized S → height S ≤ 64 → IsReached s count
  to_count S made sized shallow = reached_next s depth count refl (to_depth S made sized) (S, (made, shallow))

  pub all_reached : (k : Stage) (a : SourceRefusal) → RefusedAt s k a → IsReached s k
  all_reached scanning a is = to_scanning
  all_reached grammar a none = to_grammar none.tokens none.spells
  all_reached sizes a (error, (has, is)) = to_sizes has.S has.source
  all_reached depth a (n, (has, is)) = to_depth has.S has.source has.sized
  all_reached count a (has, is) = to_count has.S has.source has.sized has.shallow
  all_reached chains a (names, (has, is)) =
      reached_next s count chains refl (to_count has.S has.source has.sized has.shallow) (has.S, (has.source, has.few))

  -- what comes at one stage is one, but at two of them
  pub one_at : (k : Stage) (a b : SourceRefusal) → RefusedAt s k a → RefusedAt s k b → (a ≡ b) ⊎ IsUnsettled k
  one_at scanning a b (error, (fails, is)) (other, (fails', is')) = inl (is ∙ ap named_as (HasOneReading.one_fault (reads s) error other fails fails') ∙ sym is')
  one_at grammar a b p q = inr tt
  one_at sizes a b (error, (has, is)) (other, (has', is')) =
      let same = same_tree has.S has'.S has.source has'.source in
      let first : Some error ≡ Some other = sym has.first ∙ ap first_fault same ∙ has'.first in
      let errors : error ≡ other = cc in
      inl (is ∙ ap (λ (e : SizeFault). Fault (IllSized e)) errors ∙ sym is')
  one_at depth a b (n, (has, is)) (m, (has', is')) =
      let same = same_tree has.S has'.S has.source has'.source in
      let numbers : n ≡ m = rw (has.is, has'.is, same) refl in
      inl (is ∙ ap TooDeep numbers ∙ sym is')
  one_at count a b (has, is) (has', is') = inl (is ∙ sym is')
  one_at chains a b p q = inr tt

  never_both : (S : SourceTree) (a : SourceRefusal) → Accepts s S → IsRefused s a → ⊥
  never_both S a accepts is = not_passed (refusal_stage a) a (refused_at s a is) (all_passed S (refusal_stage a) accepts)

  at_one_stage : (a b : SourceRefusal) → IsRefused s a → IsRefused s b → AreAtOneStage a b
  at_one_stage a b p q =
      let first = refused_at s a p in
      let second = refused_at s b q in
      let stages = one_stage s (refusal_stage a) (refusal_stage b) (all_reached (refusal_stage a) a first) (not_passed (refusal_stage a) a first) (all_reached (refusal_stage b) b second) (not_passed (refusal_stage b) b second) in
      record { stages = stages; same = one_at (refusal_stage a) a b first (subst (λ (k : Stage). RefusedAt s k b) (sym stages) second) }

  pub one_answer : HasOneAnswer s
  one_answer = record {
    one_source = λ S R first second. same_tree S R first.source second.source;
    never_both = never_both;
    passes = all_passed;
    reached = λ a is. all_reached (refusal_stage a) a (refused_at s a is);
    stops = λ a is. not_passed (refusal_stage a) a (refused_at s a is);
    one_refusal = at_one_stage;
  }

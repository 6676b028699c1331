-- A text of a design has one refusal, and none where it is accepted.
use Rattle.std.proofs.Common.{◌≡◌, ℕ, List, refl, sym, ap, ◌∙◌, subst, inl, inr, ◌⊎◌, Some, None}
use Rattle.lola_tree.specs.Tree.{SourceTree}
use Rattle.lola_scan.specs.declared.token.Token.{Token}
use Rattle.lola_scan.specs.declared.token.ScanError.{ScanError}
use Rattle.lola_scan.specs.declared.token.ScanError.TheVariants as scan
use Rattle.lola_scan.specs.Tokens.{Spells, Fails, HasOneReading}
use Rattle.lola_parse.specs.declared.symbol.Language.TheVariants.{Design}
use Rattle.lola_parse.specs.Symbols.{Item, items_of}
use Rattle.lola_parse.specs.Design.{SpellsSource}
use Rattle.lola_width.specs.declared.fault.SourceFault.{SourceFault as SizeFault}
use Rattle.lola_width.specs.Order.{first_after}
use Rattle.lola_width.specs.Sized.{IsWellSized, first_fault}
use Rattle.lola_elab.specs.Built.{IsBuiltSource}
use Rattle.lola_elab.specs.Small.{IsSmallSource}
use Rattle.lola_app.specs.declared.fault.SourceFault.TheVariants.{BadByte, NumberTooLarge, OpenComment, Syntax, IllSized, NotBuilt}
use Rattle.lola_app.specs.declared.fault.SourceRefusal.{SourceRefusal}
use Rattle.lola_app.specs.declared.fault.SourceRefusal.TheVariants.{Fault, Long}
use Rattle.lola_app.specs.Accepts.{Accepts}
use Rattle.lola_app.specs.Made.{IsSourceOf}
use Rattle.lola_app.specs.Refused.{HasNoTree, HasSizeFault, IsOutside, IsRefused, IsUngrammatical, refusal_stage}
use Rattle.lola_app.specs.Stages.{Stage, words, reading, scanning, grammar, sizes, forms, table, limits, verdict}
use Rattle.lola_app.proofs.Readings.{source_of, small_of}

-- the laws that it stands on
abbrev pub OneReadingLaw : Type 0
OneReadingLaw = (text : List ℕ) → HasOneReading text

abbrev pub OneTreeLaw : Type 0
OneTreeLaw = (all : List Item) (t u : SourceTree) → SpellsSource all t → SpellsSource all u → t ≡ u

-- a design in the small form is of the forms that are built
abbrev pub BuiltLaw : Type 0
BuiltLaw = (S : SourceTree) → IsSmallSource S → IsBuiltSource S

pub one_source : OneReadingLaw → OneTreeLaw → (bytes : List ℕ) (S R : SourceTree) → Accepts bytes S → Accepts bytes R → S ≡ R
one_source reads tree bytes S R s r = tree (items_of Design bytes r.tokens) S R (source_of bytes r.tokens S (reads bytes) r.spells s) r.source

-- a fault of a text, as it is told
abbrev pub named_as : ScanError → SourceRefusal
named_as (scan.BadByte at) = Fault (BadByte at)
named_as (scan.NumberTooLarge at) = Fault (NumberTooLarge at)
named_as (scan.OpenComment at) = Fault (OpenComment at)
named_as scan.Memory = Fault NotBuilt

-- what comes at each stage, and why: the first fault of the text, by name; no tree of its tokens, by one of
-- the two refusals that say so; the first fault of their tree; a tree outside the forms that are built
abbrev pub RefusedAt : List ℕ → Stage → SourceRefusal → Type 0
RefusedAt s words a = ⊥
RefusedAt s reading a = ⊥
RefusedAt s scanning a = (error : ScanError) × (Fails 0 s error × (a ≡ named_as error))
RefusedAt s grammar a = HasNoTree s × IsUngrammatical a
RefusedAt s sizes a = (error : SizeFault) × (HasSizeFault s error × (a ≡ Fault (IllSized error)))
RefusedAt s forms a = IsOutside s × (a ≡ Fault NotBuilt)
RefusedAt s table a = ⊥
RefusedAt s limits a = ⊥
RefusedAt s verdict a = ⊥

pub refused_at : (s : List ℕ) (a : SourceRefusal) → IsRefused s a → RefusedAt s (refusal_stage a) a
refused_at s (Fault (BadByte at)) is = (scan.BadByte at, (is, refl))
refused_at s (Fault (NumberTooLarge at)) is = (scan.NumberTooLarge at, (is, refl))
refused_at s (Fault (OpenComment at)) is = (scan.OpenComment at, (is, refl))
refused_at s (Fault (Syntax at)) is = (is, tt)
refused_at s (Fault (IllSized error)) is = (error, (is, refl))
refused_at s (Fault NotBuilt) is = (is, refl)
refused_at s (Long at) is = (is.no_tree, tt)

module _ (reads : OneReadingLaw) (tree : OneTreeLaw) (built : BuiltLaw) (s : List ℕ) where
  -- the trees that a text spells are one
  same_tree : (S R : SourceTree) → IsSourceOf s S → IsSourceOf s R → S ≡ R
  same_tree S R first second =
      tree (items_of Design s first.tokens) S R first.spelled
      (subst (λ (vs : List Token). SpellsSource (items_of Design s vs) R) (HasOneReading.one_list (reads s) second.tokens first.tokens second.spells first.spells) second.spelled)

  -- a tree with a fault isn't well sized
  never_sized : (S R : SourceTree) (error : SizeFault) → S ≡ R → first_fault S ≡ Some error → IsWellSized R → ⊥
  never_sized S R error same first sized =
      let none : first_fault S ≡ None = ap first_fault same ∙ ap (first_after None) sized.none in
      cc

  -- a text with a fault spells no tokens, tokens without a tree spell none, a tree with a fault isn't well
  -- sized, and a tree outside the forms isn't accepted
  pub no_tokens : (a : SourceRefusal) → RefusedAt s scanning a → (tokens : List Token) → Spells 0 s tokens → ⊥
  no_tokens a (error, (fails, is)) tokens spells = HasOneReading.never_both (reads s) tokens error spells fails

  pub no_source : (a : SourceRefusal) → RefusedAt s grammar a → (S : SourceTree) → IsSourceOf s S → ⊥
  no_source a (none, is) S made =
      none.none S (subst (λ (vs : List Token). SpellsSource (items_of Design s vs) S) (HasOneReading.one_list (reads s) made.tokens none.tokens made.spells none.spells) made.spelled)

  pub no_sizes : (a : SourceRefusal) → RefusedAt s sizes a → (S : SourceTree) → IsSourceOf s S → IsWellSized S → ⊥
  no_sizes a (error, (has, is)) S made sized =
      never_sized has.S S error (same_tree has.S S (record { tokens = has.tokens; spells = has.spells; spelled = has.spelled }) made) has.first sized

  pub no_form : (a : SourceRefusal) → RefusedAt s forms a → (S : SourceTree) → Accepts s S → ⊥
  no_form a (outside, is) S accepts = outside.large (built outside.S (small_of s outside.tokens S outside.S (reads s) tree outside.spells outside.spelled accepts))

  -- what comes at one stage is one, but for the two refusals of grammar
  pub one_refusal : (k : Stage) (a b : SourceRefusal) → RefusedAt s k a → RefusedAt s k b → (a ≡ b) ⊎ (IsUngrammatical a × IsUngrammatical b)
  one_refusal words a b p q = absurd p
  one_refusal reading a b p q = absurd p
  one_refusal scanning a b (error, (fails, is)) (other, (fails', is')) = inl (is ∙ ap named_as (HasOneReading.one_fault (reads s) error other fails fails') ∙ sym is')
  one_refusal grammar a b (none, is) (other, is') = inr (is, is')
  one_refusal sizes a b (error, (has, is)) (other, (has', is')) =
      let same = same_tree has.S has'.S (record { tokens = has.tokens; spells = has.spells; spelled = has.spelled }) (record { tokens = has'.tokens; spells = has'.spells; spelled = has'.spelled }) in
      let first : Some error ≡ Some other = sym has.first ∙ ap first_fault same ∙ has'.first in
      let errors : error ≡ other = cc in
      inl (is ∙ ap (λ (e : SizeFault). Fault (IllSized e)) errors ∙ sym is')
  one_refusal forms a b (outside, is) (other, is') = inl (is ∙ sym is')
  one_refusal table a b p q = absurd p
  one_refusal limits a b p q = absurd p
  one_refusal verdict a b p q = absurd p

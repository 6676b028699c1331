-- What the theorem uses of a design and a table: facts that a fitting table on a regular design has.
use Rattle.std.specs.Prelude.{◌≡◌, ◌≢◌, ℕ, suc, ◌<◌, ◌≤◌, true, List, [], ◌∷◌, Option, Some, None}
use Rattle.std.specs.List.{AllByRecursion}
use Rattle.lola_bits.specs.declared.vector.Bits.{Bits}
use Rattle.lola_tree.specs.Tree.{SourceTree}
use Rattle.lola_tree.specs.Value.{Values}
use Rattle.lola_tree.specs.design.Cycle.{IsState, IsGiven, Cycle, Next}
use Rattle.tab_tree.specs.Table.{TurnsTree, PhaseTree, InsideTree, ClassTree, TableTree}
use Rattle.tab_tree.specs.Names.{vector_form, mapped, table_vector, shape_form}
use Rattle.tab_tree.specs.Step.{Arch, Words, class_names}
use Rattle.tab_tree.specs.Headline.{shown, shown_word, answer_of}
use Rattle.tab_tree.specs.Placed.{word_width, role_width, takes_word}
use Rattle.tab_tree.specs.Suits.{IsOf, SuitsArch}
use Rattle.tab_tree.specs.Fits.{StartsPlain}
use Rattle.obl_def.specs.Valuation.{SuitsForm, SuitsWords}

-- FROM and STEP of a phase are of the type behind OF, over all that suits
pub record TurnsSuit (S : SourceTree) (T : TableTree) (b : InsideTree) (p : ℕ) (t : TurnsTree) : Type 0 where
  pub some : 1 ≤ t.times
  pub few : t.times ≤ 255
  pub first : (A : Arch) (i : Bits) (m : Words) → SuitsArch T A → IsOf (word_width S T) i → SuitsWords S T b p p m →
      SuitsForm (Some (shape_form t.shape)) (table_vector (class_names T b A i m None) t.first)
  pub step : (A : Arch) (i : Bits) (m : Words) (k : ℕ) → SuitsArch T A → IsOf (word_width S T) i → SuitsWords S T b p (suc p) m → k < 256 →
      SuitsForm (Some (shape_form t.shape)) (table_vector (class_names T b A i m (Some k)) t.step)

abbrev pub TurnsFit : SourceTree → TableTree → InsideTree → ℕ → Option TurnsTree → Type 0
TurnsFit S T b p None = Unit {0}
TurnsFit S T b p (Some t) = TurnsSuit S T b p t

pub record PhaseFits (S : SourceTree) (T : TableTree) (b : InsideTree) (p : ℕ) (phase : PhaseTree) : Type 0 where
  pub turns : TurnsFit S T b p phase.turns
  pub loads : takes_word phase.access ≡ true → T.roles.loaded ≢ None

abbrev pub PhasesFit : SourceTree → TableTree → InsideTree → ℕ → List PhaseTree → Type 0
PhasesFit S T b p [] = Unit {0}
PhasesFit S T b p (phase ∷ phases) = PhaseFits S T b p phase × PhasesFit S T b (suc p) phases

pub record StepsFit (S : SourceTree) (T : TableTree) (b : InsideTree) : Type 0 where
  pub plain : StartsPlain b.phases
  pub phases : PhasesFit S T b 0 b.phases

pub record Basis (S : SourceTree) (T : TableTree) : Type 0 where
  pub keeps : (s inp v s' : Values) → IsState S s → IsGiven S inp → Cycle S s inp v → Next S v s' → IsState S s'
  pub states : (s : Values) → IsState S s → SuitsArch T (shown S T s)
  pub word : (s : Values) → IsState S s → IsOf (word_width S T) (shown_word S T s)
  pub loaded : (inp : Values) → IsGiven S inp → T.roles.loaded ≢ None → SuitsForm (mapped vector_form (role_width S T.roles.loaded)) (Some (answer_of S T inp).loaded)
  pub classes : AllByRecursion (λ (c : ClassTree). (b : InsideTree) → c.inside ≡ Some b → StepsFit S T b) T.classes
  pub code : T.roles.code ≡ None → T.roles.fetched ≡ None

-- What the two texts of `decide` lead to, at which stage, and which stages they pass.
use Rattle.std.specs.Prelude.{◌≡◌, ℕ, ◌<◌, List, ◌∷◌, ◌++◌, length}
use Rattle.std.specs.List.{AllByRecursion}
use Rattle.lola_tree.specs.Tree.{SourceTree}
use Rattle.lola_tree.specs.Value.{Values}
use Rattle.lola_tree.specs.Cycle.{IsState, IsGiven}
use Rattle.lola_scan.specs.declared.token.Token.{Token}
use Rattle.lola_scan.specs.Tokens.{Spells}
use Rattle.lola_width.specs.Sized.{IsWellSized}
use Rattle.lola_elab.specs.Elaborated.{HasOneCycle}
use Rattle.small_tree.specs.Table.{TableTree}
use Rattle.small_tree.specs.Step.{inside_classes}
use Rattle.lola_app.specs.Accepts.{Accepts, AcceptsTable}
use Rattle.lola_app.specs.DecideReply.{DecideOutcome, refused, table_not_built, too_many_bits, accepted, failed}
use Rattle.lola_app.specs.Headline.{Resets, Commutes}
use Rattle.lola_app.specs.Made.{IsSourceOf}
use Rattle.lola_app.specs.Obligations.{Obligation, obligations, obligation_name, Valuation, HoldsAlways, AllHold, free_names, free_values, free_widths, free_bits, IsNarrow, IsLeastViolation}
use Rattle.lola_app.specs.Refused.{IsRefused, refusal_stage, IsUngrammatical}
use Rattle.lola_app.specs.Stages as stage
use Rattle.lola_app.specs.Stages.{Stage}
use Rattle.lola_app.specs.Values.{Line, lines_of}

-- the most bytes that a text may have
abbrev pub text_limit : ℕ
text_limit = 1048576

-- the headline of two texts: they spell a design and a table that fits it; each state and input have
-- exactly one cycle; every reset cycle leaves a state that the table starts from; and every run shows at
-- each boundary what the table gives
pub record IsHeadline (source table : List ℕ) : Type 0 where
  pub S : SourceTree
  pub T : TableTree
  pub design : Accepts source S
  pub fitting : AcceptsTable S table T
  pub cycles : (s inp : Values) → IsState S s → IsGiven S inp → HasOneCycle S s inp
  pub resets : Resets S T
  pub commutes : Commutes S T

-- all obligations of the table on the design can be tried and hold, and so does the headline; the numbers
-- are those of the obligations and of the classes inside the claim
pub record IsYes (source table : List ℕ) (obliged inside : ℕ) : Type 0 where
  pub headline : IsHeadline source table
  pub narrow : AllByRecursion (IsNarrow headline.S headline.T) (obligations headline.T)
  pub all : AllHold headline.S headline.T
  pub obliged_is : obliged ≡ length (obligations headline.T)
  pub inside_is : inside ≡ length (inside_classes headline.T)

-- all obligations can be tried, and some doesn't hold at some valuation: the first such in their order,
-- named, with its least valuation
pub record IsNo (source table : List ℕ) (name : List ℕ) (lines : List Line) : Type 0 where
  pub S : SourceTree
  pub T : TableTree
  pub design : Accepts source S
  pub fitting : AcceptsTable S table T
  pub narrow : AllByRecursion (IsNarrow S T) (obligations T)
  pub before : List Obligation
  pub first : Obligation
  pub later : List Obligation
  pub listed : obligations T ≡ before ++ first ∷ later
  pub earlier : AllByRecursion (HoldsAlways S T) before
  pub valuation : Valuation
  pub least : IsLeastViolation S T first valuation
  pub name_is : name ≡ obligation_name first
  pub lines_are : lines ≡ lines_of (free_names S T first) (free_widths S T first) (free_values S T first valuation)

-- some obligation leaves more bits free than can be tried: the first such in their order, named, with the
-- number of its free bits
pub record IsLimited (source table : List ℕ) (name : List ℕ) (count : ℕ) : Type 0 where
  pub S : SourceTree
  pub T : TableTree
  pub design : Accepts source S
  pub fitting : AcceptsTable S table T
  pub before : List Obligation
  pub first : Obligation
  pub later : List Obligation
  pub listed : obligations T ≡ before ++ first ∷ later
  pub earlier : AllByRecursion (IsNarrow S T) before
  pub wide : 16 < free_bits S T first
  pub name_is : name ≡ obligation_name first
  pub count_is : count ≡ free_bits S T first

-- the text of the design is accepted, and the other text spells no table that fits it
pub record IsTableRefused (source table : List ℕ) : Type 0 where
  pub S : SourceTree
  pub design : Accepts source S
  pub none : (T : TableTree) → AcceptsTable S table T → ⊥

-- what the two texts lead to
abbrev pub IsDecided : List ℕ → List ℕ → DecideOutcome → Type 0
IsDecided source table (refused refusal) = IsRefused source refusal
IsDecided source table table_not_built = IsTableRefused source table
IsDecided source table (too_many_bits name count) = IsLimited source table name count
IsDecided source table (accepted obliged inside) = IsYes source table obliged inside
IsDecided source table (failed name lines) = IsNo source table name lines

-- the stage at which each outcome comes
abbrev pub decide_stage : DecideOutcome → Stage
decide_stage (refused refusal) = refusal_stage refusal
decide_stage table_not_built = stage.table
decide_stage (too_many_bits name count) = stage.limits
decide_stage (accepted obliged inside) = stage.verdict
decide_stage (failed name lines) = stage.verdict

-- what the texts are where they pass a stage; no command comes behind its verdict
abbrev pub Passes : List ℕ → List ℕ → Stage → Type 0
Passes source table stage.words = Unit {0}
Passes source table stage.reading = Unit {0}
Passes source table stage.scanning = (tokens : List Token) × Spells 0 source tokens
Passes source table stage.grammar = (S : SourceTree) × IsSourceOf source S
Passes source table stage.sizes = (S : SourceTree) × (IsSourceOf source S × IsWellSized S)
Passes source table stage.forms = (S : SourceTree) × Accepts source S
Passes source table stage.table = (S : SourceTree) × ((T : TableTree) × (Accepts source S × AcceptsTable S table T))
Passes source table stage.limits = (S : SourceTree) × ((T : TableTree) × (Accepts source S × AcceptsTable S table T × AllByRecursion (IsNarrow S T) (obligations T)))
Passes source table stage.verdict = ⊥

-- the two outcomes that come where the tokens of the design spell none
abbrev pub IsUnsettled : DecideOutcome → Type 0
IsUnsettled (refused refusal) = IsUngrammatical refusal
IsUnsettled outcome = ⊥

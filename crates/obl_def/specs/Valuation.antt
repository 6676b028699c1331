-- The valuations of an obligation: what it leaves free, and which values suit that.
use Rattle.std.specs.Prelude.{◌≡◌, ℕ, suc, ◌<◌, true, false, Option, Some, None}
use Rattle.lola_bits.specs.declared.vector.Bits.{Bits}
use Rattle.lola_tree.specs.Tree.{SourceTree}
use Rattle.lola_tree.specs.Value.{Values}
use Rattle.lola_tree.specs.design.Cycle.{IsState, IsGiven}
use Rattle.tab_tree.specs.declared.value.StateValue.TheVariants.{One}
use Rattle.tab_tree.specs.Table.{InsideTree, TableTree}
use Rattle.tab_tree.specs.Names.{Form}
use Rattle.tab_tree.specs.Step.{Arch, Words, steps_of}
use Rattle.tab_tree.specs.Headline.{IsActive, IsIdle, is_unstalled}
use Rattle.tab_tree.specs.Placed.{word_width, phase_at, loaded_form, turned_form, before}
use Rattle.tab_tree.specs.Suits.{IsOf, HasForm, SuitsArch}
use Rattle.obl_def.specs.Obligations.{Edge, stall, turn, on, finish, Obligation, cover, reset, edge}

-- what an obligation leaves free: in `cover` the word alone; else the state of the design and the input,
-- and on an edge the old values of states that a SHOWS row hides, loaded words, accumulators and the count
-- of turns, as far as they are in scope in its phase
pub record Valuation : Type 0 where
  pub word : Bits
  pub state : Values
  pub input : Values
  pub old : Arch
  pub words : Words
  pub count : ℕ

-- a name that is in scope has a vector of its form, and another has none
abbrev pub SuitsForm : Option Form → Option Bits → Type 0
SuitsForm None None = Unit {0}
SuitsForm None (Some x) = ⊥
SuitsForm (Some form) None = ⊥
SuitsForm (Some form) (Some x) = HasForm form (One x)

-- the loaded words of the phases below `loads` that take one, and the accumulators of those below `turns`
-- that have TURNS
pub record SuitsWords (S : SourceTree) (T : TableTree) (b : InsideTree) (loads turns : ℕ) (m : Words) : Type 0 where
  pub loaded : (j : ℕ) → SuitsForm (before loads (λ k. loaded_form S T (phase_at b.phases k)) j) (m.loaded j)
  pub turned : (j : ℕ) → SuitsForm (before turns (λ k. turned_form (phase_at b.phases k)) j) (m.turned j)

-- STALL is active on a stalled edge, and else idle
abbrev pub StallAt : TableTree → Edge → Values → Type 0
StallAt T stall inp = is_unstalled T inp ≡ false
StallAt T turn inp = is_unstalled T inp ≡ true
StallAt T (on next) inp = is_unstalled T inp ≡ true
StallAt T finish inp = is_unstalled T inp ≡ true

-- an edge out of phase p: any state and any input with RESET idle and STALL as the edge says
pub record SuitsEdge (S : SourceTree) (T : TableTree) (b : InsideTree) (p : ℕ) (e : Edge) (w : Valuation) : Type 0 where
  pub state : IsState S w.state
  pub given : IsGiven S w.input
  pub idle : IsIdle T w.input
  pub stalls : StallAt T e w.input
  pub old : SuitsArch T w.old
  pub words : SuitsWords S T b p (suc p) w.words
  pub count : w.count < 256

-- a reset cycle: any state and any input with RESET active and STALL idle
pub record SuitsReset (S : SourceTree) (T : TableTree) (w : Valuation) : Type 0 where
  pub state : IsState S w.state
  pub given : IsGiven S w.input
  pub active : IsActive T w.input
  pub unstalled : is_unstalled T w.input ≡ true

-- a valuation of an obligation: all that it leaves free suits its names
abbrev pub IsValuation : SourceTree → TableTree → Obligation → Valuation → Type 0
IsValuation S T cover w = IsOf (word_width S T) w.word
IsValuation S T (reset goal) w = SuitsReset S T w
IsValuation S T (edge u p phase e goal) w = SuitsEdge S T (steps_of u) p e w

-- The registers of a state by the numbers of signals: in a table whose rows from some number on are those of the state.
use Rattle.std.specs.Prelude.{◌≡◌, ℕ, ◌+◌, ◌<◌, length, replicate, Some}
use Rattle.lola_flat.specs.Value.{Env}
use Rattle.lola_flat.specs.Value as flat
use Rattle.lola_tree.specs.Tree.{SourceTree}
use Rattle.lola_tree.specs.Value.{Values}
use Rattle.lola_tree.specs.design.Signals.{register, Signal}
use Rattle.lola_tree.specs.design.Cycle.{IsSignal}
use Rattle.lola_unfold.specs.Flat.{flat_width, flat_count, numbers_of}
use Rattle.lola_meaning.specs.Tables.{elements_of}
use Rattle.tab_tree.specs.Names.{Names, no_names}

-- `@` names, where the rows of the state begin at a number
abbrev pub registers_from : SourceTree → ℕ → Names ℕ
registers_from S from = record no_names { register = λ path. Some (from + numbers_of S path) }

-- there stand the widths of each register, and its values in the state
pub record HasRegisters (S : SourceTree) (W : Env ℕ) (from : ℕ) : Type 0 where
  pub inside : (x : Signal) → IsSignal S register x → from + numbers_of S x.path < length W.signals
  pub widths : (x : Signal) → IsSignal S register x → flat.elements W (from + numbers_of S x.path) ≡ replicate (flat_count x.names x.type) (flat_width x.names x.type)

pub record HoldsRegisters (S : SourceTree) (N : Env ℕ) (from : ℕ) (s : Values) : Type 0 where
  pub inside : (x : Signal) → IsSignal S register x → from + numbers_of S x.path < length N.signals
  pub values : (x : Signal) → IsSignal S register x → flat.elements N (from + numbers_of S x.path) ≡ elements_of s x

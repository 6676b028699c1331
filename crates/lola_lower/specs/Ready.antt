-- What stands while the signals are made one after another: which signals the table has, and that the next one suits it.
use Rattle.std.specs.Prelude.{◌≡◌, ◌⊎◌, ℕ, true, List, [], length, get_or, Option, Some, None}
use Rattle.lola_net.specs.declared.node.Node.{Node}
use Rattle.lola_net.specs.Equations.{is_ordered}
use Rattle.lola_gate.specs.Gates.{gates_meaning}
use Rattle.lola_bits.specs.Lists.{IsIn}
use Rattle.lola_flat.specs.declared.design.SigKind.{SigKind}
use Rattle.lola_flat.specs.declared.design.SigKind.TheVariants.{Input, Pad, Wire, Register}
use Rattle.lola_flat.specs.Tree.{ExprTree, SignalTree, FlatTree}
use Rattle.lola_flat.specs.Value.{Env, env, mapped, Fits}
use Rattle.lola_flat.specs.Signals.{IsSignal, IsClock}
use Rattle.lola_eval.specs.Means.{IsWideAs, EnvKnown}
use Rattle.lola_lower.specs.Steps.{value_of, release_of}

-- an expression, where there is one, suits the vectors of a table
abbrev pub Suits : Env (List ℕ) → Option ExprTree → Type 0
Suits E None = Unit {0}
Suits E (Some e) = Fits (mapped length E) e

-- what is made for a signal does: of a pad its value and its release
abbrev pub KindSuits : SigKind → Env (List ℕ) → Option ExprTree → Type 0
KindSuits Pad E equation = Suits E (value_of equation) × Suits E (release_of equation)
KindSuits Wire E equation = Suits E equation
KindSuits Input E equation = Suits E equation
KindSuits Register E equation = Suits E equation

abbrev pub SignalSuits : Env (List ℕ) → SignalTree → Type 0
SignalSuits E s = KindSuits s.kind E s.equation

-- the table has the vectors of inputs but the clock, of registers, and of the signals that are made
pub record IsReady (F : FlatTree) (before : List ℕ) (d : List Node) (table : List (List (List ℕ))) : Type 0 where
  pub ordered : is_ordered d ≡ true
  pub long : length table ≡ length F.signals
  pub known : EnvKnown gates_meaning d (env table [])
  pub wide : (k : ℕ) (s : SignalTree) → IsSignal F k s → (IsClock F s → ⊥) → (s.kind ≡ Input) ⊎ ((s.kind ≡ Register) ⊎ IsIn k before) → IsWideAs s (get_or table k [])

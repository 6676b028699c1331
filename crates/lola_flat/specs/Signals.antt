-- The signals of a flat design, and what their expressions read.
use Rattle.std.specs.Prelude.{◌≡◌, ℕ, List, [], ◌∷◌, ◌++◌, map, replicate, get_or, Option, Some, None, slice_get}
use Rattle.lola_flat.specs.Tree.{ExprTree, SignalTree, FlatTree}
use Rattle.lola_flat.specs.Value.{Env, env, elements, Read, vector_of, array_of, outside_of}

-- a number is that of a signal
abbrev pub IsSignal : FlatTree → ℕ → SignalTree → Type 0
IsSignal F n s = slice_get F.signals n ≡ Some s

-- the widths of a design: each element of a signal has the signal's, and so has the outside value of a pad
abbrev pub widths_of : FlatTree → Env ℕ
widths_of F = env (map (λ (s : SignalTree). replicate s.count s.width) F.signals) (map (λ (s : SignalTree). s.width) F.signals)

-- the expressions of a signal: its place, where it has one, and its equation
abbrev pub there : Option ExprTree → List ExprTree
there None = []
there (Some e) = e ∷ []

abbrev pub expressions : SignalTree → List ExprTree
expressions s = there s.place ++ there s.equation

-- the signal that is read, or whose outside value is
abbrev pub number_read : Read → ℕ
number_read (vector_of n) = n
number_read (array_of n) = n
number_read (outside_of n) = n

-- two tables have the same for what is read
abbrev pub HaveSame : Env ℕ → Env ℕ → Read → Type 0
HaveSame W V (vector_of n) = elements W n ≡ elements V n
HaveSame W V (array_of n) = elements W n ≡ elements V n
HaveSame W V (outside_of n) = get_or W.outside n 0 ≡ get_or V.outside n 0

-- the clock is the signal whose path is its name alone
abbrev pub IsClock : FlatTree → SignalTree → Type 0
IsClock F s = (name : List ℕ) × ((F.clock ≡ Some name) × (s.path ≡ name ∷ []))

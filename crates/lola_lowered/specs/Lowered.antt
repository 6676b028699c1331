-- What the tests of `lola_lower` speak of.
use Rattle.std.specs.Prelude.{ℕ, List, [], ◌∷◌, Option}
use Rattle.lola_flat.specs.declared.design.SigKind.{SigKind}
use Rattle.lola_flat.specs.Tree.{ExprTree, SignalTree}

-- a signal of the root with one bit
abbrev pub one_bit : List ℕ → SigKind → ℕ → Option ExprTree → Option ExprTree → SignalTree
one_bit name kind count place equation = record { path = name ∷ []; kind = kind; width = 1; count = count; place = place; equation = equation }

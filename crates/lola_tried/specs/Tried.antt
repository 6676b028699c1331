-- What the tests of `lola_cases` speak of.
use Rattle.std.specs.Prelude.{ℕ, ◌+◌, ◌<◌, List, [], ◌∷◌, get_or, Option}
use Rattle.lola_flat.specs.declared.design.SigKind.{SigKind}
use Rattle.lola_flat.specs.Tree.{ExprTree, SignalTree, FlatTree}
use Rattle.lola_flat.specs.Cycle.{IsCycle, IsNext}
use Rattle.lola_cases.specs.Cases.{given_of, outside_of}

-- a signal of the root with one bit
abbrev pub one_bit : List ℕ → SigKind → ℕ → Option ExprTree → Option ExprTree → SignalTree
one_bit name kind count place equation = record { path = name ∷ []; kind = kind; width = 1; count = count; place = place; equation = equation }

-- behind each cycle of a case the element of a signal is below a bound
abbrev pub StaysBelow : FlatTree → ℕ → ℕ → ℕ → List ℕ → Type 0
StaysBelow F signal element bound numbers =
    (N after : List (List ℕ)) → IsCycle F (given_of F numbers) (outside_of F numbers) N → IsNext F N after → get_or (get_or after signal []) element 0 < bound

-- the first and the last of three numbers are below a bound together
abbrev pub EndIsBelow : ℕ → List ℕ → Type 0
EndIsBelow bound numbers = get_or numbers 0 0 + get_or numbers 2 0 < bound

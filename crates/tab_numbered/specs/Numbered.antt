-- The expressions of a table over signals by their numbers, where each name stands for a signal; a field or a LET is
-- one more signal, which has the value of its expression.
use Rattle.std.specs.Prelude.{ℕ, suc, List, [], ◌∷◌, Some}
use Rattle.lola_tree.specs.Value.{or_zero}
use Rattle.lola_flat.specs.Tree.{ExprTree, signal}
use Rattle.lola_renamed.specs.Renamed.{Meant, small, renamed}
use Rattle.tab_tree.specs.Table.{LetTree}
use Rattle.tab_tree.specs.Names.{Names, look, fixed, with_name}

-- a name that isn't in scope stands for signal 0
abbrev pub numbered : Names ℕ → Meant
numbered names = record { vector = λ r. signal (or_zero (look names r)); array = λ r. or_zero (look names r); count = λ c. small (or_zero (fixed c)) }

-- an expression over the signals that names stand for
abbrev pub expr_over : Names ℕ → LetTree → ExprTree
expr_over names row = renamed (numbered names) row.value

-- rows one behind another: the signal of the next row has number n
abbrev pub row_exprs : List LetTree → Names ℕ → ℕ → List ExprTree
row_exprs [] names n = []
row_exprs (row ∷ rows) names n = expr_over names row ∷ row_exprs rows (with_name names row.name (Some n)) (suc n)

-- and the names behind them
abbrev pub with_numbers : List LetTree → Names ℕ → ℕ → Names ℕ
with_numbers [] names n = names
with_numbers (row ∷ rows) names n = with_numbers rows (with_name names row.name (Some n)) (suc n)

-- What the clause of a hint is under the literals that are set false. Each literal has a mark of its own, so a literal
-- and its negation may both be set false, as those of a tautology are.
use Rattle.std.specs.Prelude.{ℤ, neg_ℤ, Bool, true, false, cond, not, List, [], ◌∷◌}
use Rattle.std.specs.List.{filter, list_all}
use Rattle.std.specs.Ordering.{int_eq}
use Rattle.lrat_check.specs.declared.hint.Hint.{Hint}
use Rattle.lrat_check.specs.declared.hint.Hint.TheVariants.{Conflict, Forces, Idle}

-- which literals are set false
abbrev pub Falses : Type 0
Falses = ℤ → Bool

abbrev pub no_falses : Falses
no_falses l = false

-- one more literal is set false
abbrev pub falsify : Falses → ℤ → Falses
falsify F l m = cond (int_eq m l) true (F m)

-- all literals of a clause are set false
abbrev pub falsify_all : Falses → List ℤ → Falses
falsify_all F [] = F
falsify_all F (l ∷ ls) = falsify_all (falsify F l) ls

-- a literal is set true by setting its negation false
abbrev pub is_true : Falses → ℤ → Bool
is_true F l = F (neg_ℤ l)

abbrev pub make_true : Falses → ℤ → Falses
make_true F l = falsify F (neg_ℤ l)

-- the literals of a clause that are open: not set false
abbrev pub open_in : Falses → List ℤ → List ℤ
open_in F clause = filter (λ l. not (F l)) clause

-- what a clause with these open literals is: with none the conflict; where all are one literal, which may be repeated,
-- and it isn't set true, it is to be set true
abbrev pub hint_with : Falses → List ℤ → Hint
hint_with F [] = Conflict
hint_with F (l ∷ ls) = cond (list_all (int_eq l) ls) (cond (is_true F l) Idle (Forces l)) Idle

abbrev pub hint_of : Falses → List ℤ → Hint
hint_of F clause = hint_with F (open_in F clause)

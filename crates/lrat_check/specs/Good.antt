-- Which additions are good.
use Rattle.std.specs.Prelude.{◌≡◌, ℕ, ℤ, pos, negsuc, Bool, true, false, cond, nat_lt, unsigned_abs, List, [], ◌∷◌, map, Option, None, Some, ⊤, IsOk}
use Rattle.std.specs.List.{find}
use Rattle.std.specs.declared.result.Result.{Result}
use Rattle.std.specs.declared.result.Result.TheVariants.{Ok, Err}
use Rattle.lrat_check.specs.Clauses.{InForce, clause_at}
use Rattle.lrat_check.specs.Hints.{Falses, no_falses, falsify_all, make_true, hint_of}
use Rattle.lrat_check.specs.declared.hint.Hint.{Hint}
use Rattle.lrat_check.specs.declared.hint.Hint.TheVariants.{Conflict, Forces, Idle}
use Rattle.lrat_check.specs.declared.line_error.LineError.{LineError}
use Rattle.lrat_check.specs.declared.line_error.LineError.TheVariants as line

-- what has been checked so far: the number of variables, the clauses in force, the greatest id so far, and whether the
-- empty clause was among the clauses so far, in force or not
pub record Checked : Type 0 where
  pub vars : ℕ
  pub force : InForce
  pub last : ℕ
  pub closed : Bool

-- what comes of a hint's clause, where `rest` says what comes of the later hints once a literal is set true
abbrev pub after_clause : ℤ → Hint → (ℤ → Option LineError) → Option LineError
after_clause hint Conflict rest = None
after_clause hint (Forces l) rest = rest l
after_clause hint Idle rest = Some (line.HintIdle hint)

abbrev pub after_hint : Falses → ℤ → Option (List ℤ) → (ℤ → Option LineError) → Option LineError
after_hint F hint None rest = Some (line.HintUnknown hint)
after_hint F hint (Some clause) rest = after_clause hint (hint_of F clause) rest

-- the fault of hints that are taken in turn until one is the conflict
abbrev pub hints_fault : InForce → Falses → List ℤ → Option LineError
hints_fault force F [] = Some line.NoConflict
hints_fault force F (hint ∷ hints) = after_hint F hint (clause_at force hint) (λ l. hints_fault force (make_true F l) hints)

-- the first variable of a clause that is above the last
abbrev pub unknown_var : ℕ → List ℤ → Option ℕ
unknown_var vars clause = find (nat_lt vars) (map unsigned_abs clause)

abbrev pub is_negative : ℤ → Bool
is_negative (pos n) = false
is_negative (negsuc n) = true

-- the first negative hint
abbrev pub negative_hint : List ℤ → Option ℤ
negative_hint hints = find is_negative hints

-- the first fault, and where there is none the other
abbrev pub first_fault : Option LineError → Option LineError → Option LineError
first_fault (Some fault) other = Some fault
first_fault None other = other

abbrev pub var_fault : Option ℕ → Option LineError
var_fault None = None
var_fault (Some var) = Some (line.VarUnknown var)

abbrev pub rat_fault : Option ℤ → Option LineError
rat_fault None = None
rat_fault (Some hint) = Some (line.Rat hint)

-- the fault of an addition, if it isn't good: its id isn't above the last, a variable is unknown, a hint is negative, or
-- the hints don't come to a conflict once the clause's own literals are set false
abbrev pub fault_of : Checked → ℕ → List ℤ → List ℤ → Option LineError
fault_of base id clause hints = cond (nat_lt base.last id) (first_fault (var_fault (unknown_var base.vars clause)) (first_fault
    (rat_fault (negative_hint hints)) (hints_fault base.force (falsify_all no_falses clause) hints))) (Some line.IdNotRising)

-- an answer is the fault, if there is one
abbrev pub Checks : {T : Type 0} → Option LineError → Result T LineError → Type 0
Checks (Some fault) answer = answer ≡ Err fault
Checks None answer = IsOk answer

-- so it is, want of memory aside, which comes on good additions alone
abbrev pub Answers : {T : Type 0} → Option LineError → Result T LineError → Type 0
Answers (Some fault) answer = answer ≡ Err fault
Answers None (Ok x) = ⊤
Answers None (Err e) = e ≡ line.Memory

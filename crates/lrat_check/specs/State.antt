-- What a contract sees of a checker.
use Rattle.std.specs.Prelude.{ℕ, ◌≤◌, refl}
use Rattle.std.specs.Coded.{Coded, code_by, coded×, coded_ℕ, coded_bool}
use Rattle.lrat_check.specs.Good.{Checked}
use Rattle.lrat_check.specs.Held.{force_code}
use Rattle.lrat_check.specs.Clauses.{InForce}
use Rattle.std.specs.Prelude.{Bool}

-- what has been checked, and how many more clauses and literals need no memory
pub record State : Type 0 where
  pub checked : Checked
  pub spare_clauses : ℕ
  pub spare_literals : ℕ

abbrev pub checked_code : Coded Checked
checked_code = code_by (ℕ × (InForce × (ℕ × Bool))) (coded× coded_ℕ (coded× force_code (coded× coded_ℕ coded_bool)))
    (λ c. (c.vars, (c.force, (c.last, c.closed)))) (λ p. record { vars = p.0; force = p.1.0; last = p.1.1.0; closed = p.1.1.1 }) (λ _. refl)

abbrev pub state_code : Coded State
state_code = code_by (Checked × (ℕ × ℕ)) (coded× checked_code (coded× coded_ℕ coded_ℕ))
    (λ s. (s.checked, (s.spare_clauses, s.spare_literals))) (λ p. record { checked = p.0; spare_clauses = p.1.0; spare_literals = p.1.1 }) (λ _. refl)

-- nothing spare is used up
pub record KeepsSpare (old new : State) : Type 0 where
  pub clauses : old.spare_clauses ≤ new.spare_clauses
  pub literals : old.spare_literals ≤ new.spare_literals

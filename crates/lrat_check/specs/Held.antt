-- What a contract sees of a table of clauses.
use Rattle.std.specs.Prelude.{ℕ, refl}
use Rattle.std.specs.Coded.{Coded, code_by, coded×, coded_ℕ, coded_ℤ, coded_list}
use Rattle.lrat_check.specs.Clauses.{InForce}

-- the clauses in force, the greatest id so far, and how many more clauses and literals need no memory
pub record Held : Type 0 where
  pub force : InForce
  pub last : ℕ
  pub spare_clauses : ℕ
  pub spare_literals : ℕ

abbrev pub force_code : Coded InForce
force_code = coded_list (coded× coded_ℕ (coded_list coded_ℤ))

abbrev pub held_code : Coded Held
held_code = code_by (InForce × (ℕ × (ℕ × ℕ))) (coded× force_code (coded× coded_ℕ (coded× coded_ℕ coded_ℕ)))
    (λ h. (h.force, (h.last, (h.spare_clauses, h.spare_literals))))
    (λ p. record { force = p.0; last = p.1.0; spare_clauses = p.1.1.0; spare_literals = p.1.1.1 }) (λ _. refl)

-- What a checker shows, and what is true of its fields.
use Rattle.std.specs.Prelude.{ℕ, ◌+◌, ◌*◌, ◌<◌, length}
use Rattle.std.specs.List.{AllByRecursion}
use Rattle.lrat_check.specs.declared.checker.Checker.TheInside.{Inside}
use Rattle.lrat_check.specs.Clauses.{InForce, AreKnown}
use Rattle.lrat_check.specs.Marks.{IsLatest}
use Rattle.lrat_check.specs.State.{State}

abbrev pub state : Inside → State
state c = record {
  checked = record { vars = c.vars; force = c.table.force; last = c.table.last; closed = c.closed };
  spare_clauses = c.table.spare_clauses;
  spare_literals = c.table.spare_literals;
}

-- the clauses in force are of known variables
abbrev pub ForceIsKnown : ℕ → InForce → Type 0
ForceIsKnown vars force = AllByRecursion (λ c. AreKnown vars c.1) force

-- each literal of a known variable has a place for its stamp, no stamp is later than the present one, and the clauses in
-- force are of known variables
pub record IsWhole (c : Inside) : Type 0 where
  pub room : 2 * c.vars + 1 < length c.stamps.items
  pub latest : IsLatest c.stamps.items c.stamp
  pub known : ForceIsKnown c.vars c.table.force

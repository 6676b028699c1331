use Rattle.tab_mach.proofs.Outcomes.{first_apart, inside_apart}
use Rattle.tab_mach.proofs.laws.one_class.Goals as goal

pub returns-clause-first : goal.returns-clause-first
returns-clause-first c = first_apart

pub returns-clause-inside : goal.returns-clause-inside
returns-clause-inside c = inside_apart

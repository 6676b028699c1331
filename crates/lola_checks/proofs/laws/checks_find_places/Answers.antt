use Rattle.lola_checks.proofs.Places.{check_places}
use Rattle.lola_checks.proofs.laws.checks_find_places.Goals as goal

pub returns : goal.returns
returns g c = λ here e k d. check_places g.A.Algebra.calls here e k d

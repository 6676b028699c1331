use Rattle.lola_app.proofs.Theorem.{holds}
use Rattle.lola_app.proofs.laws.headline.Goals as goal

pub returns : goal.returns
returns c = λ S T small fits all. holds c.next_is_a_state.ensures S T small fits all

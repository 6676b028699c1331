use Rattle.lola_cases.proofs.SameCycles.{same_cycle, turned}
use Rattle.lola_cases.proofs.laws.same_cycles.Goals as goal

pub returns : goal.returns
returns c = λ F given outside given_too outside_too N formed same. (
  same_cycle c.hangs_on_reads.ensures.value F formed given outside given_too outside_too same N,
  same_cycle c.hangs_on_reads.ensures.value F formed given_too outside_too given outside (turned F given outside given_too outside_too same) N,
)

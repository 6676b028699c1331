use Rattle.lola_eval.proofs.PlainCycle.{expr_place, signals_place, next_place, state_place}
use Rattle.lola_eval.proofs.laws.plain_finds_places.Goals as goal

pub returns-clause-expr : goal.returns-clause-expr
returns-clause-expr c = λ E e. let p = c.plain_is_never_full.ensures in expr_place p.op p.read p.write E e tt

pub returns-clause-signals : goal.returns-clause-signals
returns-clause-signals c = λ F E order. let p = c.plain_is_never_full.ensures in signals_place p.op p.read p.write F E order tt

pub returns-clause-next : goal.returns-clause-next
returns-clause-next c = λ E place equation old. let p = c.plain_is_never_full.ensures in next_place p.op p.read p.write E place equation old tt

pub returns-clause-state : goal.returns-clause-state
returns-clause-state c = λ E signals. let p = c.plain_is_never_full.ensures in state_place p.op p.read p.write E signals 0 tt

use Rattle.lola_meaning.proofs.laws.one_cycle.Goals as goal

pub returns-clause-cycle : goal.returns-clause-cycle
returns-clause-cycle c = λ S F s inp sized written is state given. c.elaborated_cycle.ensures.cycle S F s inp (c.well_sized_is_regular.ensures S sized written) is state given

pub returns-clause-chain : goal.returns-clause-chain
returns-clause-chain c = λ S F sized written is loop. c.elaborated_cycle.ensures.chain S F (c.well_sized_is_regular.ensures S sized written) is loop

use Rattle.lola_cases.specs.Cases.{given_of, outside_of}
use Rattle.lola_cases.proofs.laws.each_has_one_cycle.Goals as goal

pub returns : goal.returns
returns c = λ F numbers formed is.
    c.one_cycle.ensures F (given_of F numbers) (outside_of F numbers) formed (c.cases_are_given.ensures.given F numbers formed is) (c.cases_are_given.ensures.outside F numbers formed is)

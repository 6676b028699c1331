use Rattle.std.proofs.Common.{map, refl, ap, ◌∙◌}
use Rattle.std.proofs.lemmas.Result.{IfOk-weaker}
use Rattle.tab_parse.specs.Placed.{set_at}
use Rattle.tab_parse.specs.Grammar.{no_shows, some_shows}
use Rattle.tab_parse.proofs.Fronts.{shows_there, shows_none}
use Rattle.tab_parse.proofs.sets.take_shows.Goals as goal

pub returns-in-Some-clause-ok : goal.returns-in-Some-clause-ok
returns-in-Some-clause-ok c = IfOk-weaker c.take_list.result _ _ (λ read h. some_shows c.in-Some.first c.in-Some.ensures.ok h) c.take_list.ensures.ok

pub returns-in-Some-clause-whole : goal.returns-in-Some-clause-whole
returns-in-Some-clause-whole c = λ rows rest h lacks. c.take_list.ensures.whole rows rest (shows_there h lacks.no_shows c.in-Some.ensures.ok) lacks.list

pub returns-in-None-clause-ok : goal.returns-in-None-clause-ok
returns-in-None-clause-ok c = no_shows (ap (map set_at) c.new.ensures.items) refl

pub returns-in-None-clause-whole : goal.returns-in-None-clause-whole
returns-in-None-clause-whole c =
    λ rows rest h lacks.
    let none = shows_none h c.in-None.ensures.ok in
    (ap (map set_at) c.new.ensures.items ∙ none.0, none.1)

use Rattle.std.proofs.Common.{map, refl, ap, ◌∙◌}
use Rattle.std.proofs.lemmas.Result.{IfOk-weaker}
use Rattle.tab_parse.specs.Placed.{let_at}
use Rattle.tab_parse.specs.Grammar.{no_fields, some_fields}
use Rattle.tab_parse.proofs.TableEnds.{fields_there, fields_none}
use Rattle.tab_parse.proofs.table.take_maybe_fields.Goals as goal

pub returns-in-Some-clause-ok : goal.returns-in-Some-clause-ok
returns-in-Some-clause-ok c = IfOk-weaker c.take_fields.result _ _ (λ read h. some_fields c.in-Some.first c.in-Some.ensures.ok h) c.take_fields.ensures.ok

pub returns-in-Some-clause-whole : goal.returns-in-Some-clause-whole
returns-in-Some-clause-whole c = λ rows rest h lacks. c.take_fields.ensures.whole rows rest (fields_there h lacks.no_fields c.in-Some.ensures.ok) lacks.no_name

pub returns-in-None-clause-ok : goal.returns-in-None-clause-ok
returns-in-None-clause-ok c = no_fields (ap (map let_at) c.new.ensures.items) refl

pub returns-in-None-clause-whole : goal.returns-in-None-clause-whole
returns-in-None-clause-whole c =
    λ rows rest h lacks.
    let none = fields_none h c.in-None.ensures.ok in
    (ap (map let_at) c.new.ensures.items ∙ none.0, none.1)

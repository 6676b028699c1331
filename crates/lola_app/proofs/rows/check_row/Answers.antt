use Rattle.std.proofs.Common.{sym, ◌∙◌, ap}
use Rattle.lola_app.specs.Starts.{leaf_under}
use Rattle.lola_app.proofs.SetRows.{none_under, some_under}
use Rattle.lola_app.proofs.rows.check_row.Goals as goal

pub returns-in-None-clause-none : goal.returns-in-None-clause-none
returns-in-None-clause-none c = λ e small.
    none_under c.args.states.now c.args.row.now.name
    (ap (leaf_under c.args.states.now) (sym c.text.ensures) ∙ sym c.in-None.ensures) small.0

pub returns-clause-ok : goal.returns-clause-ok
returns-clause-ok c =
    (some_under c.args.states.now c.args.row.now.name c.in-Some.field-0 (ap (leaf_under c.args.states.now) (sym c.text.ensures) ∙ sym c.in-Some.ensures), c.in-Ok.ensures.small)

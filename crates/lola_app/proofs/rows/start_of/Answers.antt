use Rattle.std.proofs.Common.{sym, ◌∙◌, ap}
use Rattle.lola_bits.proofs.Options.{same_fault}
use Rattle.lola_app.specs.Starts.{leaf_under}
use Rattle.lola_app.proofs.SetRows.{none_under}
use Rattle.lola_app.proofs.rows.start_of.Goals as goal

pub returns-in_default-clause-none : goal.returns-in_default-clause-none
returns-in_default-clause-none c = λ e small.
    none_under c.args.states.now c.args.row.now.name
    (ap (leaf_under c.args.states.now) (sym c.text.ensures) ∙ sym c.leaf_under.ensures ∙ c.in_default.is) small.0

pub returns-in-Err-clause-none : goal.returns-in-Err-clause-none
returns-in-Err-clause-none c = λ e small. c.in-Err.ensures.none (same_fault _ _ e) small.1

pub returns-clause-ok : goal.returns-clause-ok
returns-clause-ok c = record {
  named = c.in_ok-from_str.ensures.ok ∙ c.text-2.ensures;
  leaf = ap (leaf_under c.args.states.now) (sym c.text.ensures) ∙ sym c.leaf_under.ensures ∙ c.in-Some.is;
  small = c.in-Ok.ensures.small;
  value_is = c.in-Ok.ensures.means;
}

use Rattle.std.proofs.Common.{ap, sym, ◌∙◌}
use Rattle.std.specs.Prelude.{bytes_eq, find}
use Rattle.tab_tree.specs.declared.table.SetRow.{SetRow}
use Rattle.tab_tree.specs.Table.{state_tree}
use Rattle.tab_mach.specs.Known.{names_of}
use Rattle.tab_mach.proofs.Sets.{found_value, set_found}
use Rattle.tab_mach.proofs.states.set_value.Goals as goal

pub returns-in-Some : goal.returns-in-Some
returns-in-Some c =
    let names = names_of c.args.known.now in
    let found = c.in-Some.ensures ∙ ap (λ name. find (λ (row : SetRow). bytes_eq row.name name) c.args.rows.now) c.text.ensures in
    c.row_value.ensures ∙ ap (λ o. found_value o c.args.old names) found ∙ sym (set_found c.args.rows.now (state_tree c.args.state.now) c.args.old names)

pub returns-in-None : goal.returns-in-None
returns-in-None c =
    let names = names_of c.args.known.now in
    let found = c.in-None.ensures ∙ ap (λ name. find (λ (row : SetRow). bytes_eq row.name name) c.args.rows.now) c.text.ensures in
    ap (λ o. found_value o c.args.old names) found ∙ sym (set_found c.args.rows.now (state_tree c.args.state.now) c.args.old names)

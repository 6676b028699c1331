use Rattle.std.proofs.Common.{ap, sym, ◌∙◌, map}
use Rattle.tab_tree.specs.declared.value.StateValue.{StateValue}
use Rattle.tab_tree.specs.Table.{let_tree}
use Rattle.tab_tree.specs.Names.{Names}
use Rattle.tab_mach.specs.Known.{last_value}
use Rattle.tab_mach.proofs.Rows.{names_fields}
use Rattle.tab_mach.proofs.scope.field_rows.Goals as goal

pub returns-clause-value : goal.returns-clause-value
returns-clause-value c = λ name.
    let known = c.in_ok-known.known in
    ap (last_value known.lets.items name) (sym (c.in_ok-known.ensures.base name))
    ∙ ap (λ (names : Names StateValue). names.named name) (c.in_ok-known.ensures.value ∙ names_fields c.args.word c.new.result.items c.new.ensures.items (map let_tree c.args.table.now.fields))

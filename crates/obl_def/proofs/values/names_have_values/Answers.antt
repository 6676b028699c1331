use Rattle.std.proofs.Common.{ℕ, Option, ◌∙◌, ap}
use Rattle.lola_tree.specs.declared.named.Ref.{Ref}
use Rattle.lola_tree.specs.Value.{value}
use Rattle.tab_tree.specs.Names.{look, forms_of, scope_by, number_at, vector_by, or_empty}
use Rattle.obl_def.proofs.Forms.{has, own_widths, own_values, value_has, rows_of}
use Rattle.obl_def.proofs.values.names_have_values.Goals as goal

pub returns-clause-each : goal.returns-clause-each
returns-clause-each c = λ forms names are r. has c.what_numbers_elements.ensures forms names are r

pub returns-clause-number : goal.returns-clause-number
returns-clause-number c = λ forms names are e w wide.
    let read = λ (r : Ref) (n : ℕ). number_at (look names r) n in
    ap (λ (o : Option ℕ). (or_empty (vector_by o (value (scope_by (forms_of names)) e read))).value) (own_widths c.what_numbers_elements.ensures forms names are e ∙ wide)
    ∙ own_values c.what_numbers_elements.ensures forms names are e read

pub returns-clause-vector : goal.returns-clause-vector
returns-clause-vector c = λ forms names are e. value_has c.what_numbers_elements.ensures forms names are e

pub returns-clause-rows : goal.returns-clause-rows
returns-clause-rows c = λ forms names rows are. rows_of c.what_numbers_elements.ensures rows forms names are

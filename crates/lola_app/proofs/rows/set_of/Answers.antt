use Rattle.std.proofs.Common.{◌≡◌, ℕ, Bool, true, false, List, ap₂, sym, ◌∙◌, map, string_bytes}
use Rattle.std.specs.Prelude.{bytes_eq, slice_index_or}
use Rattle.std.proofs.lemmas.Result.{IfOk-weaker}
use Rattle.lola_tree.specs.declared.named.Ref.{Ref}
use Rattle.lola_tree.specs.Tree.{tree}
use Rattle.lola_elab.specs.Logic.{logic_value, bit_number}
use Rattle.lola_elab.specs.Scope.{HasReading, Reads}
use Rattle.small_tree.specs.Table.{set_tree}
use Rattle.small_tree.specs.Step.{set_value, table_value}
use Rattle.lola_app.specs.Small.{IsSmallRow}
use Rattle.lola_app.proofs.ByRow.{all_at}
use Rattle.lola_app.proofs.SetRows.{at_row}
use Rattle.lola_app.proofs.rows.set_of.Goals as goal

pub returns-then-eq-clause-means : goal.returns-then-eq-clause-means
returns-then-eq-clause-means c =
    let name = string_bytes c.args.state.now.name in
    let row = c.row-item.result in
    let same : bytes_eq row.name name ≡ true = ap₂ (λ (x y : List ℕ). bytes_eq x y) (sym c.text.ensures) (sym c.as_str.ensures.value) ∙ sym c.if-eq.ensures in
    IfOk-weaker c.meaning.result
    (λ logic. (names : Ref → ℕ) (leaves : List Bool) → Reads c.args.scope.now names leaves → table_value (tree row.value) names ≡ bit_number (logic_value logic leaves))
    (λ logic. (names : Ref → ℕ) (leaves : List Bool) (old : ℕ) → Reads c.args.scope.now names leaves → old ≡ bit_number (slice_index_or leaves c.args.state.now.leaf false) →
    set_value (map set_tree c.args.rows.now) name old names ≡ bit_number (logic_value logic leaves))
    (λ logic means names leaves old reads is.
    sym (c.loop-row.invariant old names) ∙ at_row c.args.rows.now c.loop-row.row-index row name old names c.loop-row-test.true c.row-item.is same ∙ means names leaves reads)
    c.meaning.ensures.means

pub returns-then-eq-clause-none : goal.returns-then-eq-clause-none
returns-then-eq-clause-none c = λ e states all.
    c.meaning.ensures.none e
    (all_at (IsSmallRow states (HasReading c.args.scope.now)) set_tree c.args.rows.now c.loop-row.row-index c.row-item.result c.loop-row-test.true c.row-item.is all).1

use Rattle.std.proofs.Common.{◌≡◌, ℕ, Bool, List}
use Rattle.std.proofs.lemmas.Result.{IfOk-weaker}
use Rattle.lola_tree.specs.declared.named.Ref.{Ref}
use Rattle.lola_tree.specs.Tree.{tree}
use Rattle.lola_elab.specs.declared.scope.Scope.{Scope}
use Rattle.lola_elab.specs.Logic.{logic_value, bit_number}
use Rattle.lola_elab.specs.Scope.{HasReading, Reads}
use Rattle.lola_elab.specs.Small.{IsSmallExpr}
use Rattle.small_tree.specs.Step.{no_names, table_value}
use Rattle.lola_app.specs.Small.{IsNoName}
use Rattle.lola_app.proofs.ScopeMeans.{small_map, no_reading, no_reads}
use Rattle.lola_app.proofs.meaning.constant.Goals as goal

pub returns-clause-small : goal.returns-clause-small
returns-clause-small c =
    let scope : Scope = record { bare = c.new.result; source = c.new-2.result } in
    IfOk-weaker c.meaning.result
    (λ logic. IsSmallExpr (HasReading scope) (tree c.args.expr.now)) (λ logic. IsSmallExpr IsNoName (tree c.args.expr.now))
    (λ logic small. small_map (HasReading scope) IsNoName (λ r has. no_reading scope r c.new.ensures.items c.new-2.ensures.items has) (tree c.args.expr.now) small)
    c.meaning.ensures.small

pub returns-clause-means : goal.returns-clause-means
returns-clause-means c =
    let scope : Scope = record { bare = c.new.result; source = c.new-2.result } in
    IfOk-weaker c.meaning.result
    (λ logic. (names : Ref → ℕ) (leaves : List Bool) → Reads scope names leaves → table_value (tree c.args.expr.now) names ≡ bit_number (logic_value logic leaves))
    (λ logic. (leaves : List Bool) → table_value (tree c.args.expr.now) no_names ≡ bit_number (logic_value logic leaves))
    (λ logic means leaves. means no_names leaves (no_reads scope no_names leaves c.new.ensures.items c.new-2.ensures.items))
    c.meaning.ensures.means

pub returns-clause-none : goal.returns-clause-none
returns-clause-none c = λ e small.
    let scope : Scope = record { bare = c.new.result; source = c.new-2.result } in
    c.meaning.ensures.none e (small_map IsNoName (HasReading scope) (λ r none. absurd none) (tree c.args.expr.now) small)

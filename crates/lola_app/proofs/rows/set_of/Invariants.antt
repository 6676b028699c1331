use Rattle.std.proofs.Common.{◌≡◌, ℕ, drop, map, string_bytes}
use Rattle.lola_tree.specs.declared.named.Ref.{Ref}
use Rattle.small_tree.specs.Table.{set_tree}
use Rattle.small_tree.specs.Step.{set_value}
use Rattle.lola_app.proofs.rows.set_of.Given as goal

-- the row that counts is behind, if there is one
abbrev pub invariant-loop-row : goal.invariant-loop-row
invariant-loop-row l = (old : ℕ) (names : Ref → ℕ) →
    set_value (map set_tree (drop l.row-index l.rows)) (string_bytes l.state.name) old names ≡ set_value (map set_tree l.rows) (string_bytes l.state.name) old names

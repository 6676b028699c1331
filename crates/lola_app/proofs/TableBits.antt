-- In the scope of a table each name is one bit wide.
use Rattle.std.proofs.Common.{refl}
use Rattle.lola_tree.specs.declared.named.Ref.{Ref}
use Rattle.lola_elab.specs.Scope.{AreBitNames}
use Rattle.small_tree.specs.Step.{table_scope}

pub table_bits : (Names : Ref → Type 0) → AreBitNames Names table_scope
table_bits Names = record { width = λ r is. refl; number = λ r is. refl }

-- The root of a design of one module.
use Rattle.std.proofs.Common.{◌≡◌, List, [], ◌∷◌, ◌++◌, sym, ◌∙◌}
use Rattle.lola_tree.specs.Tree.{ModuleTree, SourceTree}
use Rattle.lola_tree.specs.Cycle.{IsRoot}

-- of two lists of one item each way
only_root : (m n : ModuleTree) (before : List ModuleTree) → m ∷ [] ≡ before ++ n ∷ [] → n ≡ m
only_root m n [] e = cc
only_root m n (b ∷ []) e = cc
only_root m n (b ∷ c ∷ bs) e = cc

pub root_is : (S : SourceTree) (m n : ModuleTree) → S.modules ≡ m ∷ [] → IsRoot S n → n ≡ m
root_is S m n only (before, e) = only_root m n before (sym only ∙ e)

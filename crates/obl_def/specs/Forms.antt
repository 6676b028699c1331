-- Names that stand for values of their forms: what an expression of a table reads, where it stands.
use Rattle.std.specs.Prelude.{ℕ, List, Option, Some, None}
use Rattle.tab_tree.specs.declared.value.StateValue.{StateValue}
use Rattle.tab_tree.specs.Names.{Form, Names}
use Rattle.tab_tree.specs.Suits.{HasForm}

-- what a name stands for has its form, and nothing where it isn't in scope
abbrev pub HasFormAt : Option Form → Option StateValue → Type 0
HasFormAt None None = Unit {0}
HasFormAt None (Some a) = ⊥
HasFormAt (Some form) None = ⊥
HasFormAt (Some form) (Some a) = HasForm form a

-- each name stands for a value of its form
pub record AreOf (forms : Names Form) (names : Names StateValue) : Type 0 where
  pub word : HasFormAt forms.word names.word
  pub count : HasFormAt forms.count names.count
  pub loaded : (j : ℕ) → HasFormAt (forms.loaded j) (names.loaded j)
  pub turned : (j : ℕ) → HasFormAt (forms.turned j) (names.turned j)
  pub named : (name : List ℕ) → HasFormAt (forms.named name) (names.named name)
  pub register : (path : List (List ℕ)) → HasFormAt (forms.register path) (names.register path)

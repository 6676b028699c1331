-- Names and words that stand for vectors that fit their widths.
use Rattle.std.specs.Prelude.{ℕ, List}
use Rattle.std.specs.List.{AllByRecursion}
use Rattle.tab_tree.specs.declared.value.StateValue.{StateValue}
use Rattle.tab_tree.specs.Names.{Names}
use Rattle.tab_mach.specs.Vectors.{AreVectors, IsValue}
use Rattle.tab_mach.specs.declared.words.Kept.{Kept}

-- each name, by what it is
pub record AreSound (names : Names StateValue) : Type 0 where
  pub word : IsValue names.word
  pub count : IsValue names.count
  pub loaded : (j : ℕ) → IsValue (names.loaded j)
  pub turned : (j : ℕ) → IsValue (names.turned j)
  pub named : (name : List ℕ) → IsValue (names.named name)
  pub register : (path : List (List ℕ)) → IsValue (names.register path)

-- each word that an instruction keeps
pub record AreWords (kept : Kept) : Type 0 where
  pub loaded : AllByRecursion AreVectors kept.loaded.items
  pub turned : AllByRecursion AreVectors kept.turned.items

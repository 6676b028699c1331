-- What the reader keeps of the parts of a table, as definitions read it.
use Rattle.std.specs.Prelude.{List, map}
use Rattle.lola_tree.specs.Tree.{Tree, tree}
use Rattle.small_tree.specs.Table.{StateTree, state_tree, SetTree, set_tree, ClassTree, class_tree}
use Rattle.small_read.specs.declared.roles.Roles.{Roles as KeptRoles}
use Rattle.small_read.specs.declared.reader.Views.{Views}
use Rattle.small_read.specs.declared.reader.Effects.{Effects}
use Rattle.small_read.specs.Grammar.{Roles}

abbrev pub roles_tree : KeptRoles → Roles
roles_tree roles = record { reset = roles.reset; loaded = roles.loaded }

-- what of a table speaks of the design's registers
pub record ViewsTree : Type 0 where
  pub states : List StateTree
  pub invariant : Tree
  pub boundary : Tree

abbrev pub views_tree : Views → ViewsTree
views_tree views = record { states = map state_tree views.states.items; invariant = tree views.invariant; boundary = tree views.boundary }

-- what a table says of instructions
pub record EffectsTree : Type 0 where
  pub starts : List SetTree
  pub classes : List ClassTree

abbrev pub effects_tree : Effects → EffectsTree
effects_tree effects = record { starts = map set_tree effects.starts.items; classes = map class_tree effects.classes.items }

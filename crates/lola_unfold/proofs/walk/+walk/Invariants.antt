use Rattle.std.proofs.Common.{◌≡◌, ◌+◌, ◌*◌, List, take}
use Rattle.lola_tree.specs.Tree.{ModuleTree}
use Rattle.lola_tree.specs.design.Places.{Place}
use Rattle.lola_unfold.specs.Translated.{Numbers}
use Rattle.lola_unfold.specs.Pieces.{made_tree, grow}
use Rattle.lola_unfold.specs.Parts.{Stands, locals_piece}
use Rattle.lola_unfold.proofs.walk.+walk.Given as goal

abbrev pub decreases-walk_locals : goal.decreases-walk_locals
decreases-walk_locals l = 4 * l.site.now.base.at + 2

abbrev pub decreases-walk_local : goal.decreases-walk_local
decreases-walk_local l = 4 * l.site.now.base.at + 1

abbrev pub decreases-walk_instance : goal.decreases-walk_instance
decreases-walk_instance l = 4 * l.site.now.base.at

abbrev pub decreases-walk_inside : goal.decreases-walk_inside
decreases-walk_inside l = 4 * l.site.now.base.at + 3

abbrev pub invariant-walk_locals-loop-local : goal.invariant-walk_locals-loop-local
invariant-walk_locals-loop-local l =
    (N : Numbers) (E : List ModuleTree) (a : Place) → Stands N l.parts l.site l.part E a →
    made_tree l.made ≡ grow (made_tree l.fn.made) (locals_piece N E a (take l.local-index l.part.declared.now.locals))

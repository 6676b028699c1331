use Rattle.std.proofs.Common.{◌≡◌, take, map}
use Rattle.lola_tree.specs.Tree.{stmt_tree}
use Rattle.lola_unfold.specs.Pieces.{made_tree, grow, body_piece}
use Rattle.lola_unfold.specs.Parts.{view_in}
use Rattle.lola_unfold.proofs.fill.fill_body.Given as goal

abbrev pub invariant-loop-stmt : goal.invariant-loop-stmt
invariant-loop-stmt l = made_tree l.made ≡ grow (made_tree l.fn.made) (body_piece (view_in l.part l.site) (map stmt_tree (take l.stmt-index l.body)))

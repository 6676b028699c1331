use Rattle.std.proofs.Common.{◌≡◌, drop, map}
use Rattle.lola_tree.specs.Tree.{actual_tree}
use Rattle.lola_unfold.specs.Pieces.{made_tree, grow, args_piece}
use Rattle.lola_unfold.specs.Parts.{view_in}
use Rattle.lola_unfold.proofs.fill.fill_args.Given as goal

abbrev pub invariant-loop-at : goal.invariant-loop-at
invariant-loop-at l =
    grow (made_tree l.made) (args_piece (view_in l.part l.site) (view_in l.outer l.outer_site) (drop l.at l.ports) (map actual_tree (drop l.at l.args)))
    ≡ grow (made_tree l.fn.made) (args_piece (view_in l.part l.site) (view_in l.outer l.outer_site) l.ports (map actual_tree l.args))

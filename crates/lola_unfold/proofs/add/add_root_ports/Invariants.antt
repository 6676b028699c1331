use Rattle.std.proofs.Common.{◌≡◌, take}
use Rattle.lola_unfold.specs.Pieces.{made_tree, grow, root_piece}
use Rattle.lola_unfold.specs.Parts.{view_in}
use Rattle.lola_unfold.proofs.add.add_root_ports.Given as goal

abbrev pub invariant-loop-port : goal.invariant-loop-port
invariant-loop-port l = made_tree l.made ≡ grow (made_tree l.fn.made) (root_piece (view_in l.part l.site) (take l.port-index l.ports))

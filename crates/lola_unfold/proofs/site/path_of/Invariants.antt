use Rattle.std.proofs.Common.{◌≡◌, take}
use Rattle.lola_unfold.specs.Parts.{path_in}
use Rattle.lola_unfold.proofs.site.path_of.Given as goal

abbrev pub invariant-loop-part : goal.invariant-loop-part
invariant-loop-part l = l.made ≡ path_in (take l.part-index l.path)

use Rattle.std.proofs.Common.{◌≡◌, ◌++◌, drop, string_bytes}
use Rattle.std.specs.Prelude.{codes}
use Rattle.lola_unfold.specs.Finished.{joined_names}
use Rattle.lola_unfold.proofs.unfolding.dotted_from.Given as goal

abbrev pub invariant-loop-name : goal.invariant-loop-name
invariant-loop-name l = string_bytes l.text ++ joined_names (codes ".") (drop l.name-index l.more) ≡ l.first ++ joined_names (codes ".") l.more

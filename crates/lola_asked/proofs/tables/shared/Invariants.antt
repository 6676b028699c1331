use Rattle.std.proofs.Common.{◌≡◌, ◌++◌, drop}
use Rattle.lola_asked.specs.Setting.{shared}
use Rattle.lola_asked.proofs.tables.shared.Given as goal

abbrev pub invariant-loop-name : goal.invariant-loop-name
invariant-loop-name l = l.made.items ++ shared (drop l.name-index l.further) l.rest ≡ shared l.further l.vectors

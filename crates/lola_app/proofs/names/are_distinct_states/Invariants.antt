use Rattle.std.proofs.Common.{◌↔◌, drop}
use Rattle.std.specs.BTreeSet.{contains_text}
use Rattle.lola_bits.specs.Lists.{AreDistinct}
use Rattle.lola_elab.proofs.NewNames.{AreNew}
use Rattle.lola_app.proofs.NameRows.{names_of_states}
use Rattle.lola_app.proofs.names.are_distinct_states.Given as goal

-- the names behind are new ones
abbrev pub invariant-loop-row : goal.invariant-loop-row
invariant-loop-row l = AreNew (contains_text l.names) (names_of_states (drop l.row-index l.rows)) ↔ AreDistinct (names_of_states l.rows)

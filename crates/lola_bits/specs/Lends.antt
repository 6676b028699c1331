-- What becomes of a list whose items are lent for writing.
use Rattle.std.specs.Prelude.{List, ◌++◌, length, take, drop}
use Rattle.std.specs.Borrow.{Lends, Fml, RattleType, MutBor, Array}
use Rattle.lola_bits.specs.contracts.seq.Seq.{the_row}

-- the items that were written, in the place of those that were lent
abbrev pub with_items : {X : Type 0} → List X → List X → List X
with_items old written = take (length old) (written ++ drop (length written) old)

-- the slice is lent from the list, and the list ends as what is written to the slice
abbrev pub lends_items : (T : RattleType) → MutBor (List T.Denot) → MutBor (List T.Denot) → Fml
lends_items T owner slice = Lends (the_row T) (Array T 0) owner slice (with_items owner.now)

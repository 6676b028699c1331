use Rattle.std.proofs.Common.{drop}
use Rattle.lola_bits.specs.Lists.{IsIn}
use Rattle.lola_order.proofs.chain.place_of.Given as goal

abbrev pub invariant-loop-at : goal.invariant-loop-at
invariant-loop-at l = IsIn l.signal l.signals → IsIn l.signal (drop l.at l.signals)

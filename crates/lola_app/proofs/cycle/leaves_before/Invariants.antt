use Rattle.std.proofs.Common.{◌≡◌, ◌++◌, drop, length, map}
use Rattle.lola_bits.specs.BitLists.{number_of}
use Rattle.lola_app.specs.Trial.{seen}
use Rattle.lola_app.proofs.cycle.leaves_before.Given as goal

-- the bits so far, and those behind
abbrev pub invariant-loop-vector : goal.invariant-loop-vector
invariant-loop-vector l =
    l.before.items ++ seen (map length (drop l.vector-index l.vectors)) (map number_of (drop l.vector-index l.vectors)) ≡ seen (map length l.vectors) (map number_of l.vectors)

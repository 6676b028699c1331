use Rattle.std.proofs.Common.{ℕ, List, drop}
use Rattle.lola_bits.specs.Lists.{IsAt}
use Rattle.lola_app.specs.Vectors.{bit_names}
use Rattle.lola_app.proofs.face.place_of_bit.Given as goal

-- what is at the place among the vectors of one bit stands at the place that is left behind those passed
abbrev pub invariant-loop-place : goal.invariant-loop-place
invariant-loop-place l = (name : List ℕ) → IsAt (bit_names l.vectors) l.bit name → IsAt (bit_names (drop l.place l.vectors)) l.left name

use Rattle.std.proofs.Common.{◌≡◌, ◌++◌, drop, length, map}
use Rattle.lola_bits.specs.BitLists.{number_of}
use Rattle.lola_app.specs.Valuations.{AreWithin}
use Rattle.lola_app.proofs.cycle.number_vectors.Given as goal

-- the vectors so far, and the numbers behind
abbrev pub invariant-loop-place : goal.invariant-loop-place
invariant-loop-place l = record {
  within : AreWithin (drop l.place l.widths) (drop l.place l.numbers);
  long : map length l.vectors.items ++ drop l.place l.widths ≡ l.widths;
  mean : map number_of l.vectors.items ++ drop l.place l.numbers ≡ l.numbers;
}

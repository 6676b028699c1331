use Rattle.std.proofs.Common.{◌≡◌, ◌+◌, ◌*◌, ◌^◌, length}
use Rattle.lola_bits.specs.BitLists.{number_of}
use Rattle.lola_elab.proofs.evaluate.number_bits.Given as goal

-- the bits so far, and what is left above them
abbrev pub invariant-loop-place : goal.invariant-loop-place
invariant-loop-place l = record {
  long : length l.bits.items ≡ l._place;
  made : number_of l.bits.items + 2 ^ length l.bits.items * l.rest ≡ l.fn.value;
}

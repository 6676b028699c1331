use Rattle.std.proofs.Common.{◌≤◌, length}
use Rattle.veri_read.specs.Gaps.{IsGap, front_number}
use Rattle.veri_read.proofs.bits.exceeds.Given as goal

abbrev pub invariant-loop-place : goal.invariant-loop-place
invariant-loop-place l = record {
  places : (length l.above ≤ l.places) × (length l.below ≤ l.places);
  gap : IsGap l.gap (front_number l.place l.places l.above) (front_number l.place l.places l.below);
}

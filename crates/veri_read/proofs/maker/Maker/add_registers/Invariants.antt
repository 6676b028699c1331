use Rattle.std.proofs.Common.{◌≡◌, drop}
use Rattle.veri_read.specs.Held.{said_of}
use Rattle.veri_read.specs.Made.{with_registers}
use Rattle.veri_read.specs.Making.{made_of, IsSound}
use Rattle.veri_read.proofs.maker.Maker.add_registers.Given as goal

abbrev pub invariant-loop-place : goal.invariant-loop-place
invariant-loop-place l = record {
  made : with_registers (made_of l.self) (drop l.place (said_of l.reader).declared) ≡ with_registers (made_of l.fn.self) (said_of l.reader).declared;
  sound : IsSound (made_of l.self);
}

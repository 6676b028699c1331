use Rattle.std.proofs.Common.{◌≡◌, drop, map}
use Rattle.veri_read.specs.Held.{assigned_of}
use Rattle.veri_read.specs.Made.{with_assigns}
use Rattle.veri_read.specs.Making.{made_of, IsSound}
use Rattle.veri_read.proofs.maker.Maker.add_assigns.Given as goal

abbrev pub invariant-loop-assign : goal.invariant-loop-assign
invariant-loop-assign l = record {
  made : with_assigns (map assigned_of (drop l.assign-index l.assigns)) (made_of l.self) ≡ with_assigns (map assigned_of l.assigns) (made_of l.fn.self);
  sound : IsSound (made_of l.self);
}

use Rattle.std.proofs.Common.{◌≡◌, ◌*◌, Some}
use Rattle.lola_tree.specs.Value.{repeated}
use Rattle.tab_mach.specs.Vectors.{AreVectors, run_by}
use Rattle.tab_mach.proofs.vectors.times_over.Given as goal

-- the copies so far
abbrev pub invariant-loop-time : goal.invariant-loop-time
invariant-loop-time l = record {
  copies : l.run ≡ run_by (Some (l._time * l.part.width)) (repeated l._time l.part.width l.part.value);
  fits : AreVectors l.run;
}

use Rattle.std.proofs.Common.{◌≡◌, drop, map}
use Rattle.std.specs.List.{list_any}
use Rattle.veri_read.specs.Faults.{uses_name}
use Rattle.veri_read.specs.Held.{assigned_of}
use Rattle.veri_read.proofs.reader.is_used.Given as goal

abbrev pub invariant-loop-assign : goal.invariant-loop-assign
invariant-loop-assign l = list_any (uses_name l.name) (map assigned_of (drop l.assign-index l.assigns)) ≡ list_any (uses_name l.name) (map assigned_of l.assigns)

use Rattle.std.proofs.Common.{◌≡◌, drop}
use Rattle.std.specs.List.{list_all}
use Rattle.veri_read.specs.Faults.{is_assigned}
use Rattle.veri_read.specs.Held.{listed, said_of}
use Rattle.veri_read.proofs.reader.Reader.are_assigned.Given as goal

abbrev pub invariant-loop-place : goal.invariant-loop-place
invariant-loop-place l = list_all (is_assigned (said_of l.self)) (drop l.place (listed l.self.declared)) ≡ list_all (is_assigned (said_of l.self)) (listed l.self.declared)

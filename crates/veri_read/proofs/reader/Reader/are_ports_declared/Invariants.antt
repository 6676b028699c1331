use Rattle.std.proofs.Common.{◌≡◌, drop}
use Rattle.std.specs.List.{list_all}
use Rattle.veri_read.specs.Faults.{is_declared_port, kind_of}
use Rattle.veri_read.specs.Held.{listed, said_of}
use Rattle.veri_read.proofs.reader.Reader.are_ports_declared.Given as goal

abbrev pub invariant-loop-place : goal.invariant-loop-place
invariant-loop-place l = list_all (λ p. is_declared_port (kind_of (said_of l.self) p.0)) (drop l.place (listed l.self.ports)) ≡ list_all (λ p. is_declared_port (kind_of (said_of l.self) p.0)) (listed l.self.ports)

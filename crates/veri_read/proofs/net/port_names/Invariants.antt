use Rattle.std.proofs.Common.{◌≡◌, ◌++◌, drop, map}
use Rattle.veri_read.specs.Held.{listed}
use Rattle.veri_read.proofs.net.port_names.Given as goal

abbrev pub invariant-loop-place : goal.invariant-loop-place
invariant-loop-place l = l.names ++ map (λ p. p.0) (drop l.place (listed l.ports)) ≡ map (λ p. p.0) (listed l.ports)

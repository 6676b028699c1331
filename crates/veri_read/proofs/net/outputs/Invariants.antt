use Rattle.std.proofs.Common.{◌≡◌, ◌≤◌, ◌/◌, ◌++◌, drop, length}
use Rattle.std.specs.List.{AllByRecursion}
use Rattle.veri_read.specs.Held.{said_of}
use Rattle.veri_read.specs.Made.{outputs_of}
use Rattle.veri_read.specs.Making.{made_of}
use Rattle.veri_read.proofs.net.outputs.Given as goal

abbrev pub invariant-loop-place : goal.invariant-loop-place
invariant-loop-place l = record {
  more : l.outputs ++ outputs_of (made_of l.maker).literals (drop l.place (said_of l.reader).declared) ≡ outputs_of (made_of l.maker).literals (said_of l.reader).declared;
  known : AllByRecursion (λ o. o.1 / 2 ≤ length (made_of l.maker).nodes) l.outputs;
}

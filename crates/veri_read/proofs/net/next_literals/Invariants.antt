use Rattle.std.proofs.Common.{◌≡◌, ◌≤◌, ◌/◌, ◌++◌, drop, length}
use Rattle.std.specs.List.{AllByRecursion}
use Rattle.veri_read.specs.Held.{said_of}
use Rattle.veri_read.specs.Made.{next_literals}
use Rattle.veri_read.specs.Making.{made_of}
use Rattle.veri_read.proofs.net.next_literals.Given as goal

abbrev pub invariant-loop-place : goal.invariant-loop-place
invariant-loop-place l = record {
  more : l.next ++ next_literals (said_of l.reader) (made_of l.maker).literals (drop l.place (said_of l.reader).declared) ≡ next_literals (said_of l.reader) (made_of l.maker).literals (said_of l.reader).declared;
  known : AllByRecursion (λ k. k / 2 ≤ length (made_of l.maker).nodes) l.next;
}

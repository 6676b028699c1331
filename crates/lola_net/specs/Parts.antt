-- The parts of a cycle's answer, and the bits that come into it, as the code has them.
use Rattle.std.specs.Prelude.{ℕ, Bool, List, Option}
use Rattle.lola_net.specs.declared.node.Node.{Node}
use Rattle.lola_net.specs.declared.net.Kind.{Kind}
use Rattle.lola_net.specs.declared.net.Kind.TheVariants as kind
use Rattle.lola_net.specs.declared.run.Bits.{Bits}
use Rattle.lola_net.specs.declared.run.Part.{Part}
use Rattle.lola_net.specs.declared.run.Part.TheVariants as part
use Rattle.lola_net.specs.Counts.{free_here, latch_here, pad_here}
use Rattle.lola_net.specs.Run.{Sources, pad_bit, next_bit}

abbrev pub sources_of : Bits → Sources
sources_of b = record { state = b.state.now; inputs = b.inputs.now; outside = b.outside.now }

abbrev pub part_bit : Part → List Bool → Node → Bool → Option Bool
part_bit part.Pad values x value = pad_bit x value
part_bit part.Next values x value = next_bit values x value

abbrev pub kind_here : Kind → Node → ℕ
kind_here kind.Free x = free_here x
kind_here kind.Latch x = latch_here x
kind_here kind.Pad x = pad_here x

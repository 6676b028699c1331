-- What writing a text makes of a sink.
use Rattle.std.specs.Prelude.{◌≡◌, ℕ, List, take, Option, Result, Ok, Err}
use Rattle.lola_port.specs.declared.sink.SinkError.{SinkError}
use Rattle.lola_port.specs.declared.sink.SinkError.TheVariants as sink
use Rattle.lola_port.specs.Outside.{Appended, Rose}

-- a front of the text was appended
abbrev pub AppendedFront : Option (List ℕ) → Option (List ℕ) → List ℕ → Type 0
AppendedFront old new text = (n : ℕ) × Appended old new (take n text)

-- the whole text was appended, and the sink's count of faults is as before; or the count rose, or memory
-- was wanting and it is as before, and a front of the text was appended
abbrev pub Wrote : List ℕ → Option (List ℕ) → Option (List ℕ) → ℕ → ℕ → Result Unit SinkError → Type 0
Wrote text old new before now (Ok done) = Appended old new text × (now ≡ before)
Wrote text old new before now (Err sink.Failed) = AppendedFront old new text × Rose before now
Wrote text old new before now (Err sink.Memory) = AppendedFront old new text × (now ≡ before)

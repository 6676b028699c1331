-- A sink in memory: its bytes, and which of its calls fail.
use Rattle.std.specs.Prelude.{◌≡◌, ℕ, ◌<◌, List, ◌++◌, length, Contains, Result, Ok, Err}
use Rattle.lola_port.specs.Outside.{next_count}
use Rattle.lola_port.specs.declared.mem_sink.MemSink.{MemSink}
use Rattle.lola_port.specs.declared.sink.SinkError.{SinkError}
use Rattle.lola_port.specs.declared.sink.SinkError.TheVariants.{Failed, Memory}

-- the bytes that were taken
abbrev pub bytes_of : MemSink → List ℕ
bytes_of sink = sink.bytes.items

-- the numbers of the calls that fail, counted over the calls with a piece that isn't empty
abbrev pub failing_of : MemSink → List ℕ
failing_of sink = sink.failing.items

-- the number of the next call with a piece that isn't empty
abbrev pub calls_of : MemSink → ℕ
calls_of sink = sink.calls

-- how often a call has failed
abbrev pub faults_of : MemSink → ℕ
faults_of sink = sink.faults

-- the next call with a piece that isn't empty is one of those that fail
abbrev pub IsDue : MemSink → Type 0
IsDue sink = Contains (failing_of sink) (calls_of sink)

-- what an answer says of the sink before the call and after it: a piece is taken whole, or the call
-- was due and its fault was counted, or memory was wanting
abbrev pub MemSunk : MemSink → MemSink → List ℕ → Result ℕ SinkError → Type 0
MemSunk old new piece (Ok n) = (n ≡ length piece) × (bytes_of new ≡ bytes_of old ++ piece) × (faults_of new ≡ faults_of old) × (0 < length piece → ¬ IsDue old)
MemSunk old new piece (Err Failed) = IsDue old × (faults_of new ≡ next_count (faults_of old))
MemSunk old new piece (Err Memory) = ¬ IsDue old

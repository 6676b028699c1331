-- What a text is read as.
use Rattle.std.specs.Prelude.{◌≡◌, ◌⊎◌, ℕ, List, Option, Some, None, Result, Ok, Err}
use Rattle.lola_net.specs.declared.net.Net.{Net}
use Rattle.veri_read.specs.declared.error.VeriError.{VeriError}
use Rattle.veri_read.specs.declared.error.VeriError.TheVariants as fault
use Rattle.veri_read.specs.Tokens.{items}
use Rattle.veri_read.specs.Said.{Said, nothing_said}
use Rattle.veri_read.specs.Faults.{said_by}
use Rattle.veri_read.specs.Made.{Made, made, net_of}

-- the first fault, or the net
abbrev pub net_or : Said → Made → Option VeriError → Result Net VeriError
net_or s m (Some f) = Err f
net_or s m None = Ok (net_of s m)

-- where there is no place for the gate of an assign that was complete before the first fault, this comes before it
abbrev pub answer_with : Said → Option VeriError → Option Made → Result Net VeriError
answer_with s f None = Err fault.Full
answer_with s f (Some m) = net_or s m f

abbrev pub answer : Said × Option VeriError → Result Net VeriError
answer r = answer_with r.0 r.1 (made r.0)

-- what a text is read as: the net of what it says, or its first fault
abbrev pub reading : List ℕ → Result Net VeriError
reading bytes = answer (said_by (items bytes) nothing_said)

-- an answer, want of memory aside
abbrev pub Told : Result Net VeriError → Result Net VeriError → Type 0
Told due result = (result ≡ due) ⊎ (result ≡ Err fault.Memory)

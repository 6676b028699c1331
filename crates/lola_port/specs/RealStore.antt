-- What becomes of what was read from the system.
use Rattle.std.specs.Prelude.{◌≡◌, ℕ, ◌<◌, ◌≤◌, length, Result, Ok, Err, IsErr, IsOkAnd, Vec}
use Rattle.std.specs.declared.alloc.Global.{Global}
use Rattle.lola_port.specs.declared.store.StoreError.{StoreError}
use Rattle.lola_port.specs.declared.store.StoreError.TheVariants.{Failed, TooLong, Memory}

-- bytes that were read are answered exactly where they keep the limit, and TooLong exactly where they
-- don't; the other two answers come where the reading failed
abbrev pub Kept : {E : Type 0} → Result (Vec ℕ Global) E → ℕ → Result (Vec ℕ Global) StoreError → Type 0
Kept read limit (Ok bytes) = (read ≡ Ok bytes) × (length bytes.items ≤ limit)
Kept read limit (Err TooLong) = IsOkAnd read (λ bytes. limit < length bytes.items)
Kept read limit (Err Failed) = IsErr read
Kept read limit (Err Memory) = IsErr read

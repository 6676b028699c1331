-- How often calls have failed, by the name that they asked for.
use Rattle.std.specs.Prelude.{ℕ, List, IsSome, unwrap_or}
use Rattle.std.specs.BTreeMap.{get_by_text}
use Rattle.lola_port.specs.declared.faults.Faults.{Faults}
use Rattle.lola_port.specs.declared.store.StoreError.{StoreError}
use Rattle.lola_port.specs.declared.store.StoreError.TheVariants.{Failed, TooLong, Memory}
use Rattle.lola_port.specs.Outside.{Counts, RoseAt, Same}

-- the count of each name, 0 for a name that was never asked for
abbrev pub counts_of : Faults → Counts
counts_of faults name = unwrap_or (get_by_text faults.counts name) 0

-- the count of a name has its place, so that it can rise without memory
abbrev pub HasPlace : Faults → List ℕ → Type 0
HasPlace faults name = IsSome (get_by_text faults.counts name)

-- an answer to a call that is to fail: Failed, where the count of the name rose, or Memory, where
-- every count is as before
abbrev pub Fails : List ℕ → Counts → Counts → StoreError → Type 0
Fails name before now Failed = RoseAt name before now
Fails name before now TooLong = ⊥
Fails name before now Memory = Same before now

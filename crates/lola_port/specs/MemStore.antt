-- A store in memory: its files, and which of its calls fail.
use Rattle.std.specs.Prelude.{◌≡◌, ℕ, ◌<◌, ◌≤◌, ◌⊎◌, List, map, length, Contains, IsSomeAnd, Some, None, Result, Ok, Err, Vec, String, string_bytes}
use Rattle.std.specs.declared.alloc.Global.{Global}
use Rattle.lola_port.specs.declared.mem_store.MemStore.{MemStore}
use Rattle.lola_port.specs.declared.store.StoreError.{StoreError}
use Rattle.lola_port.specs.declared.store.StoreError.TheVariants.{Failed, TooLong, Memory}
use Rattle.lola_port.specs.Outside.{Files, Counts, lookup}
use Rattle.lola_port.specs.Faults.{counts_of}

-- a text and bytes, as a file
abbrev pub file_of : String Global × Vec ℕ Global → List ℕ × List ℕ
file_of file = (string_bytes file.0, file.1.items)

-- the files of a vector of texts and bytes
abbrev pub file_list : List (String Global × Vec ℕ Global) → Files
file_list files = map file_of files

-- the files of the store
abbrev pub files_of : MemStore → Files
files_of store = file_list store.files.items

-- the numbers of the calls that fail
abbrev pub failing_of : MemStore → List ℕ
failing_of store = store.failing.items

-- the number of the next call
abbrev pub calls_of : MemStore → ℕ
calls_of store = store.calls

-- how often reads of each name have failed
abbrev pub failed_reads_of : MemStore → Counts
failed_reads_of store = counts_of store.failed_reads

-- how often writes of each name have failed
abbrev pub failed_writes_of : MemStore → Counts
failed_writes_of store = counts_of store.failed_writes

-- the next call is one of those that fail
abbrev pub IsDue : MemStore → Type 0
IsDue store = Contains (failing_of store) (calls_of store)

-- when a read answers what, want of memory aside. One case alone can hold of a store, a name and a
-- limit, so each answer comes exactly where its case holds
abbrev pub MemRead : MemStore → List ℕ → ℕ → Result (Vec ℕ Global) StoreError → Type 0
MemRead store name limit (Ok bytes) = (¬ IsDue store) × (lookup (files_of store) name ≡ Some bytes.items) × (length bytes.items ≤ limit)
MemRead store name limit (Err Failed) = IsDue store ⊎ (lookup (files_of store) name ≡ None)
MemRead store name limit (Err TooLong) = (¬ IsDue store) × IsSomeAnd (lookup (files_of store) name) (λ bytes. limit < length bytes)
MemRead store name limit (Err Memory) = Unit {0}

-- when a write answers what, and what becomes of the files where it fails, want of memory aside: it
-- fails exactly where it is due
abbrev pub MemWritten : MemStore → MemStore → Result Unit StoreError → Type 0
MemWritten old new (Ok done) = ¬ IsDue old
MemWritten old new (Err Failed) = IsDue old × (files_of new ≡ files_of old)
MemWritten old new (Err TooLong) = ⊥
MemWritten old new (Err Memory) = Unit {0}

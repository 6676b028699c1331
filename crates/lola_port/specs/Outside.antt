-- What a store tells of its files and a sink of its bytes, which counts of faults they keep, and
-- what one call makes of these.
use Rattle.std.specs.Prelude.{◌≡◌, ◌≢◌, ℕ, ◌+◌, ◌-◌, ◌^◌, min, ◌<◌, ◌≤◌, List, [], ◌∷◌, ◌++◌, length, take, Option, Some, None, IfSome, IsSomeAnd, Result, Ok, Err, Vec, bytes_eq, if◌then◌else◌}
use Rattle.std.specs.declared.alloc.Global.{Global}
use Rattle.lola_port.specs.declared.store.StoreError.{StoreError}
use Rattle.lola_port.specs.declared.store.StoreError.TheVariants as store
use Rattle.lola_port.specs.declared.sink.SinkError.{SinkError}
use Rattle.lola_port.specs.declared.sink.SinkError.TheVariants as sink

-- files in a list, each a name and the bytes that stand under it
abbrev pub Files : Type 0
Files = List (List ℕ × List ℕ)

-- the bytes under a name: those of the first file of that name, or none where the name is absent
abbrev pub lookup : Files → List ℕ → Option (List ℕ)
lookup [] name = None
lookup (file ∷ files) name = if bytes_eq file.0 name then Some file.1 else lookup files name

-- the files of all names but one
abbrev pub without : List ℕ → Files → Files
without name [] = []
without name (file ∷ files) = if bytes_eq file.0 name then without name files else file ∷ without name files

-- no two files have the same name
abbrev pub AreDistinct : Files → Type 0
AreDistinct [] = Unit {0}
AreDistinct (file ∷ files) = (lookup files file.0 ≡ None) × AreDistinct files

-- a count for each name
abbrev pub Counts : Type 0
Counts = List ℕ → ℕ

-- a count after one more: it stands still at the greatest u64
abbrev pub next_count : ℕ → ℕ
next_count count = min (count + 1) (2 ^ 64 - 1)

-- a count rose: it is greater now than before, or stands at the greatest u64 now
abbrev pub Rose : ℕ → ℕ → Type 0
Rose before now = now < 2 ^ 64 - 1 → before < now

-- the count of one name rose, no count fell, and those of the other names are as before
pub record RoseAt (name : List ℕ) (before now : Counts) : Type 0 where
  pub rose : Rose (before name) (now name)
  pub not_fallen : before name ≤ now name
  pub others : (other : List ℕ) → other ≢ name → now other ≡ before other

-- every count is as before
abbrev pub Same : Counts → Counts → Type 0
Same before now = (name : List ℕ) → now name ≡ before name

-- the answer Failed comes only where the count of its name rose, and no other answer raises a count
abbrev pub Counted : {T : Type 0} → List ℕ → Counts → Counts → Result T StoreError → Type 0
Counted name before now (Ok value) = Same before now
Counted name before now (Err store.Failed) = RoseAt name before now
Counted name before now (Err store.TooLong) = Same before now
Counted name before now (Err store.Memory) = Same before now

-- what was told before is told after, and the two stand in a relation
abbrev pub StaysTold : {T : Type 0} → (T → T → Type 0) → Option T → Option T → Type 0
StaysTold R old new = IfSome old (λ before. IsSomeAnd new (λ after. R before after))

-- what a read may answer: bytes that keep the limit and are those under the name, where the list is
-- told; or that they are too many, where as far as the list is told more than the limit stand there
abbrev pub Read : Option Files → List ℕ → ℕ → Result (Vec ℕ Global) StoreError → Type 0
Read told name limit (Ok bytes) = (length bytes.items ≤ limit) × IfSome told (λ files. lookup files name ≡ Some bytes.items)
Read told name limit (Err store.Failed) = Unit {0}
Read told name limit (Err store.TooLong) = IfSome told (λ files. IsSomeAnd (lookup files name) (λ bytes. limit < length bytes))
Read told name limit (Err store.Memory) = Unit {0}

-- the bytes stand under the name, and the files of the other names are as before
pub record Stored (old new : Files) (name bytes : List ℕ) : Type 0 where
  pub stands : lookup new name ≡ Some bytes
  pub others : without name new ≡ without name old

-- what a write makes of the list, where it is told: the bytes are stored; after Failed the files of
-- the other names are as before; after Memory the list is as before; TooLong never comes
abbrev pub Written : Option Files → Option Files → List ℕ → List ℕ → Result Unit StoreError → Type 0
Written old new name bytes (Ok done) = StaysTold (λ before after. Stored before after name bytes) old new
Written old new name bytes (Err store.Failed) = StaysTold (λ before after. without name after ≡ without name before) old new
Written old new name bytes (Err store.TooLong) = ⊥
Written old new name bytes (Err store.Memory) = new ≡ old

-- the bytes after are those before followed by the piece, where they are told
abbrev pub Appended : Option (List ℕ) → Option (List ℕ) → List ℕ → Type 0
Appended old new piece = StaysTold (λ before after. after ≡ before ++ piece) old new

-- the first n bytes of a piece were appended, at least one where the piece has any, and the count of
-- faults is as before
pub record Took (piece : List ℕ) (n : ℕ) (old new : Option (List ℕ)) (before now : ℕ) : Type 0 where
  pub within : n ≤ length piece
  pub progress : 0 < length piece → 0 < n
  pub appended : Appended old new (take n piece)
  pub same : now ≡ before

-- nothing of a piece that has bytes was appended, and the count of faults rose
pub record Refused (piece : List ℕ) (old new : Option (List ℕ)) (before now : ℕ) : Type 0 where
  pub some : 0 < length piece
  pub kept : new ≡ old
  pub rose : Rose before now
  pub not_fallen : before ≤ now

-- nothing of a piece that has bytes was appended, and the count of faults is as before
pub record Untouched (piece : List ℕ) (old new : Option (List ℕ)) (before now : ℕ) : Type 0 where
  pub some : 0 < length piece
  pub kept : new ≡ old
  pub same : now ≡ before

-- what a sink makes of a piece, by its answer
abbrev pub Sunk : List ℕ → Option (List ℕ) → Option (List ℕ) → ℕ → ℕ → Result ℕ SinkError → Type 0
Sunk piece old new before now (Ok n) = Took piece n old new before now
Sunk piece old new before now (Err sink.Failed) = Refused piece old new before now
Sunk piece old new before now (Err sink.Memory) = Untouched piece old new before now

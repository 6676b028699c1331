-- What a call of `serve` comes to, and what it leaves.
use Rattle.std.specs.Prelude.{◌≡◌, ◌≢◌, ◌⊎◌, ℕ, ◌<◌, ◌≤◌, List, [], ◌∷◌, length, codes, Option, Some, IfSome, IsSomeAnd, Result, Ok, Err, string_bytes}
use Rattle.lola_port.specs.Outside.{Files, Counts, lookup, RoseAt, Rose, Same, Appended}
use Rattle.lola_app.specs.declared.reply.Reply.{Reply}
use Rattle.lola_app.specs.declared.reply.Reply.TheVariants.{Unread, TooLong, NoMemory}
use Rattle.lola_app.specs.declared.status.Status.{Status}
use Rattle.lola_app.specs.declared.status.Status.TheVariants as status
use Rattle.lola_app.specs.Decided.{text_limit, IsHeadline, IsDecided, IsUnsettled}
use Rattle.lola_app.specs.DecideReply.{DecideOutcome}
use Rattle.lola_app.specs.Printing.{AppendedFront}
use Rattle.lola_app.specs.Reply.{Outcome, wrong_words, unread, too_long, no_memory, of_decide, status_of, text_of}

-- the words are `decide` and the names of a design and of a table
abbrev pub Decide : List (List ℕ) → List ℕ → List ℕ → Type 0
Decide words source table = words ≡ codes "decide" ∷ source ∷ table ∷ []

-- a text of a name: no longer than it may be, and as far as the list is told, it stands under the name
pub record IsText (told : Option Files) (name text : List ℕ) : Type 0 where
  pub short : length text ≤ text_limit
  pub stands : IfSome told (λ files. lookup files name ≡ Some text)

-- as far as the list is told, what stands under the name is too long for a text
abbrev pub IsTooLong : Option Files → List ℕ → Type 0
IsTooLong told name = IfSome told (λ files. IsSomeAnd (lookup files name) (λ bytes. text_limit < length bytes))

-- `decide` was asked of two files, and these are their texts
pub record Asked (words : List (List ℕ)) (told : Option Files) (source table : List ℕ) : Type 0 where
  pub source_name : List ℕ
  pub table_name : List ℕ
  pub decide : Decide words source_name table_name
  pub source_text : IsText told source_name source
  pub table_text : IsText told table_name table

-- `decide` was asked, and the word is that of the file that is read first, or the other's, and then
-- the first is a text
pub record AskedFor (words : List (List ℕ)) (told : Option Files) (word : List ℕ) : Type 0 where
  pub source_name : List ℕ
  pub table_name : List ℕ
  pub decide : Decide words source_name table_name
  pub turn : (word ≡ source_name) ⊎ ((word ≡ table_name) × ((source : List ℕ) × IsText told source_name source))

-- both texts were asked for, no read of either failed, and this is what they lead to
pub record IsAnswer (words : List (List ℕ)) (told : Option Files) (before now : Counts) (outcome : DecideOutcome) : Type 0 where
  pub source : List ℕ
  pub table : List ℕ
  pub asked : Asked words told source table
  pub no_fault : Same before now
  pub decided : IsDecided source table outcome

-- when each outcome comes, over the files that the store tells at the call, and its counts of failed
-- reads before and after it. Want of memory may come at any time
abbrev pub Due : List (List ℕ) → Option Files → Counts → Counts → Outcome → Type 0
Due words told before now wrong_words = ((source table : List ℕ) → Decide words source table → ⊥) × Same before now
Due words told before now (unread word) = AskedFor words told word × RoseAt word before now
Due words told before now (too_long word) = AskedFor words told word × IsTooLong told word × Same before now
Due words told before now no_memory = Unit {0}
Due words told before now (of_decide outcome) = IsAnswer words told before now outcome

-- two outcomes are the same, but for what `decide` leaves open of the grammar of designs
abbrev pub AreOne : Outcome → Outcome → Type 0
AreOne (of_decide a) (of_decide b) = (a ≡ b) ⊎ (IsUnsettled a × IsUnsettled b)
AreOne a b = a ≡ b

-- an outcome that names a word, or want of memory in its place
abbrev pub IsWorded : Outcome → Outcome → Type 0
IsWorded wanted no_memory = Unit {0}
IsWorded wanted outcome = outcome ≡ wanted

-- what reading a text comes to: the bytes are a text, and they are those that the list tells; or the
-- reply that is due
abbrev pub ReadText : {V : Type 0} → (V → List ℕ) → Option Files → List ℕ → Counts → Counts → Result V Reply → Type 0
ReadText items told name before now (Ok text) = (length (items text) ≤ text_limit) × IfSome told (λ files. lookup files name ≡ Some (items text)) × Same before now
ReadText items told name before now (Err (Unread word)) = (string_bytes word ≡ name) × RoseAt name before now
ReadText items told name before now (Err (TooLong word)) = (string_bytes word ≡ name) × IsTooLong told name × Same before now
ReadText items told name before now (Err NoMemory) = Unit {0}
ReadText items told name before now (Err _) = ⊥

-- how an outcome ends: its text is printed whole, the sink's count of faults is as before, and the status
-- is its own; the count rose, a front of its text is printed, and the status is WriteFault, but that
-- Memory stays; or memory was wanting while it was made or printed, and a front of it or of the line of
-- that outcome is printed
pub data Ends (outcome : Outcome) (old new : Option (List ℕ)) (before now : ℕ) (ended : Status) : Type 0 where
  whole : Appended old new (text_of outcome) → now ≡ before → ended ≡ status_of outcome → Ends outcome old new before now ended
  fault : AppendedFront old new (text_of outcome) → Rose before now → status_of outcome ≢ status.Memory →
      ended ≡ status.WriteFault → Ends outcome old new before now ended
  short : AppendedFront old new (text_of outcome) → ended ≡ status.Memory → Ends outcome old new before now ended
  wanting : AppendedFront old new (text_of no_memory) → ended ≡ status.Memory → Ends outcome old new before now ended

-- the status where the sink failed: WriteFault, but that Memory stays
abbrev pub FaultStatus : Outcome → Status → Type 0
FaultStatus no_memory ended = ended ≡ status.Memory
FaultStatus outcome ended = (ended ≡ status.WriteFault) × (status_of outcome ≢ status.Memory)

-- what a sink held and its count of faults, before a call and after it
pub record Sinks : Type 0 where
  pub old : Option (List ℕ)
  pub new : Option (List ℕ)
  pub before : ℕ
  pub now : ℕ

-- an outcome that is due was come to, and it ended so
pub record Served (words : List (List ℕ)) (told : Option Files) (before now : Counts) (sink : Sinks) (ended : Status) : Type 0 where
  pub outcome : Outcome
  pub due : Due words told before now outcome
  pub ends : Ends outcome sink.old sink.new sink.before sink.now ended

-- the headline of the texts that `decide` was asked for, which are those that the store told
abbrev pub Headline : List (List ℕ) → Option Files → Type 0
Headline words told = (source : List ℕ) × ((table : List ℕ) × Asked words told source table × IsHeadline source table)

-- The stages of a command, in the order in which it may be refused: what is at fault at an earlier stage
-- is answered before what is at fault at a later one.
--     words      the words are a command
--     reading    its files are read, in the order of the words
--     scanning   the design's bytes spell tokens
--     grammar    these spell a design
--     sizes      it is well sized
--     forms      it is in the forms that are built
--     table      the table fits it
--     limits     each obligation leaves few enough bits free
--     verdict    the obligations hold or don't
use Rattle.std.specs.Prelude.{ℕ, ◌<◌}

pub data Stage : Type 0 where
  words : Stage
  reading : Stage
  scanning : Stage
  grammar : Stage
  sizes : Stage
  forms : Stage
  table : Stage
  limits : Stage
  verdict : Stage

-- their numbers in that order
abbrev pub place_of : Stage → ℕ
place_of words = 0
place_of reading = 1
place_of scanning = 2
place_of grammar = 3
place_of sizes = 4
place_of forms = 5
place_of table = 6
place_of limits = 7
place_of verdict = 8

-- all stages before one are passed, where this is what passing a stage means
abbrev pub IsReached : (Stage → Type 0) → Stage → Type 0
IsReached Passes stage = (earlier : Stage) → place_of earlier < place_of stage → Passes earlier

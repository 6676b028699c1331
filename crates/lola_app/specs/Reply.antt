-- What a call comes to, its status and its printed text: what any command may come to before its files
-- are read, and what each makes of them.
use Rattle.std.specs.Prelude.{ℕ, List, ◌++◌, codes, string_bytes}
use Rattle.lola_app.specs.declared.reply.Reply.{Reply}
use Rattle.lola_app.specs.declared.reply.Reply.TheVariants.{WrongWords, Unread, TooLong, NoMemory, OfDecide}
use Rattle.lola_app.specs.declared.status.Status.{Status}
use Rattle.lola_app.specs.declared.status.Status.TheVariants as status
use Rattle.lola_app.specs.DecideReply.{DecideOutcome, decide_outcome, decide_status, decide_text}

-- the words are no command; a file couldn't be read, or is too long; want of memory; or what `decide`
-- comes to
pub data Outcome : Type 0 where
  wrong_words : Outcome
  unread : (word : List ℕ) → Outcome
  too_long : (word : List ℕ) → Outcome
  no_memory : Outcome
  of_decide : (outcome : DecideOutcome) → Outcome

abbrev pub outcome_of : Reply → Outcome
outcome_of WrongWords = wrong_words
outcome_of (Unread word) = unread (string_bytes word)
outcome_of (TooLong word) = too_long (string_bytes word)
outcome_of NoMemory = no_memory
outcome_of (OfDecide reply) = of_decide (decide_outcome reply)

-- the status that goes with it, where its text is written
abbrev pub status_of : Outcome → Status
status_of wrong_words = status.BadWords
status_of (unread word) = status.ReadFault
status_of (too_long word) = status.Limit
status_of no_memory = status.Memory
status_of (of_decide outcome) = decide_status outcome

-- the printed text
abbrev pub text_of : Outcome → List ℕ
text_of wrong_words = codes "words\n"
text_of (unread word) = codes "read: " ++ (word ++ codes "\n")
text_of (too_long word) = codes "limit: text " ++ (word ++ codes "\n")
text_of no_memory = codes "memory\n"
text_of (of_decide outcome) = decide_text outcome

-- What `decide` comes to, its status and its printed text.
use Rattle.std.specs.Prelude.{ℕ, List, ◌++◌, map, codes, decimal, string_bytes}
use Rattle.lola_app.specs.declared.decide_reply.DecideReply.{DecideReply}
use Rattle.lola_app.specs.declared.decide_reply.DecideReply.TheVariants.{Refused, TableNotBuilt, TooManyBits, Accepted, Failed}
use Rattle.lola_app.specs.declared.fault.SourceRefusal.{SourceRefusal}
use Rattle.lola_app.specs.declared.status.Status.{Status}
use Rattle.lola_app.specs.declared.status.Status.TheVariants as status
use Rattle.lola_app.specs.RefusalText.{refusal_status, refusal_text}
use Rattle.lola_app.specs.Values.{Line, line_of, value_lines}

-- in the order of refusals: the text of the design is refused; the table is outside the forms that are
-- built; the named obligation leaves so many bits free, which are too many to try; all obligations hold,
-- with their number and that of the inside classes; the named obligation fails at a valuation
pub data DecideOutcome : Type 0 where
  refused : (refusal : SourceRefusal) → DecideOutcome
  table_not_built : DecideOutcome
  too_many_bits : (obligation : List ℕ) (count : ℕ) → DecideOutcome
  accepted : (obligations classes : ℕ) → DecideOutcome
  failed : (obligation : List ℕ) (valuation : List Line) → DecideOutcome

abbrev pub decide_outcome : DecideReply → DecideOutcome
decide_outcome (Refused refusal) = refused refusal
decide_outcome TableNotBuilt = table_not_built
decide_outcome (TooManyBits obligation count) = too_many_bits (string_bytes obligation) count
decide_outcome (Accepted obligations classes) = accepted obligations classes
decide_outcome (Failed obligation numbers) = failed (string_bytes obligation) (map line_of numbers.items)

-- the status that goes with it, where its text is written
abbrev pub decide_status : DecideOutcome → Status
decide_status (refused refusal) = refusal_status refusal
decide_status table_not_built = status.TableFault
decide_status (too_many_bits obligation count) = status.Limit
decide_status (accepted obligations classes) = status.Ok
decide_status (failed obligation valuation) = status.No

-- the printed text
abbrev pub decide_text : DecideOutcome → List ℕ
decide_text (refused refusal) = refusal_text refusal
decide_text table_not_built = codes "table: NotBuilt\n"
decide_text (too_many_bits obligation count) = codes "limit: bits " ++ (obligation ++ (codes " " ++ (decimal count ++ codes "\n")))
decide_text (accepted obligations classes) =
    codes "yes obligations=" ++ (decimal obligations ++ (codes " classes=" ++ (decimal classes ++ codes " outside=0\n")))
decide_text (failed obligation valuation) = codes "no " ++ (obligation ++ (codes "\n" ++ (value_lines valuation ++ codes "end\n")))

-- Which outcome has the status Ok.
use Rattle.std.proofs.Common.{◌≡◌, ℕ, List, sym, ◌∙◌}
use Rattle.std.specs.Prelude.{Option}
use Rattle.lola_port.specs.Outside.{Files, Counts}
use Rattle.lola_app.specs.declared.fault.SourceRefusal.TheVariants.{Fault, Long}
use Rattle.lola_app.specs.declared.status.Status.{Status}
use Rattle.lola_app.specs.declared.status.Status.TheVariants as status
use Rattle.lola_app.specs.DecideReply.{refused, table_not_built, too_many_bits, accepted, failed}
use Rattle.lola_app.specs.Reply.{Outcome, wrong_words, unread, too_long, no_memory, of_decide, status_of}
use Rattle.lola_app.specs.Serve.{Due, Ends, whole, fault, short, wanting, Headline}

-- the status Ok is that of a yes alone, which has the headline
yes_of : (words : List (List ℕ)) (told : Option Files) (before now : Counts) (outcome : Outcome) → Due words told before now outcome → status_of outcome ≡ status.Ok → Headline words told
yes_of words told before now wrong_words due e = absurd cc
yes_of words told before now (unread word) due e = absurd cc
yes_of words told before now (too_long word) due e = absurd cc
yes_of words told before now no_memory due e = absurd cc
yes_of words told before now (of_decide (refused (Fault f))) due e = absurd cc
yes_of words told before now (of_decide (refused (Long at))) due e = absurd cc
yes_of words told before now (of_decide table_not_built) due e = absurd cc
yes_of words told before now (of_decide (too_many_bits name count)) due e = absurd cc
yes_of words told before now (of_decide (accepted obliged inside)) due e = (due.source, (due.table, due.asked, due.decided.headline))
yes_of words told before now (of_decide (failed name lines)) due e = absurd cc

pub headline_of : (words : List (List ℕ)) (told : Option Files) (before now : Counts) (outcome : Outcome) (old new : Option (List ℕ)) (low high : ℕ) (ended : Status) →
    Due words told before now outcome → Ends outcome old new low high ended → ended ≡ status.Ok → Headline words told
headline_of words told before now outcome old new low high ended due (whole appended same is) e = yes_of words told before now outcome due (sym is ∙ e)
headline_of words told before now outcome old new low high ended due (fault front rose other is) e = absurd cc
headline_of words told before now outcome old new low high ended due (short front is) e = absurd cc
headline_of words told before now outcome old new low high ended due (wanting front is) e = absurd cc

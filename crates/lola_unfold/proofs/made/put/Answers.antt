use Rattle.std.proofs.Common.{slice_get, sym, ap, ◌∙◌, arith}
use Rattle.lola_unfold.specs.Pieces.{is_free}
use Rattle.lola_unfold.proofs.Growing.{put_free, put_taken, free_within}
use Rattle.lola_unfold.proofs.made.put.Goals as goal
use Rattle.lola_unfold.proofs.made.put.Goals.{else-is_free-via-then-is_free+else-at-len, else-is_free-via-else-is_free}

pub returns-then-at-len : goal.returns-then-at-len
returns-then-at-len g c =
    put_free c.args.items.now.items c.args.number c.args.value (sym (c.is_free.ensures ∙ ap (λ xs. is_free (slice_get xs c.args.number)) c.as_slice.ensures.value) ∙ c.if-is_free.true)

pub returns-else-is_free : goal.returns-else-is_free
returns-else-is_free g c =
    let free = sym (c.is_free.ensures ∙ ap (λ xs. is_free (slice_get xs c.args.number)) c.as_slice.ensures.value) in
    elim c.else-is_free.branch [
      | else-is_free-via-then-is_free+else-at-len w ↦
          let within = free_within c.args.items.now.items c.args.number (free ∙ w.if-is_free.true) in
          let past = w.if-at-len.false in
          let count = w.len.ensures in
          absurd (omega arith)
      | else-is_free-via-else-is_free w ↦ put_taken c.args.items.now.items c.args.number c.args.value (free ∙ w.if-is_free.false)
    ]

use Rattle.lrat_text.proofs.Written.{written_add, written_delete}
use Rattle.lrat_text.proofs.writer.push_line.Goals as goal

pub returns-in_ok-extend_from_slice-in-Add-2 : goal.returns-in_ok-extend_from_slice-in-Add-2
returns-in_ok-extend_from_slice-in-Add-2 c =
    rw (
      c.in_ok-extend_from_slice-in-Add-2.ensures.items,
      c.as_slice-in-Add.ensures,
      c.in_ok-push_numbers-in-Add-2.ensures,
      c.items-in-Add.ensures,
      c.in_ok-extend_from_slice-in-Add.ensures.items,
      c.as_slice.ensures,
      c.in_ok-push_numbers-in-Add.ensures,
      c.items.ensures,
      c.in_ok-push-in-Add.ensures,
      c.in-Add.is,
    )
    (written_add c.args.out.now.items c.in-Add.id c.in-Add.clause c.in-Add.hints)

pub returns-in_ok-extend_from_slice-in-Delete-2 : goal.returns-in_ok-extend_from_slice-in-Delete-2
returns-in_ok-extend_from_slice-in-Delete-2 c =
    rw (
      c.in_ok-extend_from_slice-in-Delete-2.ensures.items,
      c.as_slice-in-Delete-2.ensures,
      c.in_ok-push_numbers-in-Delete.ensures,
      c.items-in-Delete.ensures,
      c.in_ok-extend_from_slice-in-Delete.ensures.items,
      c.as_slice-in-Delete.ensures,
      c.in_ok-push-in-Delete.ensures,
      c.in-Delete.is,
    )
    (written_delete c.args.out.now.items c.in-Delete.id c.in-Delete.ids)

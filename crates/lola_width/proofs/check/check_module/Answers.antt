use Rattle.std.proofs.Common.{refl}
use Rattle.lola_width.proofs.Faults.{first_append}
use Rattle.lola_width.proofs.check.check_module.Goals as goal

pub returns-clause-seen : goal.returns-clause-seen
returns-clause-seen c =
    rw (c.in_ok-add.ensures, c.text.ensures, c.in_ok-pins.ensures, c.in_ok-clock.ensures, c.in_ok-table.ensures.table, c.items.ensures) refl

pub returns-clause-first : goal.returns-clause-first
returns-clause-first c =
    rw (
      c.in_ok-note_assignments.ensures,
      c.note_module_widths.ensures,
      c.in_ok-note_module_names.ensures,
      c.in_ok-table.ensures.first,
      c.in_ok-note_title.ensures,
      c.in_ok-clock.ensures,
      c.in_ok-table.ensures.table,
    )
    (simp first_append)

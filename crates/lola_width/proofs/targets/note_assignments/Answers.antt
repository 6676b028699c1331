use Rattle.lola_width.proofs.Faults.{first_append}
use Rattle.lola_width.proofs.targets.note_assignments.Goals as goal

pub returns : goal.returns
returns c =
    rw (c.in_ok-note_locals_never.ensures, c.in_ok-note_ports_never.ensures, c.in_ok-take_body.ensures.first, c.in_ok-take_body.ensures.taken, c.new-targets.ensures, c.items.ensures, c.items-2.ensures, c.items-3.ensures)
    (simp first_append)

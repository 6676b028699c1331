use Rattle.std.proofs.Common.{refl, ap, ◌∙◌}
use Rattle.lola_width.specs.AssignmentFaults.{taken_with}
use Rattle.lola_width.specs.Table.{taken_in}
use Rattle.lola_width.proofs.Faults.{first_append}
use Rattle.lola_width.proofs.Taking.{pad_step}
use Rattle.lola_width.proofs.targets.take_stmt.Goals as goal

pub returns-in_ok-take_args-in-Call-clause-taken : goal.returns-in_ok-take_args-in-Call-clause-taken
returns-in_ok-take_args-in-Call-clause-taken c =
    rw (c.in_ok-take_args-in-Call.ensures.taken, c.in_ok-take-in-Call.ensures.taken, c.items.ensures, c.listed-pins.ensures, c.instance_pins.ensures, c.text-in-Call.ensures, c.text-in-Call-2.ensures, c.in-Call.is) refl

pub returns-in_ok-take_args-in-Call-clause-first : goal.returns-in_ok-take_args-in-Call-clause-first
returns-in_ok-take_args-in-Call-clause-first c =
    rw (c.in_ok-take_args-in-Call.ensures.first, c.in_ok-take-in-Call.ensures.first, c.in_ok-take-in-Call.ensures.taken, c.items.ensures, c.listed-pins.ensures, c.instance_pins.ensures, c.text-in-Call.ensures, c.text-in-Call-2.ensures, c.in-Call.is)
    (simp first_append)

pub returns-in_ok-take-in-Pad-2-clause-taken : goal.returns-in_ok-take-in-Pad-2-clause-taken
returns-in_ok-take-in-Pad-2-clause-taken c =
    rw (c.in_ok-take-in-Pad-2.ensures.taken, c.in_ok-take-in-Pad.ensures.taken, c.text-in-Pad.ensures, c.text-in-Pad-2.ensures, c.in-Pad.is) refl

pub returns-in_ok-take-in-Pad-2-clause-first : goal.returns-in_ok-take-in-Pad-2-clause-first
returns-in_ok-take-in-Pad-2-clause-first c =
    rw (c.in-Pad.is, c.in_ok-take-in-Pad-2.ensures.first, c.in_ok-take-in-Pad.ensures.first, c.text-in-Pad.ensures, c.text-in-Pad-2.ensures)
    (pad_step c.args.first.now (taken_in c.args.targets.now) (taken_in c.take-in-Pad.new.targets) c.in-Pad.io c.in-Pad.inner
    (c.in_ok-take-in-Pad.ensures.taken ∙ ap (taken_with (taken_in c.args.targets.now)) c.text-in-Pad.ensures))

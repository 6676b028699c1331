use Rattle.std.proofs.Common.{◌≡◌, drop}
use Rattle.lola_width.specs.WidthFaults.{const_widths}
use Rattle.lola_width.specs.Order.{first_after}
use Rattle.lola_width.proofs.width_stage.note_consts.Given as goal

abbrev pub invariant-loop-constant : goal.invariant-loop-constant
invariant-loop-constant l = first_after l.first (const_widths (drop l.constant-index l.consts)) ≡ first_after l.fn.first (const_widths l.consts)

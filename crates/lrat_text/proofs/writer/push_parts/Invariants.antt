use Rattle.std.proofs.Common.{◌≡◌, ◌++◌, drop}
use Rattle.lrat_text.specs.Text.{lines_text, parts_lines}
use Rattle.lrat_text.specs.Written.{parts_of}
use Rattle.lrat_text.proofs.writer.push_parts.Given as goal

abbrev pub invariant-loop-at : goal.invariant-loop-at
invariant-loop-at l = l.out.items ++ lines_text (parts_lines (parts_of (drop l.at l.names) (drop l.at l.proofs))) ≡ l.fn.out.items ++ lines_text (parts_lines (parts_of l.names l.proofs))

use Rattle.std.proofs.Common.{◌≡◌, ◌++◌, drop, map}
use Rattle.lrat_text.specs.Text.{lines_text, Taken}
use Rattle.lrat_text.proofs.writer.push_lines.Given as goal

abbrev pub invariant-loop-line : goal.invariant-loop-line
invariant-loop-line l = l.out.items ++ lines_text (map Taken (drop l.line-index l.lines)) ≡ l.fn.out.items ++ lines_text (map Taken l.lines)

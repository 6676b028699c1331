use Rattle.std.proofs.Common.{◌≡◌, ◌-◌, ◌++◌, replicate}
use Rattle.lola_asked.proofs.setting.push_widths.Given as goal

abbrev pub invariant-loop-element : goal.invariant-loop-element
invariant-loop-element l = l.widths.items ++ replicate (l.count - l.element) l.width ≡ l.fn.widths.items ++ replicate l.count l.width

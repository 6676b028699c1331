use Rattle.std.proofs.Common.{◌≡◌, ◌++◌, drop}
use Rattle.lola_asked.specs.Setting.{element_widths}
use Rattle.lola_asked.proofs.setting.push_further.Given as goal

abbrev pub invariant-loop-name : goal.invariant-loop-name
invariant-loop-name l = l.widths.items ++ element_widths (drop l.name-index l.further) ≡ l.fn.widths.items ++ element_widths l.further

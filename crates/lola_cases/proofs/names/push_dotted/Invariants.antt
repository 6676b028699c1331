use Rattle.std.proofs.Common.{◌≡◌, ◌++◌, drop, string_bytes}
use Rattle.lola_cases.specs.Free.{dotted_behind}
use Rattle.lola_cases.proofs.names.push_dotted.Given as goal

-- the text so far, and the names that are left
abbrev pub invariant-loop-name : goal.invariant-loop-name
invariant-loop-name l = string_bytes l.text ++ dotted_behind (drop l.name-index l.path) ≡ string_bytes l.fn.text ++ dotted_behind l.path

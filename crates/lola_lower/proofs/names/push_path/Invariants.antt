use Rattle.std.proofs.Common.{◌≡◌, ◌++◌, drop, string_bytes}
use Rattle.lola_lower.specs.Names.{path_behind}
use Rattle.lola_lower.proofs.names.push_path.Given as goal

-- the text so far, and the names that are left
abbrev pub invariant-loop-name : goal.invariant-loop-name
invariant-loop-name l = string_bytes l.text ++ path_behind (drop l.name-index l.path) ≡ string_bytes l.fn.text ++ path_behind l.path

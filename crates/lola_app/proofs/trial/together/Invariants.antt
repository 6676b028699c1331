use Rattle.std.proofs.Common.{◌≡◌, ◌++◌, drop, map, string_bytes}
use Rattle.lola_app.specs.Values.{line_of, lines_of}
use Rattle.lola_app.proofs.trial.together.Given as goal

-- the lines so far, and those behind
abbrev pub invariant-loop-place : goal.invariant-loop-place
invariant-loop-place l =
    map line_of l.named.items ++ lines_of (map string_bytes (drop l.place l.names)) (drop l.place l.widths) (drop l.place l.numbers) ≡ lines_of (map string_bytes l.names) l.widths l.numbers

use Rattle.std.proofs.Common.{◌≡◌, ◌++◌, drop}
use Rattle.std.specs.Prelude.{filter}
use Rattle.tab_parse.specs.Grammar.{is_place}
use Rattle.tab_parse.proofs.classes.places.Given as goal

-- the places so far, and those of the bytes that are left, are those of all
abbrev pub invariant-loop-byte : goal.invariant-loop-byte
invariant-loop-byte l = l.places.items ++ filter is_place (drop l.byte-index l.spelled) ≡ filter is_place l.spelled

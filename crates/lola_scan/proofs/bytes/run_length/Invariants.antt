use Rattle.std.proofs.Common.{◌≡◌, ◌+◌, drop}
use Rattle.std.specs.List.{prefix_len}
use Rattle.lola_scan.specs.Front.{is_in}
use Rattle.lola_scan.proofs.bytes.run_length.Given as goal

abbrev pub invariant-loop-n : goal.invariant-loop-n
invariant-loop-n l = l.n + prefix_len (is_in l.class) (drop l.n l.text) ≡ prefix_len (is_in l.class) l.text

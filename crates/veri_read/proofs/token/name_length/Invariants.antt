use Rattle.std.proofs.Common.{◌≡◌, ◌+◌, ◌≤◌, drop}
use Rattle.std.specs.List.{prefix_len}
use Rattle.veri_read.specs.Tokens.{is_name_byte}
use Rattle.veri_read.proofs.token.name_length.Given as goal

abbrev pub invariant-loop-b : goal.invariant-loop-b
invariant-loop-b l = record {
  few : l.n ≤ l.b-index;
  long : l.n + prefix_len is_name_byte (drop l.b-index l.text) ≡ prefix_len is_name_byte l.text;
}

use Rattle.std.proofs.Common.{◌≡◌, ◌≤◌, ◌-◌, length, drop}
use Rattle.veri_read.specs.Tokens.{items, items_from}
use Rattle.veri_read.specs.Faults.{said_by}
use Rattle.veri_read.specs.Held.{said_of}
use Rattle.veri_read.proofs.reader.Reader.read_text.Given as goal

abbrev pub invariant-loop-at : goal.invariant-loop-at
invariant-loop-at l = record {
  within : l.at ≤ length l.bytes;
  same : said_by (items l.bytes) (said_of l.fn.self) ≡ said_by (items_from 0 l.at (drop l.at l.bytes)) (said_of l.self);
}

abbrev pub decreases-loop-at : goal.decreases-loop-at
decreases-loop-at l = length l.bytes - l.at

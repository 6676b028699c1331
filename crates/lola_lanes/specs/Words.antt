-- The words of free bits. Within a block the six lowest places of a case's number change, each in its own way, and the
-- higher ones are those of the block's number.
use Rattle.std.specs.Prelude.{ℕ, zero, suc, cond}
use Rattle.lola_lanes.specs.Lanes.{digit}

abbrev pub word_of : ℕ → ℕ → ℕ
word_of zero block = 12297829382473034410
word_of (suc zero) block = 14757395258967641292
word_of (suc (suc zero)) block = 17361641481138401520
word_of (suc (suc (suc zero))) block = 18374966859414961920
word_of (suc (suc (suc (suc zero)))) block = 18446462603027742720
word_of (suc (suc (suc (suc (suc zero))))) block = 18446744069414584320
word_of (suc (suc (suc (suc (suc (suc place)))))) block = cond (digit place block) 18446744073709551615 0

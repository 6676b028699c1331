use Rattle.std.proofs.Common.{arith}
use Rattle.lola_app.proofs.Trying.{digits_step}
use Rattle.lola_app.proofs.values.push_digits.Goals as goal

pub loop-left-preserved : goal.loop-left-preserved
loop-left-preserved c =
    digits_step c.loop-left.left c.args.value c.digit_at.result c.hex_digit.result c.loop-left.text.items _ _ (omega arith) c.digit_at.ensures.value c.hex_digit.ensures c.loop-left.invariant c.in_ok-push.ensures.items

use Rattle.std.proofs.Common.{arith}
use Rattle.lola_scan.proofs.Steps.{spells_on, fails_on}
use Rattle.lola_scan.proofs.scanner.scan.Goals as goal

pub loop-at-preserved : goal.loop-at-preserved
loop-at-preserved c =
    let r = rw c.split_at.ensures.back at c.in_ok-front.ensures in
    record {
      within = omega (arith, c.in_ok-front.ensures.within, c.split_at.ensures.back_len);
      spells = spells_on c.args.bytes.now c.loop-at.at c.in_ok-front.front c.loop-at.tokens.items c.push_token.new.tokens.items r c.loop-at.invariant.spells c.in_ok-push_token.ensures.ok;
      fails = fails_on c.args.bytes.now c.loop-at.at c.in_ok-front.front r c.loop-at.invariant.fails;
    }

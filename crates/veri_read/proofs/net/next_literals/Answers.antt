use Rattle.veri_read.specs.Held.{said_of, listed}
use Rattle.veri_read.specs.Made.{next_here, next_literals}
use Rattle.veri_read.proofs.Nets.{more_here}
use Rattle.veri_read.proofs.net.next_literals.Goals as goal

pub loop-place-preserved : goal.loop-place-preserved
loop-place-preserved c =
    let s = said_of c.args.reader.now in
    let literals = listed c.args.maker.now.literals in
    record {
      more = more_here (next_here s literals) s.declared c.loop-place.place (c.at.result.0.now, c.at.result.1) c.loop-place.next c.push_next.new.next (next_literals s literals s.declared) c.at.ensures c.in_ok-push_next.ensures.more c.loop-place.invariant.more;
      known = c.in_ok-push_next.ensures.known;
    }

use Rattle.veri_read.specs.Held.{said_of, listed}
use Rattle.veri_read.specs.Made.{output_here, outputs_of}
use Rattle.veri_read.proofs.Nets.{more_here}
use Rattle.veri_read.proofs.net.outputs.Goals as goal

pub loop-place-preserved : goal.loop-place-preserved
loop-place-preserved c =
    let s = said_of c.args.reader.now in
    let literals = listed c.args.maker.now.literals in
    record {
      more = more_here (output_here literals) s.declared c.loop-place.place (c.at.result.0.now, c.at.result.1) c.loop-place.outputs c.push_output.new.outputs (outputs_of literals s.declared) c.at.ensures c.in_ok-push_output.ensures.more c.loop-place.invariant.more;
      known = c.in_ok-push_output.ensures.known;
    }

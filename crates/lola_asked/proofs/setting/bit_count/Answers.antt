use Rattle.std.proofs.Common.{drop}
use Rattle.std.proofs.Math.ListN.{drop_of_length-le}
use Rattle.lola_asked.proofs.Vectors.{counted_so_far}
use Rattle.lola_asked.proofs.setting.bit_count.Goals as goal

pub returns : goal.returns
returns c =
    let l = c.loop-width in
    counted_so_far l.bits (drop l.width-index c.args.widths.now) c.args.widths.now (drop_of_length-le c.args.widths.now c.loop-width-test.false) l.invariant.fits l.invariant.counted

use Rattle.std.specs.BTreeMap.{get_by_text}
use Rattle.lola_bits.proofs.Places.{all_step}
use Rattle.lola_elab.specs.Declares.{wide_of}
use Rattle.lola_elab.specs.Small.{IsSmallPort}
use Rattle.lola_elab.proofs.ports.are_small_ports.Goals as goal

pub loop-port-preserved : goal.loop-port-preserved
loop-port-preserved c =
    all_step (IsSmallPort (wide_of (get_by_text c.args.names.now))) c.args.ports.now c.loop-port.port-index c.port-item.result c.loop-port-test.true c.port-item.is
    (c.is_small_port.ensures.0 c.if-not-is_small_port.false) c.loop-port.invariant

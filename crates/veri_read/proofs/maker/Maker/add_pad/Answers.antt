use Rattle.std.proofs.Common.{length}
use Rattle.lola_net.specs.declared.node.Node.TheVariants.{Pad}
use Rattle.veri_read.specs.Held.{listed}
use Rattle.veri_read.proofs.Sound.{sound_behind, pad_smaller}
use Rattle.veri_read.proofs.maker.Maker.add_pad.Goals as goal

pub put-requires-clause-sound : goal.put-requires-clause-sound
put-requires-clause-sound c =
    let smaller = pad_smaller (length c.args.self.now.gates) c.literal-value.result c.literal-release.result c.literal-value.ensures.known c.literal-release.ensures.known in
    sound_behind c.args.self.now.gates c.pad.new.self (Pad _ c.literal-value.result c.literal-release.result) (listed c.args.self.now.literals) c.requires smaller c.in-Ok.ensures.0

use Rattle.std.proofs.Common.{refl}
use Rattle.lola_net.specs.declared.node.Node.TheVariants.{Free}
use Rattle.veri_read.specs.Held.{listed}
use Rattle.veri_read.proofs.Sound.{sound_behind}
use Rattle.veri_read.proofs.maker.Maker.add_input.Goals as goal

pub put-requires-clause-sound : goal.put-requires-clause-sound
put-requires-clause-sound c = sound_behind c.args.self.now.gates c.free.new.self (Free _) (listed c.args.self.now.literals) c.requires refl c.in-Ok.ensures.0

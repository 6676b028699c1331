use Rattle.veri_read.specs.Held.{listed}
use Rattle.veri_read.proofs.Sound.{sound_now}
use Rattle.veri_read.proofs.maker.Maker.put.Goals as goal

pub returns-clause-sound : goal.returns-clause-sound
returns-clause-sound c = sound_now c.args.self.now.gates (listed c.args.self.now.literals) (listed c.put.new.self) c.args.name.now c.args.literal c.requires.sound c.requires.known c.in_ok-put.ensures

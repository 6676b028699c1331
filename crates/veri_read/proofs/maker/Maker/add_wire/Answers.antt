use Rattle.veri_read.specs.Making.{made_of}
use Rattle.veri_read.proofs.Sound.{sound_both}
use Rattle.veri_read.proofs.maker.Maker.add_wire.Goals as goal

pub put-requires-clause-sound : goal.put-requires-clause-sound
put-requires-clause-sound c =
    sound_both (made_of c.args.self.now) (c.and.new.self, c.in-Ok.literal) c.literal-first.result c.literal-second.result c.requires c.literal-first.ensures.known c.literal-second.ensures.known c.in-Ok.ensures.made c.in-Ok.ensures.kept.0

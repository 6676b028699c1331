use Rattle.veri_read.specs.Held.{said_of}
use Rattle.veri_read.specs.Made.{with_inputs}
use Rattle.veri_read.specs.Making.{made_of}
use Rattle.veri_read.proofs.Makes.{inputs_step}
use Rattle.veri_read.proofs.maker.Maker.add_inputs.Goals as goal

pub loop-place-preserved : goal.loop-place-preserved
loop-place-preserved c =
    let s = said_of c.args.reader.now in
    record {
      made = inputs_step s.clock (made_of c.loop-place.self) (made_of c.add_input.new.self) (with_inputs s.clock (made_of c.args.self.now) s.declared) s.declared c.loop-place.place (c.at.result.0.now, c.at.result.1) c.at.ensures c.in_ok-add_input.ensures.made c.loop-place.invariant.made;
      sound = c.in_ok-add_input.ensures.sound;
    }

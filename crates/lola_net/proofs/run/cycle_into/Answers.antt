use Rattle.std.proofs.Common.{length, sym, ap, ◌∙◌, List, Bool}
use Rattle.lola_net.specs.declared.run.Part.TheVariants as part
use Rattle.lola_net.specs.Run.{picked}
use Rattle.lola_net.specs.Parts.{part_bit}
use Rattle.lola_net.proofs.Steps.{pads_long, latches_long}
use Rattle.lola_net.proofs.run.cycle_into.Goals as goal

pub put_part-requires-clause-into : goal.put_part-requires-clause-into
put_part-requires-clause-into c =
    let room : List Bool = c.put_values.new.room in
    ap length c.items_mut-2.ensures.value ∙ c.requires.pads ∙
    sym (ap (λ xs. length (picked (part_bit part.Pad room) xs room)) c.items-3.ensures ∙ pads_long c.args.net.now.nodes room room (c.put_values.auto.room ∙ c.requires.room))

pub put_part-requires-2-clause-into : goal.put_part-requires-2-clause-into
put_part-requires-2-clause-into c =
    let room : List Bool = c.put_values.new.room in
    ap length c.items_mut-3.ensures.value ∙ c.requires.next ∙
    sym (ap (λ xs. length (picked (part_bit part.Next room) xs room)) c.items-4.ensures ∙ latches_long c.args.net.now.nodes room room (c.put_values.auto.room ∙ c.requires.room))

use Rattle.std.proofs.Common.{refl, slice_index_or}
use Rattle.lrat_check.specs.declared.keys.Entry.{Entry}
use Rattle.lrat_check.proofs.KeysFound.{key_at}
use Rattle.lrat_check.proofs.keys.key_at.Goals as goal

pub returns-then-entry-id : goal.returns-then-entry-id
returns-then-entry-id c = let d : Entry = record { id = 0; key = 0 } in
    key_at 0 c.args.last c.args.place c.args.id c.args.entries.now (slice_index_or c.args.entries.now c.args.place d) d c.requires.rises
    c.if-place-entries.true refl c.if-entry-id.true

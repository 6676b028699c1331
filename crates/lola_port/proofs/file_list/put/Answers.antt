use Rattle.std.proofs.Common.{rules}
use Rattle.lola_port.proofs.FileLists.{stored_in_place, stored_behind}
use Rattle.lola_port.proofs.file_list.put.Goals as goal

-- the copy stands in the place of the first file of the name
pub returns-in-Some-clause-ok : goal.returns-in-Some-clause-ok
returns-in-Some-clause-ok c =
    stored_in_place c.args.files.now.items c.args.name.now c.args.bytes.now c.in_ok-bytes.bytes c.in-Some.at c.index_mut.result.now (search rules) c.index_mut.ensures.value (search rules)

-- the copy stands in a new file behind the others
pub returns-in_ok-text-in-None-clause-ok : goal.returns-in_ok-text-in-None-clause-ok
returns-in_ok-text-in-None-clause-ok c =
    stored_behind c.args.files.now.items c.args.name.now c.args.bytes.now (c.in_ok-text-in-None.text, c.in_ok-bytes.bytes) c.push.result c.push.new.files.items (search rules) (search rules) (search rules) c.push.ensures.ok

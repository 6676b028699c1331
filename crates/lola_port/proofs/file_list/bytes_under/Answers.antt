-- The look-up finds the bytes of the first file of the name.
use Rattle.lola_port.proofs.FileLists.{lookup-file_list}
use Rattle.lola_port.proofs.file_list.bytes_under.Goals as goal

pub returns-in-Some : goal.returns-in-Some
returns-in-Some c = rw (lookup-file_list c.args.files.now c.args.name.now, ← c.in-Some.ensures) (cc c.as_slice.ensures.value)

pub returns-in-None : goal.returns-in-None
returns-in-None c = rw (lookup-file_list c.args.files.now c.args.name.now, ← c.in-None.ensures)

-- What the tables of names hold, as what names mean.
use Rattle.std.specs.Prelude.{List, Option, Some, None, bytes_eq, string_bytes}
use Rattle.indexmap.specs.IndexMap.{get_by}
use Rattle.indexmap.specs.IndexSet.{contains_text}
use Rattle.lola_tree.specs.Names.{Entry, port, constant, local, Names}
use Rattle.lola_width.specs.declared.declared.Declared.{Declared}
use Rattle.lola_width.specs.declared.declared.Declared.TheVariants as declared
use Rattle.lola_width.specs.declared.table.Table.{Table}
use Rattle.lola_width.specs.declared.interface.Pin.{Pin}
use Rattle.lola_width.specs.declared.interface.Modules.{Modules}
use Rattle.lola_width.specs.declared.targets.Targets.{Targets}
use Rattle.lola_width.specs.Interface.{Seen}
use Rattle.lola_width.specs.AssignmentFaults.{Taken}
use Rattle.std.specs.declared.alloc.Global.{Global}
use Rattle.std.specs.declared.vec.Vec.{Vec}

-- a declaration as the code holds it
abbrev pub entry_of : Declared → Entry
entry_of (declared.Port p) = port p.now
entry_of (declared.Const c) = constant c.now
entry_of (declared.Local l) = local l.now

abbrev pub some_entry : Option Declared → Option Entry
some_entry None = None
some_entry (Some d) = Some (entry_of d)

-- the names of a table
abbrev pub found : Table → Names
found table name = some_entry (get_by (λ key. bytes_eq name (string_bytes key)) table.entries)

-- the modules that were seen
abbrev pub pins_seen : Option (Vec Pin Global) → Option (List Pin)
pins_seen None = None
pins_seen (Some pins) = Some pins.items

abbrev pub seen_in : Modules → Seen
seen_in modules name = pins_seen (get_by (λ key. bytes_eq name (string_bytes key)) modules.entries)

-- the names that were targets
abbrev pub taken_in : Targets → Taken
taken_in targets name = contains_text targets.names name

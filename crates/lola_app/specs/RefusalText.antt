-- What is printed of a design's text that is refused, and the status that goes with it.
use Rattle.std.specs.Prelude.{ℕ, List, ◌++◌, codes, decimal}
use Rattle.lola_width.specs.declared.fault.SourceFault.{SourceFault as SizeFault}
use Rattle.lola_width.specs.declared.fault.SourceFault.TheVariants as size
use Rattle.lola_app.specs.declared.fault.SourceFault.{SourceFault}
use Rattle.lola_app.specs.declared.fault.SourceFault.TheVariants as fault
use Rattle.lola_app.specs.declared.fault.SourceRefusal.{SourceRefusal}
use Rattle.lola_app.specs.declared.fault.SourceRefusal.TheVariants.{Fault, Long}
use Rattle.lola_app.specs.declared.status.Status.{Status}
use Rattle.lola_app.specs.declared.status.Status.TheVariants as status

-- a place, and behind it a name or another number
abbrev pub named_at : ℕ → List ℕ → List ℕ
named_at at name = decimal at ++ (codes " " ++ name)

-- a fault of names, widths or assignments: its name and its fields in order
abbrev pub size_text : SizeFault → List ℕ
size_text (size.Doubled at name) = codes "Doubled " ++ named_at at name
size_text (size.Unknown at name) = codes "Unknown " ++ named_at at name
size_text (size.Kind at) = codes "Kind " ++ decimal at
size_text (size.ArrayShape at name) = codes "ArrayShape " ++ named_at at name
size_text (size.Clock at) = codes "Clock " ++ decimal at
size_text (size.Width at left right) = codes "Width " ++ named_at at (named_at left (decimal right))
size_text (size.TooWide at) = codes "TooWide " ++ decimal at
size_text (size.IndexRange at) = codes "IndexRange " ++ decimal at
size_text (size.PortCount at) = codes "PortCount " ++ decimal at
size_text (size.NotAssigned at name) = codes "NotAssigned " ++ named_at at name
size_text (size.AssignedTwice at name) = codes "AssignedTwice " ++ named_at at name
size_text size.Memory = codes "Memory"

-- the name of a fault, with its place where it has one
abbrev pub fault_text : SourceFault → List ℕ
fault_text (fault.BadByte at) = codes "BadByte " ++ decimal at
fault_text (fault.NumberTooLarge at) = codes "NumberTooLarge " ++ decimal at
fault_text (fault.OpenComment at) = codes "OpenComment " ++ decimal at
fault_text (fault.Syntax at) = codes "Syntax " ++ decimal at
fault_text (fault.IllSized f) = size_text f
fault_text fault.NotBuilt = codes "NotBuilt"

-- the status of a refusal, and its line
abbrev pub refusal_status : SourceRefusal → Status
refusal_status (Fault f) = status.SourceFault
refusal_status (Long at) = status.Limit

abbrev pub refusal_text : SourceRefusal → List ℕ
refusal_text (Fault f) = codes "source: " ++ (fault_text f ++ codes "\n")
refusal_text (Long at) = codes "limit: expression " ++ (decimal at ++ codes "\n")

-- Numbers of signals by tables: each module has one of what its names are among its signals.
use Rattle.std.specs.Prelude.{ℕ, ◌+◌, ◌-◌, ◌^◌, min, cond, nat_lt, if◌then◌else◌, bytes_eq, string_bytes, List, [], ◌∷◌, Option, Some, None, slice_get}
use Rattle.indexmap.specs.IndexMap.{get_by}
use Rattle.lola_tree.specs.Value.{Path}
use Rattle.lola_unfold.specs.declared.slots.Slot.{Slot}
use Rattle.lola_unfold.specs.declared.slots.Slots.{Slots as SlotTable}
use Rattle.lola_unfold.specs.declared.slots.Base.{Base}

-- the slots of names
abbrev pub Slots : Type 0
Slots = List ℕ → Option Slot

abbrev pub no_slots : Slots
no_slots name = None

-- the first slot of a name counts
abbrev pub first_slot : Option Slot → Option Slot → Option Slot
first_slot None other = other
first_slot (Some s) other = Some s

abbrev pub slots_with : Slots → List ℕ → Slot → Slots
slots_with slots name s other = first_slot (slots other) (cond (bytes_eq name other) (Some s) None)

abbrev pub slot_in : SlotTable → Slots
slot_in table name = get_by (λ key. bytes_eq name (string_bytes key)) table.entries

-- numbers stand still at the greatest of 32 bits
abbrev pub capped : ℕ → ℕ
capped n = min n (2 ^ 32 - 1)

abbrev pub plus : ℕ → Option ℕ → Option ℕ
plus n None = None
plus n (Some m) = Some (capped (n + m))

-- a path goes through instances to a signal
abbrev pub offset_in : ℕ → Option ℕ → Path → (ℕ → Option ℕ) → Option ℕ
offset_in offset (Some at) rest inside = plus offset (inside at)
offset_in offset None [] inside = Some offset
offset_in offset None (name ∷ rest) inside = None

abbrev pub inner_offset : Slot → Path → (ℕ → Option ℕ) → Option ℕ
inner_offset s rest inside = offset_in s.offset s.inside rest inside

abbrev pub slot_offset : Option Slot → Path → (ℕ → Option ℕ) → Option ℕ
slot_offset None rest inside = None
slot_offset (Some s) rest inside = inner_offset s rest inside

abbrev pub table_slot : Option SlotTable → List ℕ → Option Slot
table_slot None name = None
table_slot (Some table) name = slot_in table name

abbrev pub offset_of : List SlotTable → ℕ → Path → Option ℕ
offset_of tables at [] = None
offset_of tables at (name ∷ rest) = slot_offset (table_slot (slice_get tables at) name) rest (λ inner. offset_of tables inner rest)

abbrev pub number_after : ℕ → ℕ → Option ℕ → ℕ
number_after first none None = none
number_after first none (Some offset) = capped (first + offset)

abbrev pub number_from : Base → Path → ℕ
number_from b path = number_after b.first b.none (offset_of b.tables.now b.at path)

-- where the signals of an instance stand
abbrev pub base_inside : Base → Slot → ℕ → Base
base_inside b s at = record { tables = b.tables; at = at; first = capped (b.first + s.offset); none = b.none }

-- the slot of an instance with the number of its module, which stands before the module that has it
abbrev pub inside_entrance : ℕ → Slot → Option ℕ → Option (Slot × ℕ)
inside_entrance at s None = None
inside_entrance at s (Some inner) = if nat_lt inner at then Some (s, inner) else None

abbrev pub slot_entrance : ℕ → Option Slot → Option (Slot × ℕ)
slot_entrance at None = None
slot_entrance at (Some s) = inside_entrance at s s.inside

abbrev pub entrance : Base → List ℕ → Option (Slot × ℕ)
entrance b name = slot_entrance b.at (table_slot (slice_get b.tables.now b.at) name)

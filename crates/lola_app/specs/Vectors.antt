-- The vectors of a design, and those of one bit, which are what tables see of it.
use Rattle.std.specs.Prelude.{ℕ, nat_eq, List, filter, map, string_bytes}
use Rattle.lola_elab.specs.declared.vector.Vector.{Vector}
use Rattle.lola_elab.specs.declared.design.Design.{Design}
use Rattle.lola_elab.specs.Elaborated.{vector_names}
use Rattle.lola_app.specs.declared.face.Face.{Face}
use Rattle.lola_app.specs.Small.{Interface}

-- the names of the vectors of one bit
abbrev pub bit_names : List Vector → List (List ℕ)
bit_names vectors = vector_names (filter (λ (v : Vector). nat_eq v.width 1) vectors)

-- the interface of a design
abbrev pub face_of : Design → Interface
face_of d = record { root = string_bytes d.root; inputs = bit_names d.inputs.items; registers = bit_names d.registers.items }

-- the interface that a face holds
abbrev pub interface_in : Face → Interface
interface_in face = record { root = string_bytes face.root; inputs = map string_bytes face.inputs.items; registers = map string_bytes face.registers.items }

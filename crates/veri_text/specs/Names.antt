-- Sets of names, and how the ports of a net are declared.
use Rattle.std.specs.Prelude.{ℕ, Bool, false, cond, ◌||◌, List, [], ◌∷◌, bytes_eq}
use Rattle.indexmap.specs.IndexSet.{contains_text}
use Rattle.lola_net.specs.declared.node.Node.{Node}
use Rattle.lola_net.specs.declared.node.Node.TheVariants.{Free, Latch, Pad, Gate}
use Rattle.veri_text.specs.declared.names.Names.{Names}
use Rattle.veri_text.specs.declared.pieces.Role.{Role}
use Rattle.veri_text.specs.declared.pieces.Role.TheVariants as role

-- which names are in a set
abbrev pub Taken : Type 0
Taken = List ℕ → Bool

abbrev pub none_taken : Taken
none_taken name = false

abbrev pub taken_with : Taken → List ℕ → Taken
taken_with taken name other = bytes_eq name other || taken other

-- the set as the code holds it
abbrev pub taken_in : Names → Taken
taken_in names name = contains_text names.names name

-- the names of outputs
abbrev pub outputs_taken : Taken → List (List ℕ × ℕ) → Taken
outputs_taken taken [] = taken
outputs_taken taken (o ∷ more) = outputs_taken (taken_with taken o.0) more

-- the names of pads
abbrev pub pad_taken : Taken → Node → Taken
pad_taken taken (Free name) = taken
pad_taken taken (Latch name next) = taken
pad_taken taken (Pad name value release) = taken_with taken name
pad_taken taken (Gate a b) = taken

abbrev pub pads_taken : Taken → List Node → Taken
pads_taken taken [] = taken
pads_taken taken (x ∷ more) = pads_taken (pad_taken taken x) more

-- a port is an output or a pad, and else an input
abbrev pub role_of : Taken → Taken → List ℕ → Role
role_of outputs pads name = cond (outputs name) role.Output (cond (pads name) role.Inout role.Input)

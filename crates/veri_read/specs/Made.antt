-- The net of what a text says.
use Rattle.std.specs.Prelude.{ℕ, suc, ◌*◌, Bool, false, cond, not, ◌&&◌, nat_eq, nat_le, List, [], ◌∷◌, ◌++◌, length, map, Option, Some, None}
use Rattle.std.specs.List.{list_any, flat_map}
use Rattle.lola_net.specs.declared.node.Node.{Node}
use Rattle.lola_net.specs.declared.node.Node.TheVariants.{Free, Latch, Pad}
use Rattle.lola_net.specs.declared.net.Net.{Net}
use Rattle.lola_gate.specs.Gates.{gates_calls, flipped, with_next}
use Rattle.veri_read.specs.declared.literal.Kind.{Kind}
use Rattle.veri_read.specs.declared.literal.Kind.TheVariants as kind
use Rattle.veri_read.specs.declared.literal.Declared.{Declared}
use Rattle.veri_read.specs.Tables.{Names, find, put}
use Rattle.veri_read.specs.Said.{Term, Constant, Of, Assigned, Said}
use Rattle.veri_read.specs.Faults.{is_kind, is_clock}

-- the nodes made so far, and the literals that names stand for
pub record Made : Type 0 where
  pub nodes : List Node
  pub literals : Names ℕ

abbrev pub nothing_made : Made
nothing_made = record { nodes = []; literals = [] }

-- the literal of a name; each that is used has one
abbrev pub literal_or : Option ℕ → ℕ
literal_or None = 0
literal_or (Some l) = l

abbrev pub literal_of : Names ℕ → Term → ℕ
literal_of literals (Constant value) = cond value 1 0
literal_of literals (Of negated name) = cond negated (flipped (literal_or (find literals name))) (literal_or (find literals name))

-- a name stands for a literal
abbrev pub with_literal : Made → List ℕ → ℕ → Made
with_literal m name l = record { nodes = m.nodes; literals = put m.literals name l }

-- a node is put behind the others, and a name stands for it
abbrev pub with_node : Made → List ℕ → Node → Made
with_node m name x = record { nodes = m.nodes ++ x ∷ []; literals = put m.literals name (2 * suc (length m.nodes)) }

-- each input but the clock is a free node
abbrev pub with_input : Option (List ℕ) → Made → List ℕ × Declared → Made
with_input clock m d = cond (is_kind d.1.kind kind.Input && not (is_clock clock d.0)) (with_node m d.0 (Free d.0)) m

abbrev pub with_inputs : Option (List ℕ) → Made → Names Declared → Made
with_inputs clock m [] = m
with_inputs clock m (d ∷ ds) = with_inputs clock (with_input clock m d) ds

-- each register is a latch
abbrev pub with_register : Made → List ℕ × Declared → Made
with_register m d = cond (is_kind d.1.kind kind.Reg) (with_node m d.0 (Latch d.0 0)) m

abbrev pub with_registers : Made → Names Declared → Made
with_registers m [] = m
with_registers m (d ∷ ds) = with_registers (with_register m d) ds

-- a wire stands for the `and` of its literals, if there is a place for it; a pad is a node; an output stands for its literal
abbrev pub with_both : Made → List ℕ → Option (List Node × ℕ) → Option Made
with_both m name None = None
with_both m name (Some r) = Some (record { nodes = r.0; literals = put m.literals name r.1 })

abbrev pub with_assigned : Kind → Made → Assigned → Option Made
with_assigned kind.Wire m a = with_both m a.target (gates_calls.both m.nodes (literal_of m.literals a.first) (literal_of m.literals a.second))
with_assigned kind.Inout m a = Some (with_node m a.target (Pad a.target (literal_of m.literals a.second) (literal_of m.literals a.first)))
with_assigned k m a = Some (with_literal m a.target (literal_of m.literals a.second))

abbrev pub then_made : Option Made → (Made → Option Made) → Option Made
then_made None more = None
then_made (Some m) more = more m

abbrev pub with_assigns : List Assigned → Made → Option Made
with_assigns [] m = Some m
with_assigns (a ∷ more) m = then_made (with_assigned a.kind m a) (with_assigns more)

-- the nodes in order: inputs, registers, gates and pads; None where there is no place for a gate
abbrev pub made : Said → Option Made
made s = with_assigns s.assigns (with_registers (with_inputs s.clock nothing_made s.declared) s.declared)

-- the next literals of registers, in the order of their declarations
abbrev pub next_of : Option Term → Term
next_of None = Constant false
next_of (Some term) = term

abbrev pub next_here : Said → Names ℕ → List ℕ × Declared → List ℕ
next_here s literals d = cond (is_kind d.1.kind kind.Reg) (literal_of literals (next_of (find s.nexts d.0)) ∷ []) []

abbrev pub next_literals : Said → Names ℕ → Names Declared → List ℕ
next_literals s literals ds = flat_map (next_here s literals) ds

-- the outputs, in the order of their declarations
abbrev pub output_here : Names ℕ → List ℕ × Declared → List (List ℕ × ℕ)
output_here literals d = cond (is_kind d.1.kind kind.Output) ((d.0, literal_or (find literals d.0)) ∷ []) []

abbrev pub outputs_of : Names ℕ → Names Declared → List (List ℕ × ℕ)
outputs_of literals ds = flat_map (output_here literals) ds

-- a module's name without a capital letter loses a final `_`
abbrev pub has_capital_letter : List ℕ → Bool
has_capital_letter name = list_any (λ b. nat_le 65 b && nat_le b 90) name

abbrev pub without_mark : List ℕ → List ℕ
without_mark [] = []
without_mark (b ∷ []) = cond (nat_eq b 95) [] (b ∷ [])
without_mark (b ∷ c ∷ bs) = b ∷ without_mark (c ∷ bs)

abbrev pub module_named : List ℕ → List ℕ
module_named name = cond (has_capital_letter name) name (without_mark name)

abbrev pub net_of : Said → Made → Net
net_of s m = record {
  name = module_named s.module_name;
  clock = s.clock;
  ports = map (λ p. p.0) s.ports;
  nodes = with_next (next_literals s m.literals s.declared) m.nodes;
  outputs = outputs_of m.literals s.declared;
}

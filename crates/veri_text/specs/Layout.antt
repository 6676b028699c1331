-- The text of a net, line by line.
use Rattle.std.specs.Prelude.{ℕ, ◌+◌, ◌-◌, ◌/◌, ◌%◌, Bool, cond, nat_eq, nat_le, ◌&&◌, List, [], ◌∷◌, ◌++◌, Option, Some, None, slice_get, codes, decimal}
use Rattle.std.specs.List.{list_any}
use Rattle.lola_net.specs.declared.node.Node.{Node}
use Rattle.lola_net.specs.declared.node.Node.TheVariants.{Free, Latch, Pad, Gate}
use Rattle.lola_net.specs.declared.net.Net.{Net}
use Rattle.veri_text.specs.declared.pieces.Role.{Role}
use Rattle.veri_text.specs.declared.pieces.Role.TheVariants as role
use Rattle.veri_text.specs.Names.{Taken, none_taken, outputs_taken, pads_taken, role_of}

-- the wire of a gate is `_` and its number
abbrev pub wire_text : ℕ → List ℕ
wire_text n = codes "_" ++ decimal n

-- the name of a node with its number
abbrev pub node_name : ℕ → Node → List ℕ
node_name n (Free name) = name
node_name n (Latch name next) = name
node_name n (Pad name value release) = name
node_name n (Gate a b) = wire_text n

abbrev pub some_name : ℕ → Option Node → List ℕ
some_name n None = []
some_name n (Some x) = node_name n x

-- the name of the node of a number
abbrev pub node_text : List Node → ℕ → List ℕ
node_text nodes n = cond (nat_eq n 0) [] (some_name n (slice_get nodes (n - 1)))

-- a literal: a constant, a name, or `~` and a name
abbrev pub literal_text : List Node → ℕ → List ℕ
literal_text nodes l =
    cond (nat_eq l 0) (codes "1'b0")
    (cond (nat_eq l 1) (codes "1'b1")
    (cond (nat_eq (l % 2) 0) (node_text nodes (l / 2)) (codes "~" ++ node_text nodes (l / 2))))

-- the declaration of a port
abbrev pub word_of : Role → List ℕ
word_of role.Input = codes "input "
word_of role.Output = codes "output "
word_of role.Inout = codes "inout "

abbrev pub port_line : Role → List ℕ → List ℕ
port_line r name = word_of r ++ (name ++ codes ";\n")

-- a gate is declared as a wire, and a latch as a reg
abbrev pub wire_line : ℕ → Node → List ℕ
wire_line n (Free name) = []
wire_line n (Latch name next) = []
wire_line n (Pad name value release) = []
wire_line n (Gate a b) = codes "wire " ++ (wire_text n ++ codes ";\n")

abbrev pub reg_line : Node → List ℕ
reg_line (Free name) = []
reg_line (Latch name next) = codes "reg " ++ (name ++ codes ";\n")
reg_line (Pad name value release) = []
reg_line (Gate a b) = []

-- a gate is assigned the `and` of its literals
abbrev pub gate_line : List Node → ℕ → ℕ → ℕ → List ℕ
gate_line nodes n a b = codes "assign " ++ (wire_text n ++ (codes " = " ++ (literal_text nodes a ++ (codes " & " ++ (literal_text nodes b ++ codes ";\n")))))

-- a pad is let go where its release is 1, and has its value where that is 0
abbrev pub pad_line : List Node → List ℕ → ℕ → ℕ → List ℕ
pad_line nodes name value release = codes "assign " ++ (name ++ (codes " = " ++ (literal_text nodes release ++ (codes " ? 1'bz : " ++ (literal_text nodes value ++ codes ";\n")))))

abbrev pub assign_line : List Node → ℕ → Node → List ℕ
assign_line nodes n (Free name) = []
assign_line nodes n (Latch name next) = []
assign_line nodes n (Pad name value release) = pad_line nodes name value release
assign_line nodes n (Gate a b) = gate_line nodes n a b

-- an output is assigned its literal
abbrev pub output_line : List Node → List ℕ × ℕ → List ℕ
output_line nodes o = codes "assign " ++ (o.0 ++ (codes " = " ++ (literal_text nodes o.1 ++ codes ";\n")))

-- a register takes its next literal at the clock
abbrev pub next_line : List Node → Node → List ℕ
next_line nodes (Free name) = []
next_line nodes (Latch name next) = name ++ (codes " <= " ++ (literal_text nodes next ++ codes ";\n"))
next_line nodes (Pad name value release) = []
next_line nodes (Gate a b) = []

-- a module's name without a capital letter has `_` behind it, so that it is no word of Verilog
abbrev pub has_capital_letter : List ℕ → Bool
has_capital_letter name = list_any (λ b. nat_le 65 b && nat_le b 90) name

abbrev pub module_name : List ℕ → List ℕ
module_name name = name ++ cond (has_capital_letter name) [] (codes "_")

-- the list of ports
abbrev pub more_ports : List (List ℕ) → List ℕ
more_ports [] = []
more_ports (p ∷ more) = codes "," ++ (p ++ more_ports more)

abbrev pub ports_list : List (List ℕ) → List ℕ
ports_list [] = []
ports_list (p ∷ more) = p ++ more_ports more

-- the lines of some ports, of nodes from a number on, and of outputs
abbrev pub ports_lines : Taken → Taken → List (List ℕ) → List ℕ
ports_lines outputs pads [] = []
ports_lines outputs pads (p ∷ more) = port_line (role_of outputs pads p) p ++ ports_lines outputs pads more

abbrev pub wires_from : ℕ → List Node → List ℕ
wires_from n [] = []
wires_from n (x ∷ more) = wire_line n x ++ wires_from (n + 1) more

abbrev pub regs_lines : List Node → List ℕ
regs_lines [] = []
regs_lines (x ∷ more) = reg_line x ++ regs_lines more

abbrev pub assigns_from : List Node → ℕ → List Node → List ℕ
assigns_from nodes n [] = []
assigns_from nodes n (x ∷ more) = assign_line nodes n x ++ assigns_from nodes (n + 1) more

abbrev pub outputs_lines : List Node → List (List ℕ × ℕ) → List ℕ
outputs_lines nodes [] = []
outputs_lines nodes (o ∷ more) = output_line nodes o ++ outputs_lines nodes more

abbrev pub nexts_lines : List Node → List Node → List ℕ
nexts_lines nodes [] = []
nexts_lines nodes (x ∷ more) = next_line nodes x ++ nexts_lines nodes more

-- the registers take their next values at the rising edge of the clock, where there is one
abbrev pub block_text : List ℕ → List Node → List ℕ
block_text clock nodes = codes "always @(posedge " ++ (clock ++ (codes ") begin\n" ++ (nexts_lines nodes nodes ++ codes "end\n")))

abbrev pub always_text : Option (List ℕ) → List Node → List ℕ
always_text None nodes = []
always_text (Some clock) nodes = block_text clock nodes

-- the module with its ports and declarations
abbrev pub head_text : Taken → Taken → Net → List ℕ
head_text outputs pads net =
    codes "module " ++ (module_name net.name ++ (codes "(" ++ (ports_list net.ports ++ (codes ");\n" ++ (ports_lines outputs pads net.ports ++ (wires_from 1 net.nodes ++ regs_lines net.nodes))))))

-- the assignments of gates and pads, of outputs, and the registers
abbrev pub body_text : Net → List ℕ
body_text net = assigns_from net.nodes 1 net.nodes ++ (outputs_lines net.nodes net.outputs ++ (always_text net.clock net.nodes ++ codes "endmodule\n"))

abbrev pub net_text : Net → List ℕ
net_text net = head_text (outputs_taken none_taken net.outputs) (pads_taken none_taken net.nodes) net ++ body_text net

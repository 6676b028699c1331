-- The net of a flat design: in which order its nodes are made, and what its ports, outputs and next literals are.
use Rattle.std.specs.Prelude.{◌≡◌, ℕ, zero, suc, List, [], ◌∷◌, ◌++◌, length, map, flat_map, reverse, get_or, cond, Option, Some, None, slice_get, Result, Ok, Err}
use Rattle.lola_bits.specs.declared.op.Op.TheVariants as op
use Rattle.lola_alg.specs.declared.algebra.AlgError.{AlgError}
use Rattle.lola_alg.specs.declared.algebra.AlgError.TheVariants.{Full, Memory}
use Rattle.lola_alg.specs.Steps.{Step, into, first}
use Rattle.lola_net.specs.declared.node.Node.{Node}
use Rattle.lola_net.specs.declared.node.Node.TheVariants.{Pad}
use Rattle.lola_net.specs.declared.net.Net.{Net}
use Rattle.lola_gate.specs.Gates.{gates_calls, with_next}
use Rattle.lola_flat.specs.Tree.{ExprTree, apply, ExprTrees, no_expr, one_expr, SignalTree, FlatTree}
use Rattle.lola_flat.specs.Value.{Env, env}
use Rattle.lola_eval.specs.Steps.{equation_step, with_vector, state_step}
use Rattle.lola_lower.specs.Names.{path_text, stem, bit_name, signal_names}
use Rattle.lola_lower.specs.Sources.{is_pad, is_wire, source_nodes, given_literals, bits_at}

-- the release and the value of a pad, whose equation chooses between what drives it from outside and its value
abbrev pub first_among : ExprTrees → Option ExprTree
first_among no_expr = None
first_among (one_expr first more) = Some first

abbrev pub others_among : ExprTrees → ExprTrees
others_among no_expr = no_expr
others_among (one_expr first more) = more

abbrev pub arguments_of : Option ExprTree → ExprTrees
arguments_of (Some (apply o args)) = args
arguments_of other = no_expr

abbrev pub release_of : Option ExprTree → Option ExprTree
release_of equation = first_among (arguments_of equation)

abbrev pub value_of : Option ExprTree → Option ExprTree
value_of equation = first_among (others_among (others_among (arguments_of equation)))

-- a pad node for each bit of a value from one on, the highest first
abbrev pub pads_down : List ℕ → ℕ → ℕ → List ℕ → List Node
pads_down text release bit [] = []
pads_down text release bit (value ∷ more) = pads_down text release (suc bit) more ++ Pad (bit_name text bit) value release ∷ []

-- the first bit of a vector, and false where there is none
abbrev pub lowest : List ℕ → ℕ
lowest bits = get_or bits 0 0

-- a pad makes its value, its release, and then its pad nodes
abbrev pub pad_step : Env (List ℕ) → SignalTree → Step (List Node) (List ℕ)
pad_step E s d =
    into (equation_step gates_calls E (value_of s.equation) d) (λ value e.
    into (equation_step gates_calls E (release_of s.equation) e) (λ release f.
    Some (f ++ pads_down (path_text s.path) (lowest release) 0 value, bits_at (suc (length f)) (length value))))

-- any other signal makes its equation
abbrev pub signal_step : Env (List ℕ) → SignalTree → Step (List Node) (List ℕ)
signal_step E s d = cond (is_pad s.kind) (pad_step E s d) (equation_step gates_calls E s.equation d)

abbrev pub some_step : Env (List ℕ) → Option SignalTree → Step (List Node) (List ℕ)
some_step E None d = Some (d, [])
some_step E (Some s) d = signal_step E s d

-- signals by their numbers, one after another: what each makes is its vector for those behind it
abbrev pub order_step : FlatTree → Env (List ℕ) → List ℕ → Step (List Node) (List (List (List ℕ)))
order_step F E [] d = Some (d, E.signals)
order_step F E (n ∷ ns) d = into (some_step E (slice_get F.signals n) d) (λ x e. order_step F (with_vector E n x) ns e)

-- the literals of elements from 0 on, each from its highest bit
abbrev pub literals_down : List (List ℕ) → List ℕ
literals_down elements = flat_map (λ (bits : List ℕ). reverse bits) elements

-- the names and literals of a vector's bits from one on, the highest first, and of elements from one on
abbrev pub outputs_down : List ℕ → ℕ → List ℕ → List (List ℕ × ℕ)
outputs_down text bit [] = []
outputs_down text bit (literal ∷ more) = outputs_down text (suc bit) more ++ (bit_name text bit, literal) ∷ []

abbrev pub outputs_from : SignalTree → ℕ → List (List ℕ) → List (List ℕ × ℕ)
outputs_from s element [] = []
outputs_from s element (bits ∷ more) = outputs_down (stem s element) 0 bits ++ outputs_from s (suc element) more

-- the bits of a port
abbrev pub names_in : Option SignalTree → List (List ℕ)
names_in None = []
names_in (Some s) = signal_names s

abbrev pub port_names : FlatTree → ℕ → List (List ℕ)
port_names F n = names_in (slice_get F.signals n)

-- the outputs of a port: those of an OUT port
abbrev pub outputs_in : Option SignalTree → List (List ℕ) → List (List ℕ × ℕ)
outputs_in None elements = []
outputs_in (Some s) elements = cond (is_wire s.kind) (outputs_from s 0 elements) []

abbrev pub port_outputs : FlatTree → List (List (List ℕ)) → ℕ → List (List ℕ × ℕ)
port_outputs F table n = outputs_in (slice_get F.signals n) (get_or table n [])

-- the clock is a port of one bit
abbrev pub clock_name : Option (List ℕ) → Option (List ℕ)
clock_name None = None
clock_name (Some name) = Some (bit_name name 0)

-- the net of the nodes of a design, whose signals have these literals, and whose registers these next ones
abbrev pub net_with : FlatTree → List Node → (signals next : List (List (List ℕ))) → Net
net_with F nodes signals next = record {
  name = F.root;
  clock = clock_name F.clock;
  ports = flat_map (port_names F) F.ports;
  nodes = with_next (flat_map literals_down next) nodes;
  outputs = flat_map (port_outputs F signals) F.ports;
}

-- inputs and registers, then the signals in the order of equations, then the next values of the registers
abbrev pub signals_made : FlatTree → Option (List Node × List (List (List ℕ)))
signals_made F = order_step F (env (given_literals F) []) F.order (source_nodes F)

abbrev pub all_made : FlatTree → Option (List Node × Net)
all_made F =
    into (signals_made F) (λ signals d.
    into (state_step gates_calls (env signals []) F.signals 0 d) (λ next e.
    Some (e, net_with F e signals next)))

abbrev pub made_net : Option (List Node × Net) → Option Net
made_net None = None
made_net (Some made) = Some made.1

-- the net of a design, where all its gates have a place
abbrev pub net_of : FlatTree → Option Net
net_of F = made_net (all_made F)

-- a lowering answers that net, and Full exactly where a gate has no place
abbrev pub Lowers : FlatTree → Result Net AlgError → Type 0
Lowers F (Ok net) = net_of F ≡ Some net
Lowers F (Err Full) = net_of F ≡ None
Lowers F (Err Memory) = Unit {0}

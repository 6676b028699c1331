-- Nodes, and the algebra over lists of them: the list is the data, a literal is a bit.
use Rattle.std.specs.Prelude.{◌≡◌, ℕ, zero, suc, ◌+◌, ◌-◌, ◌*◌, ◌/◌, ◌%◌, Bool, true, cond, ◌&&◌, nat_eq, nat_lt, List, [], ◌∷◌, ◌++◌, length, Option, Some, None, slice_get, map}
use Rattle.std.specs.Map.{lookup}
use Rattle.lola_alg.specs.Algebra.{Calls, Meaning}
use Rattle.lola_net.specs.Literals.{at_literal}
use Rattle.lola_net.specs.Equations.{is_ordered}
use Rattle.lola_net.specs.declared.node.Node.{Node}
use Rattle.lola_net.specs.declared.node.Node.TheVariants.{Free, Latch, Pad, Gate}

-- the gate at a number, as its literals with that number
abbrev pub gate_here : ℕ → Node → List ((ℕ × ℕ) × ℕ)
gate_here n (Free name) = []
gate_here n (Latch name next) = []
gate_here n (Pad name value release) = []
gate_here n (Gate a b) = ((a, b), n) ∷ []

-- the gates of nodes that are numbered from a number on
abbrev pub gates_from : ℕ → List Node → List ((ℕ × ℕ) × ℕ)
gates_from n [] = []
gates_from n (x ∷ more) = gate_here n x ++ gates_from (suc n) more

abbrev pub gates : List Node → List ((ℕ × ℕ) × ℕ)
gates d = gates_from 1 d

abbrev pub is_pair : ℕ × ℕ → ℕ × ℕ → Bool
is_pair p q = nat_eq p.0 q.0 && nat_eq p.1 q.1

-- the number of the first gate of two literals
abbrev pub found : ℕ → ℕ → List Node → Option ℕ
found a b d = lookup (is_pair (a, b)) (gates d)

-- the gate of two literals: that which is there, or a new node with the next number, if there is a place
abbrev pub placed : ℕ → ℕ → List Node → Option (List Node × ℕ)
placed a b d = cond (nat_lt (length (gates d)) 1048576) (Some (d ++ Gate a b ∷ [], 2 * suc (length d))) None

abbrev pub shared_or : ℕ → ℕ → List Node → Option ℕ → Option (List Node × ℕ)
shared_or a b d (Some n) = Some (d, 2 * n)
shared_or a b d None = placed a b d

abbrev pub shared : ℕ → ℕ → List Node → Option (List Node × ℕ)
shared a b d = shared_or a b d (found a b d)

-- the rules, where the first literal is not the greater
abbrev pub both_of : ℕ → ℕ → List Node → Option (List Node × ℕ)
both_of a b d =
    cond (nat_eq a 0) (Some (d, 0))
    (cond (nat_eq a 1) (Some (d, b))
    (cond (nat_eq a b) (Some (d, a))
    (cond (nat_eq (a / 2) (b / 2)) (Some (d, 0))
    (shared a b d))))

-- the other literal of the same node
abbrev pub flipped : ℕ → ℕ
flipped a = cond (nat_eq (a % 2) 0) (a + 1) (a - 1)

abbrev pub gates_calls : Calls (List Node) ℕ
gates_calls = record {
  constant = λ d value. (d, cond value 1 0);
  negated = λ d a. (d, flipped a);
  both = λ d a b. cond (nat_lt b a) (both_of b a d) (both_of a b d);
}

-- the value of the next node: a gate is the `and` of its literals, each other node has the bit of its number
abbrev pub next_value : (ℕ → Bool) → List Bool → Node → Bool
next_value v so (Free name) = v (suc (length so))
next_value v so (Latch name next) = v (suc (length so))
next_value v so (Pad name value release) = v (suc (length so))
next_value v so (Gate a b) = at_literal so a && at_literal so b

abbrev pub values_from : (ℕ → Bool) → List Bool → List Node → List Bool
values_from v so [] = so
values_from v so (x ∷ more) = values_from v (so ++ next_value v so x ∷ []) more

-- the values of all nodes
abbrev pub values : (ℕ → Bool) → List Node → List Bool
values v d = values_from v [] d

-- the constants are known in all data, a literal of a node where that node is there and each uses only smaller ones
abbrev pub knows_literal : List Node → ℕ → Bool
knows_literal d l = cond (nat_eq (l / 2) 0) true (is_ordered d && nat_lt (l / 2) (suc (length d)))

abbrev pub gates_meaning : Meaning (List Node) ℕ
gates_meaning = record { knows = knows_literal; value = λ d v l. at_literal (values v d) l }

-- the literals of the node at a number, where it is a gate
abbrev pub gate_of : Option Node → Option (ℕ × ℕ)
gate_of None = None
gate_of (Some (Free name)) = None
gate_of (Some (Latch name next)) = None
gate_of (Some (Pad name value release)) = None
gate_of (Some (Gate a b)) = Some (a, b)

abbrev pub gate_at : List Node → ℕ → Option (ℕ × ℕ)
gate_at d zero = None
gate_at d (suc n) = gate_of (slice_get d n)

-- the numbers of the nodes that aren't gates
abbrev pub frees_here : ℕ → Node → List ℕ
frees_here n (Free name) = n ∷ []
frees_here n (Latch name next) = n ∷ []
frees_here n (Pad name value release) = n ∷ []
frees_here n (Gate a b) = []

abbrev pub frees_from : ℕ → List Node → List ℕ
frees_from n [] = []
frees_from n (x ∷ more) = frees_here n x ++ frees_from (suc n) more

abbrev pub frees : List Node → List ℕ
frees d = frees_from 1 d

-- these values are those of the nodes, for each assignment that gives the bits of those that aren't gates
abbrev pub AreValues : List Node → List Bool → List Bool → Type 0
AreValues d free all = (v : ℕ → Bool) → map v (frees d) ≡ free → all ≡ values v d

-- the first next literal, and 0 where there is none
abbrev pub first_next : List ℕ → ℕ
first_next [] = 0
first_next (l ∷ more) = l

abbrev pub later_next : List ℕ → List ℕ
later_next [] = []
later_next (l ∷ more) = more

-- a latch takes the first of the next literals, and the rest is for the nodes behind it
abbrev pub node_with : List ℕ → Node → Node
node_with next (Free name) = Free name
node_with next (Latch name old) = Latch name (first_next next)
node_with next (Pad name value release) = Pad name value release
node_with next (Gate a b) = Gate a b

abbrev pub left_with : List ℕ → Node → List ℕ
left_with next (Free name) = next
left_with next (Latch name old) = later_next next
left_with next (Pad name value release) = next
left_with next (Gate a b) = next

-- the nodes where the latches have these next literals, in order
abbrev pub with_next : List ℕ → List Node → List Node
with_next next [] = []
with_next next (x ∷ more) = node_with next x ∷ with_next (left_with next x) more

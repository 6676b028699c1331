-- How many nodes of each kind there are.
use Rattle.std.specs.Prelude.{ℕ, ◌+◌, List, [], ◌∷◌}
use Rattle.lola_net.specs.declared.node.Node.{Node}
use Rattle.lola_net.specs.declared.node.Node.TheVariants.{Free, Latch, Pad, Gate}

-- 1 for a free node
abbrev pub free_here : Node → ℕ
free_here (Free name) = 1
free_here (Latch name next) = 0
free_here (Pad name value release) = 0
free_here (Gate a b) = 0

-- 1 for a latch
abbrev pub latch_here : Node → ℕ
latch_here (Free name) = 0
latch_here (Latch name next) = 1
latch_here (Pad name value release) = 0
latch_here (Gate a b) = 0

-- 1 for a pad
abbrev pub pad_here : Node → ℕ
pad_here (Free name) = 0
pad_here (Latch name next) = 0
pad_here (Pad name value release) = 1
pad_here (Gate a b) = 0

abbrev pub count_of : (Node → ℕ) → List Node → ℕ
count_of here [] = 0
count_of here (x ∷ more) = here x + count_of here more

abbrev pub frees : List Node → ℕ
frees nodes = count_of free_here nodes

abbrev pub latches : List Node → ℕ
latches nodes = count_of latch_here nodes

abbrev pub pads : List Node → ℕ
pads nodes = count_of pad_here nodes
